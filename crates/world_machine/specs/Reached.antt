-- The worlds that are reached: the replays of steps from the world that a run begins with.
use Rattle.std.specs.Prelude.{◌≡◌, ℕ, ◌+◌, ◌*◌, List, [], length, min, replicate, sum_by, None}
use Rattle.mem_ctl.specs.Start.{start_data}
use Rattle.mon_enclave.specs.Records.{free_enclave}
use Rattle.mon_owner.specs.Owners.{first_owners}
use Rattle.mon_tables.specs.Tables.{start_words}
use Rattle.pl_history.specs.declared.setup.SetupParts.{SetupParts}
use Rattle.pl_history.specs.History.{HistoryData}
use Rattle.pl_history.specs.Rules.{IsSetup, guarded_of, pages_of}
use Rattle.world_machine.specs.declared.under.Under.TheVariants.{Idle}
use Rattle.world_machine.specs.ByteBounds.{AreImageBytes}
use Rattle.world_machine.specs.LineNumbers.{ScriptsFit}
use Rattle.world_machine.specs.Steps.{AllFit, Step, replay_from}
use Rattle.world_machine.specs.Worlds.{WorldData}

-- a setup that can be run: it meets the rules, its images' bytes are bytes, and the numbers of its lines are below 2^32
pub record CanRun (setup : SetupParts) : Type 0 where
  pub rules : IsSetup setup
  pub bytes : AreImageBytes setup.images
  pub lines_fit : ScriptsFit setup.lines

-- The history that a run of a setup begins with: no entries, and room for two of each line and for all bytes that the attacker's lines
-- may add.
abbrev pub empty_history : SetupParts → HistoryData
empty_history setup = record {
  entries = [];
  bytes = [];
  entry_room = 2 * (sum_by length setup.lines + length setup.attacker);
  byte_room = min (4096 * length setup.attacker) 4194304;
}

module _ (digest_of : List ℕ → List ℕ) where
  -- The world that a run of a setup begins with: the start words of the host's tables in the guarded pages, nothing mounted; guarded pages
  -- and those of the host; free numbers; no translations and no fences; no line begun or answered; an empty history.
  unfoldable pub opening_world : SetupParts → WorldData
  opening_world setup = record {
    setup = setup;
    ctl = start_data digest_of setup.zones setup.slots (start_words setup.tables);
    owners = first_owners (guarded_of setup.tables setup.enclaves) (pages_of setup.zones);
    enclaves = replicate setup.enclaves free_enclave;
    tlbs = replicate setup.harts [];
    fences = replicate setup.harts None;
    under = replicate setup.harts Idle;
    answered = replicate (setup.harts + 1) 0;
    history = empty_history setup;
    collision = None;
    moves = 0;
  }

  -- a world is the replay of steps that fit, each the one of those before it
  pub record Reached (w : WorldData) : Type 0 where
    pub setup : CanRun w.setup
    pub steps : List Step
    pub is : w ≡ replay_from digest_of (opening_world w.setup) steps
    pub fit : AllFit digest_of (opening_world w.setup) steps
