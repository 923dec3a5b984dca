-- What holds of translations, fences and walks still holds where a number begins to be given back and where that ends: no written byte changes.
use Rattle.std.proofs.Common.{◌≡◌, ◌≢◌, ℕ, true, false, List, sym, ap, ◌∙◌, subst}
use Rattle.std.proofs.lemmas.Bool.{false≢true}
use Rattle.mem_ctl.specs.Data.{with_off_chip}
use Rattle.mon_enclave.specs.declared.enclave.Enclave.{Enclave}
use Rattle.mon_enclave.specs.Records.{enclave_at}
use Rattle.mon_host.specs.Laws.{mirror_words}
use Rattle.mon_life.specs.Pages.{leaves_of}
use Rattle.mon_tables.specs.SpaceWalks.{HostTables, NumberTables}
use Rattle.pl_history.specs.Monitor.{Monitor, Number}
use Rattle.world_machine.specs.Making.{image_of}
use Rattle.world_machine.specs.Standing.{Kept, state_of}
use Rattle.world_machine.specs.TablesAgree.{TablesAgree}
use Rattle.world_machine.specs.TranslationsAgree.{space_of}
use Rattle.world_machine.specs.Worlds.{WorldData}
use Rattle.world_machine.proofs.Lists.{everywhere}
use Rattle.world_machine.proofs.NumberFreshness.{AllButOneSpace}

-- the space of each number but e stays
pub other_spaces : (w : WorldData) (e : ℕ) (rec' : ℕ → Enclave) (s' : Monitor) → s'.space ≡ (state_of w).space → s'.removals ≡ (state_of w).removals
    → ((f : ℕ) → f ≢ e → rec' f ≡ enclave_at w.enclaves f) → ((f : ℕ) → f ≢ e → s'.number f ≡ (state_of w).number f)
    → AllButOneSpace w.setup (enclave_at w.enclaves) rec' (state_of w) s' e
other_spaces w e rec' s' space removals same_records same_numbers = record {
  space = space;
  removals = removals;
  lives = λ f other live. ap (λ (n : Number). n.live) (same_numbers f other) ∙ live;
  spaces = λ f other live. ap (space_of w.setup) (same_records f other);
}

-- A number that isn't live has no tables to agree with, and those of all others stay, whatever bytes have changed off chip.
module _ (digest_of : List ℕ → List ℕ) (w : WorldData) (k : Kept digest_of w) (e : ℕ) (rec' : ℕ → Enclave) (s' : Monitor) (space : s'.space ≡ (state_of w).space)
    (records : (f : ℕ) → f ≢ e → rec' f ≡ enclave_at w.enclaves f) (numbers : (f : ℕ) → f ≢ e → s'.number f ≡ (state_of w).number f)
    (not_live : (s'.number e).live ≡ false) where
  abbrev HasTables : Enclave → ℕ → Type 0
  HasTables r f = NumberTables w.setup.tables f (mirror_words w.ctl) (leaves_of r.pages (image_of w.setup r.image).pages)

  pub tables_given : (off_chip : List ℕ) → TablesAgree w.setup (with_off_chip w.ctl off_chip) rec' s'
  tables_given off_chip = record {
    host = subst (HostTables w.setup.tables (mirror_words w.ctl)) (sym space) k.stands.translations.tables.host;
    numbers = everywhere (λ f. (s'.number f).live ≡ true → HasTables (rec' f) f) e
        (λ live. absurd (false≢true (sym not_live ∙ live)))
        (λ f other live. subst (λ r. HasTables r f) (sym (records f other))
        (k.stands.translations.tables.numbers f (ap (λ (n : Number). n.live) (sym (numbers f other)) ∙ live)));
  }
