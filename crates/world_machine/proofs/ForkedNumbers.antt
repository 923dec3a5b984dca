-- A number has forks only while it is a sealed shadow; so one that a line has under way has none.
use Rattle.std.proofs.Common.{◌≡◌, ◌≢◌, ℕ, List, Option, Some, sym, ap, ◌∙◌}
use Rattle.std.proofs.lemmas.Bool.{false≢true}
use Rattle.pl_base.specs.States.{is_under_way}
use Rattle.pl_base.specs.declared.number.EncNo.{EncNo}
use Rattle.pl_base.specs.declared.state.State.TheVariants as state_is
use Rattle.mon_enclave.specs.declared.enclave.Enclave.{Enclave}
use Rattle.mon_enclave.specs.Records.{enclave_at}
use Rattle.pl_history.specs.declared.line.Line.{Line}
use Rattle.pl_history.specs.declared.setup.SetupParts.{SetupParts}
use Rattle.pl_history.specs.Monitor.{Monitor, Number}
use Rattle.pl_history.specs.ShadowPages.{ShadowsStand}
use Rattle.pl_history.proofs.ShadowLemmas.{no_forks}
use Rattle.pl_history.proofs.ShadowPages.{legal_shadows}
use Rattle.world_machine.specs.declared.under.Under.{Under}
use Rattle.world_machine.specs.LinesUnderWay.{LineUnderWay, number_under_way}
use Rattle.world_machine.specs.RecordsAgree.{parent_of}
use Rattle.world_machine.specs.Standing.{Kept, state_of, written_page}
use Rattle.world_machine.specs.Worlds.{WorldData, hart_line, under_at}
use Rattle.world_machine.proofs.UnderWay.{under_way_busy}

-- a number that a line has under way isn't sealed
pub under_way_unsealed : (setup : SetupParts) (bytes : ℕ → List ℕ) (rec : ℕ → Enclave) (number : ℕ → Number) (hart e : ℕ) (line : Option Line) (under : Under)
    → LineUnderWay setup bytes rec number hart line under → number_under_way line under ≡ Some e → (rec e).state ≢ state_is.Sealed
under_way_unsealed setup bytes rec number hart e line under k is sealed =
    false≢true (sym (ap is_under_way sealed) ∙ under_way_busy setup bytes rec number hart e line under k is)

module _ (digest_of : List ℕ → List ℕ) (w : WorldData) (k : Kept digest_of w) where
  abbrev s : Monitor
  s = state_of w

  pub shadows_stand : ShadowsStand w.setup s.number
  shadows_stand = legal_shadows w.setup w.history.bytes w.history.entries k.sizes.rules k.legal

  -- a number that isn't sealed has no forks
  pub childless : (e : ℕ) → (enclave_at w.enclaves e).state ≢ state_is.Sealed → (f : ℕ) (shadow : EncNo) → (enclave_at w.enclaves f).parent ≡ Some shadow → shadow.0 ≢ e
  childless e other f shadow parent same =
      no_forks w.setup s.number shadows_stand e (λ sealed. other (sym (k.stands.records e).state ∙ sealed)) f
      ((k.stands.records f).parent ∙ ap parent_of parent ∙ ap Some same)

  pub under_way_childless : (hart e : ℕ) → number_under_way (hart_line w hart) (under_at w.under hart) ≡ Some e
      → (f : ℕ) (shadow : EncNo) → (enclave_at w.enclaves f).parent ≡ Some shadow → shadow.0 ≢ e
  under_way_childless hart e runs =
      childless e (under_way_unsealed w.setup (written_page w) (enclave_at w.enclaves) s.number hart e (hart_line w hart) (under_at w.under hart) (k.stands.lines hart) runs)
