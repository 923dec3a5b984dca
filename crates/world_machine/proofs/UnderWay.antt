-- What a line under way says of its number, and whose the pages of a record are.
use Rattle.std.proofs.Common.{◌≡◌, ◌||◌, ℕ, true, false, List, [], ◌∷◌, map, Option, Some, None, refl, sym, ap, ◌∙◌, subst, inl, inr}
use Rattle.std.specs.Prelude.{Contains}
use Rattle.std.specs.List.{All}
use Rattle.std.proofs.lemmas.Bool.{cases_Bool}
use Rattle.std.proofs.lemmas.List.Elements.{All-contains, All-map, All-weaker}
use Rattle.pl_base.specs.declared.number.EncNo.{EncNo}
use Rattle.pl_base.specs.declared.state.State.{State}
use Rattle.pl_base.specs.declared.state.State.TheVariants as state_is
use Rattle.pl_base.specs.States.{is_free, is_sealed, is_under_way}
use Rattle.mon_enclave.specs.declared.enclave.Enclave.{Enclave}
use Rattle.mon_enclave.specs.declared.enclave.PageKind.{PageKind}
use Rattle.mon_enclave.specs.declared.enclave.PageKind.TheVariants.{Own, Shared}
use Rattle.mon_enclave.specs.Records.{page_number_of}
use Rattle.mon_owner.specs.declared.owners.Owner.{Owner}
use Rattle.pl_history.specs.declared.line.Line.{Line}
use Rattle.pl_history.specs.declared.line.Line.TheVariants.{Create, Shadow, Fork, Run, Resume, Destroy}
use Rattle.pl_history.specs.declared.setup.SetupParts.{SetupParts}
use Rattle.pl_history.specs.Monitor.{Number}
use Rattle.world_machine.specs.declared.under.Under.{Under}
use Rattle.world_machine.specs.declared.under.Under.TheVariants.{Breaking, Destroying, Putting, Running}
use Rattle.world_machine.specs.EnclavesAgree.{IsOwnOrShared, IsOwn, is_made}
use Rattle.world_machine.specs.LinesUnderWay.{LineUnderWay, number_under_way}
use Rattle.world_machine.specs.Pages.{numbers_of}
use Rattle.world_machine.specs.RecordsAgree.{RecordAgrees}
use Rattle.world_machine.proofs.TranslationFrames.{live_in_use}

pub some_same : (e f : ℕ) → Some e ≡ Some f → e ≡ f
some_same e f same = cc

busy_as : (rec : ℕ → Enclave) (f e : ℕ) → Some f ≡ Some e → is_under_way (rec f).state ≡ true → is_under_way (rec e).state ≡ true
busy_as rec f e is = subst (λ g. is_under_way (rec g).state ≡ true) (some_same f e is)

-- a number that a line has under way is in a state that says so
pub under_way_busy : (setup : SetupParts) (bytes : ℕ → List ℕ) (rec : ℕ → Enclave) (number : ℕ → Number) (hart e : ℕ) (line : Option Line) (under : Under)
    → LineUnderWay setup bytes rec number hart line under → number_under_way line under ≡ Some e → is_under_way (rec e).state ≡ true
under_way_busy setup bytes rec number hart e (Some (Create f image pages)) (Putting done) k is = busy_as rec f.0 e is (ap is_under_way k.putting.state)
under_way_busy setup bytes rec number hart e (Some (Shadow f image pages)) (Putting done) k is = busy_as rec f.0 e is (ap is_under_way k.putting.state)
under_way_busy setup bytes rec number hart e (Some (Fork shadow f pages)) (Putting done) k is = busy_as rec f.0 e is (ap is_under_way k.putting.state)
under_way_busy setup bytes rec number hart e (Some (Run f budget)) (Running micro count) k is = busy_as rec f.0 e is (ap is_under_way k.state)
under_way_busy setup bytes rec number hart e (Some (Run f budget)) (Breaking count index) k is = busy_as rec f.0 e is (ap is_under_way k.running.state)
under_way_busy setup bytes rec number hart e (Some (Resume f budget)) (Running micro count) k is = busy_as rec f.0 e is (ap is_under_way k.state)
under_way_busy setup bytes rec number hart e (Some (Resume f budget)) (Breaking count index) k is = busy_as rec f.0 e is (ap is_under_way k.running.state)
under_way_busy setup bytes rec number hart e (Some (Destroy f)) Destroying k is = busy_as rec f.0 e is (ap is_under_way k)
under_way_busy setup bytes rec number hart e line under k is = let clash : None ≡ Some e = is in cc

busy_used : (state : State) → is_under_way state ≡ true → is_free state ≡ false
busy_used state_is.Free is = (let clash : false ≡ true = is in absurd (let h : ⊥ = cc in h))
busy_used state is = refl

-- so it isn't free
pub line_used : (setup : SetupParts) (bytes : ℕ → List ℕ) (rec : ℕ → Enclave) (number : ℕ → Number) (hart : ℕ) (line : Option Line) (under : Under) (f : ℕ)
    → LineUnderWay setup bytes rec number hart line under → number_under_way line under ≡ Some f → is_free (rec f).state ≡ false
line_used setup bytes rec number hart line under f k is = busy_used (rec f).state (under_way_busy setup bytes rec number hart f line under k is)

pub own_numbers : (pages : List ℕ) → numbers_of (map Own pages) ≡ pages
own_numbers [] = refl
own_numbers (page ∷ pages) = ap (λ rest. page ∷ rest) (own_numbers pages)

-- a page of a record is a number's
abbrev pub IsOfSome : List Owner → ℕ → Type 0
IsOfSome owners page = (f : ℕ) × IsOwn owners f page

held_by_some : (owners : List Owner) (e : ℕ) (parent : Option EncNo) (kind : PageKind) → IsOwnOrShared owners e parent kind → IsOfSome owners (page_number_of kind)
held_by_some owners e parent (Own page) own = (e, own)
held_by_some owners e parent (Shared page) (shadow, parent_is, own) = (shadow.0, own)

pub held_owned : (owners : List Owner) (e : ℕ) (parent : Option EncNo) (kinds : List PageKind) (page : ℕ) → All (IsOwnOrShared owners e parent) kinds → Contains (numbers_of kinds) page
    → IsOfSome owners page
held_owned owners e parent kinds page held here =
    All-contains (IsOfSome owners) (numbers_of kinds) page
    (All-map (IsOfSome owners) page_number_of kinds
    (All-weaker (IsOwnOrShared owners e parent) (λ kind. IsOfSome owners (page_number_of kind)) (held_by_some owners e parent) kinds held)) here

-- a number that is made isn't free
sealed_used : (state : State) → is_sealed state ≡ true → is_free state ≡ false
sealed_used state_is.Sealed is = refl
sealed_used state is = (let h : ⊥ = cc in absurd h)

pub made_used : (r : Enclave) (n : Number) → RecordAgrees r n → is_made n ≡ true → is_free r.state ≡ false
made_used r n agrees made = elim (cases_Bool n.live) [
  | inl live ↦ live_in_use r n agrees live
  | inr not_live ↦ sealed_used r.state (ap is_sealed (sym agrees.state) ∙ sym (ap (λ b. b || is_sealed n.state) not_live) ∙ made)
]
