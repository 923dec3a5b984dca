-- A line that makes a number of an image: `create`, or `shadow`.
use Rattle.std.proofs.Common.{◌≡◌, ℕ, ◌<◌, ltb, Bool, true, false, if◌then◌else◌, List, [], length, take, slice_get, Some, None, refl, ap}
use Rattle.std.specs.Prelude.{Contains}
use Rattle.std.proofs.lemmas.Bool.{and_parts, ltb-true}
use Rattle.std.proofs.lemmas.Option.{slice_get-get_or}
use Rattle.pl_base.specs.declared.number.EncNo.{EncNo}
use Rattle.pl_base.specs.declared.place.Place.{Place}
use Rattle.pl_base.specs.declared.refusal.No.{No}
use Rattle.pl_base.specs.declared.refusal.No.TheVariants as refused
use Rattle.pl_base.specs.declared.state.State.TheVariants as state_is
use Rattle.mon_enclave.specs.declared.enclave.Enclave.{Enclave}
use Rattle.pl_history.specs.declared.answer.Answer.TheVariants as answer_is
use Rattle.pl_history.specs.declared.line.Line.{Line}
use Rattle.pl_history.specs.declared.line.Line.TheVariants as line_is
use Rattle.pl_history.specs.declared.setup.SetupParts.{SetupParts}
use Rattle.pl_history.specs.Legal.{AllowedAnswer, after_answer}
use Rattle.pl_history.specs.Licence.{Licensed, number_pages, pages_concerned}
use Rattle.pl_history.specs.Making.{building, create_refusal, made_faulted}
use Rattle.pl_history.specs.Monitor.{Monitor, Number, answer, begin, script_of, with_number}
use Rattle.pl_history.specs.Rules.{IsSetup, names_known}
use Rattle.world_machine.specs.declared.under.Under.TheVariants.{Putting}
use Rattle.world_machine.specs.BytesAgree.{HasPut}
use Rattle.world_machine.specs.LinesUnderWay.{IsBuilding, LineUnderWay, number_under_way}
use Rattle.world_machine.specs.TranslationsAgree.{walking}
use Rattle.world_machine.proofs.SetupFacts.{CreateNames, line_names}

abbrev pub make_line : Bool → EncNo → ℕ → List ℕ → Line
make_line true e image pages = line_is.Shadow e image pages
make_line false e image pages = line_is.Create e image pages

-- the number once it is made, and the monitor's state
abbrev pub made_number : Bool → Number → Number
made_number true n = record n { state = state_is.Sealed }
made_number false n = record n { state = state_is.Fresh; live = true }

abbrev pub made_by : Bool → Monitor → ℕ → Monitor
made_by shadow s e = with_number s e (made_number shadow (s.number e))

module _ (e : EncNo) (image : ℕ) (pages : List ℕ) where
  pub makes_number : (shadow : Bool) (done : ℕ) → number_under_way (Some (make_line shadow e image pages)) (Putting done) ≡ Some e.0
  makes_number true done = refl
  makes_number false done = refl

  pub make_walks_none : (shadow : Bool) (tables : ℕ) (rec : ℕ → Enclave) (done : ℕ) → walking tables rec (Some (make_line shadow e image pages)) (Putting done) ≡ None
  make_walks_none true tables rec done = refl
  make_walks_none false tables rec done = refl

  -- the pages that it has put
  pub has_put : (shadow : Bool) (done page : ℕ) → HasPut (Some (make_line shadow e image pages)) (Putting done) page → Contains (take done pages) page
  has_put true done page put = put
  has_put false done page put = put

  pub put_has : (shadow : Bool) (done page : ℕ) → Contains (take done pages) page → HasPut (Some (make_line shadow e image pages)) (Putting done) page
  put_has true done page put = put
  put_has false done page put = put

  module _ (setup : SetupParts) (bytes_of : ℕ → List ℕ) (rec : ℕ → Enclave) (number : ℕ → Number) (hart done : ℕ) where
    pub is_building : (shadow : Bool) → LineUnderWay setup bytes_of rec number hart (Some (make_line shadow e image pages)) (Putting done)
        → IsBuilding setup bytes_of (rec e.0) e.0 image shadow pages done
    is_building true k = k
    is_building false k = k

    pub building_is : (shadow : Bool) → IsBuilding setup bytes_of (rec e.0) e.0 image shadow pages done
        → LineUnderWay setup bytes_of rec number hart (Some (make_line shadow e image pages)) (Putting done)
    building_is true k = k
    building_is false k = k

  -- ---- its answers

  module _ (setup : SetupParts) (s : Monitor) where
    pub may_refuse : (shadow : Bool) (cause : No) → create_refusal setup s e.0 image pages ≡ Some cause
        → AllowedAnswer setup s (make_line shadow e image pages) false (answer_is.No cause)
    may_refuse true cause is = is
    may_refuse false cause is = is

    pub may_begin : (shadow : Bool) → create_refusal setup s e.0 image pages ≡ None → AllowedAnswer setup s (make_line shadow e image pages) false answer_is.Begun
    may_begin true none = none
    may_begin false none = none

    pub may_end : (shadow : Bool) → AllowedAnswer setup s (make_line shadow e image pages) true answer_is.Ok
    may_end true = refl
    may_end false = refl

    pub may_fault : (shadow : Bool) (place : Place) → Licensed setup s (make_line shadow e image pages) place
        → AllowedAnswer setup s (make_line shadow e image pages) true (answer_is.No (refused.Fault place))
    may_fault true place licensed = licensed
    may_fault false place licensed = licensed

    pub concerns : (shadow : Bool) → pages_concerned setup s (make_line shadow e image pages) ≡ number_pages setup s e.0
    concerns true = refl
    concerns false = refl

  module _ (s : Monitor) (hart : ℕ) where
    pub begun_gives : (shadow : Bool) → after_answer s hart (make_line shadow e image pages) answer_is.Begun ≡ begin (building s e.0 image pages) hart
    begun_gives true = refl
    begun_gives false = refl

    pub ended_gives : (shadow : Bool) → after_answer s hart (make_line shadow e image pages) answer_is.Ok ≡ answer (made_by shadow s e.0) hart
    ended_gives true = refl
    ended_gives false = refl

    -- a refusal after Begun stops the making, and one before it changes nothing
    pub refused_gives : (shadow begun : Bool) (cause : No) → (s.progress hart).begun ≡ begun
        → after_answer s hart (make_line shadow e image pages) (answer_is.No cause) ≡ answer (if begun then made_faulted s e.0 else s) hart
    refused_gives true begun cause is = ap (λ b. answer (if b then made_faulted s e.0 else s) hart) is
    refused_gives false begun cause is = ap (λ b. answer (if b then made_faulted s e.0 else s) hart) is

  -- ---- what it names

  pub make_names : (setup : SetupParts) (hart at : ℕ) (shadow : Bool) → IsSetup setup
      → slice_get (script_of setup hart) at ≡ Some (make_line shadow e image pages) → CreateNames setup e.0 image
  make_names setup hart at shadow rules here = names_there (known shadow (line_names setup hart at (make_line shadow e image pages) rules here))
    where
      known : (b : Bool) → names_known setup.enclaves (length setup.images) (make_line b e image pages) ≡ true
          → names_known setup.enclaves (length setup.images) (line_is.Create e image pages) ≡ true
      known true is = is
      known false is = is

      names_there : names_known setup.enclaves (length setup.images) (line_is.Create e image pages) ≡ true → CreateNames setup e.0 image
      names_there is =
          let both = and_parts (ltb e.0 setup.enclaves) (ltb image (length setup.images)) is in
          let few : image < length setup.images = ltb-true image (length setup.images) both.1 in
          record { there = ltb-true e.0 setup.enclaves both.0; image = _; image_is = slice_get-get_or setup.images image (record { entry = 0; pages = [] }) few }
