-- An event that changes one number and no byte leaves the pages that only attacks change, where that number keeps its pages or has none.
use Rattle.std.proofs.Common.{◌≡◌, ◌≢◌, ℕ, true, List, slice_get, Some, sym, ap, subst}
use Rattle.std.specs.Prelude.{Contains}
use Rattle.mon_enclave.specs.declared.enclave.Enclave.{Enclave}
use Rattle.mon_enclave.specs.declared.enclave.PageKind.{PageKind}
use Rattle.mon_enclave.specs.Records.{enclave_at}
use Rattle.mon_owner.specs.declared.owners.Owner.{Owner}
use Rattle.mon_owner.specs.declared.owners.Owner.TheVariants as owner_is
use Rattle.pl_history.specs.Monitor.{Monitor}
use Rattle.world_machine.specs.declared.under.Under.{Under}
use Rattle.world_machine.specs.BytesAgree.{HasPut, OnlyAttacksDiffer}
use Rattle.world_machine.specs.EnclavesAgree.{is_made}
use Rattle.world_machine.specs.Pages.{numbers_of}
use Rattle.world_machine.specs.Standing.{Kept, state_of}
use Rattle.world_machine.specs.Worlds.{WorldData, hart_line, under_at}
use Rattle.world_machine.proofs.RowKept.{attacks_frame, line_after}

module _ (digest_of : List ℕ → List ℕ) (w : WorldData) (k : Kept digest_of w) (actor e : ℕ) (rec' : ℕ → Enclave) (s' : Monitor) (owners' : List Owner) (under' : List Under)
    (answered' : List ℕ) where
  pub record OneNumberChanges : Type 0 where
    pub attacks : s'.attacks ≡ (state_of w).attacks
    pub records : (f : ℕ) → f ≢ e → rec' f ≡ enclave_at w.enclaves f
    pub numbers : (f : ℕ) → f ≢ e → s'.number f ≡ (state_of w).number f
    pub guarded : (page : ℕ) → slice_get owners' page ≡ Some owner_is.Guard → slice_get w.owners page ≡ Some owner_is.Guard
    pub made : is_made (s'.number e) ≡ true → (is_made ((state_of w).number e) ≡ true) × ((rec' e).pages ≡ (enclave_at w.enclaves e).pages)
    pub lines : (other : ℕ) → other ≢ actor → line_after w answered' other ≡ hart_line w other
    pub unders : (other : ℕ) → other ≢ actor → under_at under' other ≡ under_at w.under other
    pub put : (page : ℕ) → HasPut (line_after w answered' actor) (under_at under' actor) page → ⊥

  pub attacks_stay : OneNumberChanges → OnlyAttacksDiffer w.setup.zones w.ctl.off_chip w.ctl.mirror s'.attacks owners' rec' s'.number (line_after w answered') (under_at under')
  attacks_stay c = subst (λ a. OnlyAttacksDiffer w.setup.zones w.ctl.off_chip w.ctl.mirror a owners' rec' s'.number (line_after w answered') (under_at under')) (sym c.attacks)
      (attacks_frame w.setup.zones w.ctl.off_chip w.ctl.mirror w.ctl.off_chip w.ctl.mirror (state_of w).attacks (state_of w).attacks w.owners owners' (enclave_at w.enclaves) rec'
      (state_of w).number s'.number (hart_line w) (line_after w answered') (under_at w.under) (under_at under') actor e (λ i old. old)
      (record {
        guarded = c.guarded;
        made = λ f other. ap is_made (c.numbers f other);
        pages = λ f other. ap (λ (r : Enclave). r.pages) (c.records f other);
        lines = c.lines;
        unders = c.unders;
        made_own = λ page listed made. (let was = c.made made in
            k.stands.attacks.made page e (subst (λ (kinds : List PageKind). Contains (numbers_of kinds) page) was.1 listed) was.0);
        put_own = λ page put. absurd (c.put page put);
      })
      k.stands.attacks)
