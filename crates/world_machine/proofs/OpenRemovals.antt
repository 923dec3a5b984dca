-- In a legal history a begun `unmap` has its mapping among the removals until it is answered; after that the page has no mapping left.
use Rattle.std.proofs.Common.{◌≡◌, ◌≢◌, ℕ, ◌+◌, ◌≤◌, ◌==◌, ◌&&◌, eqb, Bool, true, false, not, if◌then◌else◌, List, [], ◌∷◌, ◌++◌, is_some, cond, filter, count_by, Option, Some, None, option_map, refl, sym, ap, ◌∙◌, subst, inl, inr, arith}
use Rattle.std.specs.Option.{option_map_or}
use Rattle.std.proofs.lemmas.Bool.{and_from, and_parts, cases_Bool, eq-eqb, eqb-false, eqb-true, ne_eqb}
use Rattle.pl_base.specs.Address.{vpn_of}
use Rattle.pl_base.specs.Refusals.{refuse}
use Rattle.pl_base.specs.declared.address.Va.{Va}
use Rattle.pl_base.specs.declared.refusal.No.{No}
use Rattle.pl_base.specs.declared.refusal.No.TheVariants as refused
use Rattle.mon_tables.specs.Space.{Mapping, mapping_at}
use Rattle.mon_tables.specs.Tables.{can_be_mapped}
use Rattle.pl_history.specs.declared.answer.Answer.{Answer}
use Rattle.pl_history.specs.declared.answer.Answer.TheVariants as answer_is
use Rattle.pl_history.specs.declared.answer.Entry.{Entry}
use Rattle.pl_history.specs.declared.line.Line.TheVariants.{Unmap}
use Rattle.pl_history.specs.declared.setup.SetupParts.{SetupParts}
use Rattle.pl_history.specs.History.{named_part}
use Rattle.pl_history.specs.HostMaps.{AllowedUnmap, removing_of}
use Rattle.pl_history.specs.Laws.{moved}
use Rattle.pl_history.specs.Legal.{ActorLine, AllAllowed, Allowed, AllowedLine, Legal, after, after_answer, after_line, legal_state, line_at, of_hart, state_after}
use Rattle.pl_history.specs.Monitor.{Monitor, Progress, Removal, opening, removed_at}
use Rattle.pl_history.proofs.HostMappings.{pushed}
use Rattle.pl_history.proofs.ProgressLemmas.{answers_move}
use Rattle.pl_history.proofs.Refusals.{first_none, refuse_none}
use Rattle.world_machine.specs.HostAccesses.{IsGone, IsUnmap}
use Rattle.world_machine.proofs.FoundElements.{counted_among, counted_apart, none_found}
use Rattle.world_machine.proofs.MappingChanges.{holds_after_entry}
use Rattle.world_machine.proofs.MappingTranslations.{mapping_vpn}

-- ---- removals of a hart, of a virtual page number

abbrev of_hart_and_page : ℕ → ℕ → Removal → Bool
of_hart_and_page hart vpn r = (r.hart == hart) && (r.mapping.vpn == vpn)

abbrev open_of : List Removal → ℕ → ℕ → ℕ
open_of removals hart vpn = count_by (of_hart_and_page hart vpn) removals

abbrev of_page : ℕ → Removal → Bool
of_page vpn r = r.mapping.vpn == vpn

more_open : (removals : List Removal) (r : Removal) (hart vpn : ℕ) → 1 ≤ open_of removals hart vpn → 1 ≤ open_of (removals ++ r ∷ []) hart vpn
more_open removals r hart vpn some = (let more = pushed (of_hart_and_page hart vpn) removals r in omega (arith, more, some))

now_open : (removals : List Removal) (hart : ℕ) (m : Mapping) → 1 ≤ open_of (removals ++ record { hart = hart; mapping = m } ∷ []) hart m.vpn
now_open removals hart m =
    let more = pushed (of_hart_and_page hart m.vpn) removals (record { hart = hart; mapping = m }) in
    let is : of_hart_and_page hart m.vpn (record { hart = hart; mapping = m }) ≡ true = and_from (eqb hart hart) (eqb m.vpn m.vpn) (eq-eqb hart hart refl) (eq-eqb m.vpn m.vpn refl) in
    let one = ap (λ b. cond {A = ℕ} b 1 0) is in
    omega (arith, more, one)

-- where the removals of another hart end
still_open : (removals : List Removal) (other hart vpn : ℕ) → hart ≢ other → 1 ≤ open_of removals hart vpn
    → 1 ≤ open_of (filter (λ (r : Removal). not (r.hart == other)) removals) hart vpn
still_open removals other hart vpn apart some =
    let kept = counted_among (of_hart_and_page hart vpn) (λ (r : Removal). not (r.hart == other)) (of_hart_and_page hart vpn) (λ r is. (stays r is, is)) removals in
    omega (arith, kept, some)
  where
    stays : (r : Removal) → of_hart_and_page hart vpn r ≡ true → not (r.hart == other) ≡ true
    stays r is =
        let own : r.hart ≡ hart = eqb-true r.hart hart (and_parts (r.hart == hart) (r.mapping.vpn == vpn) is).0 in
        ap not (ne_eqb r.hart other (λ same. apart (sym own ∙ same)))

-- where those of the hart end, so does the one of the page
fewer_open : (removals : List Removal) (hart vpn : ℕ)
    → open_of removals hart vpn + count_by (of_page vpn) (filter (λ (r : Removal). not (r.hart == hart)) removals) ≤ count_by (of_page vpn) removals
fewer_open removals hart vpn =
    let own = counted_among (of_hart_and_page hart vpn) (λ (r : Removal). r.hart == hart) (of_page vpn) (λ r is. and_parts (r.hart == hart) (r.mapping.vpn == vpn) is) removals in
    let both = counted_apart (λ (r : Removal). r.hart == hart) (of_page vpn) removals in
    omega (arith, own, both)

none_removed_at : (removals : List Removal) (vpn : ℕ) → count_by (of_page vpn) removals ≡ 0 → removed_at removals vpn ≡ None
none_removed_at removals vpn none = ap (option_map (λ (r : Removal). r.mapping)) (none_found (of_page vpn) removals none)

-- ---- what an `unmap` is answered

mapped_by : (o : Option Mapping) → is_some o ≡ true → (m : Mapping) × (o ≡ Some m)
mapped_by None is = cc
mapped_by (Some m) is = (m, refl)

moved_begun : (p : Progress) (now : Answer) → (moved p now).begun ≡ true → now ≡ answer_is.Begun
moved_begun p answer_is.Begun is = refl
moved_begun p answer_is.Ok is = cc
moved_begun p (answer_is.Value value) is = cc
moved_begun p (answer_is.Word word) is = cc
moved_begun p (answer_is.Left count why) is = cc
moved_begun p (answer_is.No cause) is = cc
moved_begun p (answer_is.Wrote changed at from len) is = cc
moved_begun p (answer_is.Kept at from len) is = cc

module _ (setup : SetupParts) where
  module _ (s : Monitor) (va : Va) where
    -- it begins where its address is mapped
    begins_mapped : (begun : Bool) → AllowedUnmap setup s va begun answer_is.Begun → (m : Mapping) × (mapping_at s.space (vpn_of va).0 ≡ Some m)
    begins_mapped true again = (let clash : answer_is.Begun ≡ answer_is.Ok = again in cc)
    begins_mapped false none =
        let last : Option No = refuse (not (is_some (mapping_at s.space (vpn_of va).0))) refused.NotMapped in
        let second : Option No = refuse (is_some (removed_at s.removals (vpn_of va).0)) refused.Busy in
        let one = first_none (refuse (not (can_be_mapped setup.tables va)) refused.BadAddress) (second ∷ last ∷ []) none in
        let two = first_none second (last ∷ []) one.1 in
        let three = first_none last [] two.1 in
        mapped_by (mapping_at s.space (vpn_of va).0) (refuse_none (is_some (mapping_at s.space (vpn_of va).0)) refused.NotMapped three.0)

    -- and is answered `ok` once it has begun
    ends_begun : (begun : Bool) → AllowedUnmap setup s va begun answer_is.Ok → begun ≡ true
    ends_begun true is = refl
    ends_begun false never = absurd never

  module _ (bytes : List ℕ) where
    abbrev pub RemovalsOpen : Monitor → Type 0
    RemovalsOpen s =
        (hart : ℕ) (va : Va) → line_at setup hart (s.progress hart).answered ≡ Some (of_hart (Unmap va)) → (s.progress hart).begun ≡ true → 1 ≤ open_of s.removals hart (vpn_of va).0

    module _ (s : Monitor) (before : List Entry) (entry : Entry) (allowed : Allowed setup bytes s before entry) where
      abbrev now : Monitor
      now = after setup bytes s entry

      -- the line of an entry is the first one that isn't answered
      allowed_unmap : (va : Va) → line_at setup entry.actor entry.line ≡ Some (of_hart (Unmap va)) → AllowedUnmap setup s va (s.progress entry.actor).begun entry.answer
      allowed_unmap va here =
          subst (λ (l : ActorLine). AllowedLine setup bytes s before l (s.progress entry.actor).begun entry.answer) (same allowed.1.0 (sym allowed.1.1 ∙ here)) allowed.1.2
        where
          same : (l : ActorLine) → Some l ≡ Some (of_hart (Unmap va)) → l ≡ of_hart (Unmap va)
          same l is = cc

      progress_is : (hart : ℕ) → now.progress hart ≡ (if hart == entry.actor then moved (s.progress entry.actor) entry.answer else s.progress hart)
      progress_is hart = answers_move setup bytes s entry allowed.1.0 allowed.1.1 hart

      -- the removals after the `begun` of an `unmap`
      begun_removals : (va : Va) (m : Mapping) → line_at setup entry.actor entry.line ≡ Some (of_hart (Unmap va)) → entry.answer ≡ answer_is.Begun
          → mapping_at s.space (vpn_of va).0 ≡ Some m
          → now.removals ≡ s.removals ++ record { hart = entry.actor; mapping = m } ∷ []
      begun_removals va m here begun mapped =
          ap (λ (o : Option ActorLine). (option_map_or (after_line s entry.actor (named_part bytes entry.answer) entry.answer) o s).removals) here
          ∙ ap (λ a. (after_answer s entry.actor (Unmap va) a).removals) begun
          ∙ ap (λ o. (removing_of s entry.actor o).removals) mapped

      begun_now : (va : Va) → line_at setup entry.actor entry.line ≡ Some (of_hart (Unmap va)) → entry.answer ≡ answer_is.Begun → 1 ≤ open_of now.removals entry.actor (vpn_of va).0
      begun_now va here begun =
          let mapped = begins_mapped s va (s.progress entry.actor).begun (subst (AllowedUnmap setup s va (s.progress entry.actor).begun) begun (allowed_unmap va here)) in
          let m : Mapping = mapped.0 in
          let vpn : m.vpn ≡ (vpn_of va).0 = mapping_vpn s.space (vpn_of va).0 m mapped.1 in
          subst (λ removals. 1 ≤ open_of removals entry.actor (vpn_of va).0) (sym (begun_removals va m here begun mapped.1))
          (subst (λ v. 1 ≤ open_of (s.removals ++ record { hart = entry.actor; mapping = m } ∷ []) entry.actor v) vpn (now_open s.removals entry.actor m))

      other_open : (hart vpn : ℕ) → hart ≢ entry.actor → 1 ≤ open_of s.removals hart vpn → 1 ≤ open_of now.removals hart vpn
      other_open hart vpn apart some = holds_after_entry (λ space removals. 1 ≤ open_of removals hart vpn) setup bytes s entry (record {
        stays = some;
        maps = λ m is. some;
        begins = λ va m here begun is. more_open s.removals (record { hart = entry.actor; mapping = m }) hart vpn some;
        ends = λ va is. still_open s.removals entry.actor hart vpn apart some;
      })

      entry_open : RemovalsOpen s → RemovalsOpen now
      entry_open k hart va here begun = elim (cases_Bool (hart == entry.actor)) [
        | inl own ↦ (
            let is : hart ≡ entry.actor = eqb-true hart entry.actor own in
            let progress : now.progress hart ≡ moved (s.progress entry.actor) entry.answer = rw own at (progress_is hart) in
            let answer : entry.answer ≡ answer_is.Begun = moved_begun (s.progress entry.actor) entry.answer (ap (λ (p : Progress). p.begun) (sym progress) ∙ begun) in
            let answered : (now.progress hart).answered ≡ entry.line
            = ap (λ (p : Progress). p.answered) progress ∙ ap (λ a. (moved (s.progress entry.actor) a).answered) answer ∙ sym allowed.0 in
            let line : line_at setup entry.actor entry.line ≡ Some (of_hart (Unmap va))
            = ap (λ h. line_at setup h entry.line) (sym is) ∙ ap (line_at setup hart) (sym answered) ∙ here in
            subst (λ h. 1 ≤ open_of now.removals h (vpn_of va).0) (sym is) (begun_now va line answer)
            )
        | inr other ↦ (
            let progress : now.progress hart ≡ s.progress hart = rw other at (progress_is hart) in
            other_open hart (vpn_of va).0 (eqb-false hart entry.actor other)
            (k hart va (ap (λ (p : Progress). line_at setup hart p.answered) (sym progress) ∙ here) (ap (λ (p : Progress). p.begun) (sym progress) ∙ begun))
            )
      ]

      -- ---- the `ok` of an `unmap`

      module _ (va : Va) (is : IsUnmap setup entry va) (k : RemovalsOpen s)
          (once : (vpn : ℕ) → count_by (λ (m : Mapping). m.vpn == vpn) s.space + count_by (of_page vpn) s.removals ≤ 1) where
        begun_before : (s.progress entry.actor).begun ≡ true
        begun_before = ends_begun s va (s.progress entry.actor).begun (subst (AllowedUnmap setup s va (s.progress entry.actor).begun) is.answer (allowed_unmap va is.line))

        open_before : 1 ≤ open_of s.removals entry.actor (vpn_of va).0
        open_before = k entry.actor va (ap (line_at setup entry.actor) (sym allowed.0) ∙ is.line) begun_before

        abbrev left : List Removal
        left = filter (λ (r : Removal). not (r.hart == entry.actor)) s.removals

        ended_space : now.space ≡ s.space
        ended_space =
            ap (λ (o : Option ActorLine). (option_map_or (after_line s entry.actor (named_part bytes entry.answer) entry.answer) o s).space) is.line
            ∙ ap (λ a. (after_answer s entry.actor (Unmap va) a).space) is.answer

        ended_removals : now.removals ≡ left
        ended_removals =
            ap (λ (o : Option ActorLine). (option_map_or (after_line s entry.actor (named_part bytes entry.answer) entry.answer) o s).removals) is.line
            ∙ ap (λ a. (after_answer s entry.actor (Unmap va) a).removals) is.answer

        pub entry_gone : IsGone (after setup bytes s entry) (vpn_of va).0
        entry_gone =
            let some = open_before in
            let few = once (vpn_of va).0 in
            let fewer = fewer_open s.removals entry.actor (vpn_of va).0 in
            record {
              space = ap (λ space. mapping_at space (vpn_of va).0) ended_space ∙ none_found (λ (m : Mapping). m.vpn == (vpn_of va).0) s.space (omega (arith, some, few, fewer));
              removals = ap (λ removals. removed_at removals (vpn_of va).0) ended_removals ∙ none_removed_at left (vpn_of va).0 (omega (arith, some, few, fewer));
            }

    -- ---- whole histories

    opening_open : RemovalsOpen (opening setup)
    unfolding opening
    opening_open hart va here begun = cc

    all_open : (s : Monitor) (before entries : List Entry) → AllAllowed setup bytes s before entries → RemovalsOpen s → RemovalsOpen (state_after setup bytes s entries)
    all_open s before [] allowed k = k
    all_open s before (entry ∷ entries) allowed k = all_open (after setup bytes s entry) (before ++ entry ∷ []) entries allowed.1 (entry_open s before entry allowed.0 k)

    pub legal_open : (entries : List Entry) → Legal setup bytes entries → RemovalsOpen (legal_state setup bytes entries)
    legal_open entries legal = all_open (opening setup) [] entries legal opening_open
