-- An access of the host that was made went by a mapping that was there and grants it, to a page of the host that protection leaves open.
use Rattle.std.proofs.Common.{◌≡◌, ℕ, ◌+◌, ◌%◌, ◌==◌, Bool, true, false, not, if◌then◌else◌, List, [], ◌∷◌, Option, Some, None, refl, sym, ap, ◌∙◌, subst, inl, inr}
use Rattle.std.specs.Option.{option_map_or}
use Rattle.byteorder.specs.Endian.{little_bytes}
use Rattle.pl_base.specs.Address.{vpn_of}
use Rattle.pl_base.specs.Bytes.{with_bytes}
use Rattle.pl_base.specs.Perms.{grants}
use Rattle.pl_base.specs.Refusals.{refuse}
use Rattle.pl_base.specs.declared.access.Kind.{Kind}
use Rattle.pl_base.specs.declared.access.Kind.TheVariants as kind
use Rattle.pl_base.specs.declared.address.Va.{Va}
use Rattle.pl_base.specs.declared.place.Place.{Place}
use Rattle.pl_base.specs.declared.refusal.No.{No}
use Rattle.pl_base.specs.declared.refusal.No.TheVariants as refused
use Rattle.rv_pmp.specs.Pmp.{permits}
use Rattle.mem_geom.specs.Layout.{page_start}
use Rattle.mon_tables.specs.Space.{Mapping, mapping_at}
use Rattle.pl_history.specs.declared.answer.Answer.{Answer}
use Rattle.pl_history.specs.declared.answer.Answer.TheVariants as answer_is
use Rattle.pl_history.specs.declared.answer.Entry.{Entry}
use Rattle.pl_history.specs.declared.line.Line.{Line}
use Rattle.pl_history.specs.declared.line.Line.TheVariants.{Load, Store}
use Rattle.pl_history.specs.declared.setup.SetupParts.{SetupParts}
use Rattle.pl_history.specs.Answering.{FaultsOr}
use Rattle.pl_history.specs.History.{named_part}
use Rattle.pl_history.specs.HostAccess.{AnswersBy, HostAccess, address_refusal, answer_or, host_word, load_by, mapping_refusal, mapping_used, store_by, store_to}
use Rattle.pl_history.specs.Legal.{ActorLine, Allowed, AllowedAnswer, AllowedLine, after, after_answer, after_line, of_hart}
use Rattle.pl_history.specs.Licence.{Licensed}
use Rattle.pl_history.specs.Monitor.{Monitor, is_host, removed_at}
use Rattle.pl_history.specs.OwnedPages.{PagesStand}
use Rattle.pl_history.specs.Protection.{pmp_of}
use Rattle.pl_history.proofs.Refusals.{first_none, refuse_none}
use Rattle.world_machine.specs.HostAccesses.{GoesBy, IsLoad, IsOf, IsStore, LoadsBy, StoresBy, used_at}
use Rattle.world_machine.proofs.AccessPages.{host_is}
use Rattle.world_machine.proofs.EachMapping.{used_holds}

-- ---- an answer that is no refusal

abbrev IsMade : Answer → Type 0
IsMade now = (cause : No) → now ≡ answer_is.No cause → ⊥

-- it comes by a mapping
answered_by : (by : Mapping → Answer) (mapped removed : Option Mapping) (now : Answer) → IsMade now → AnswersBy by mapped removed now
    → (m : Mapping) × (mapping_used mapped removed ≡ Some m) × (now ≡ by m)
answered_by by (Some m) removed now made is = (m, refl, is)
answered_by by None (Some m) now made is = elim is [
  | inl by_it ↦ (m, refl, by_it)
  | inr none ↦ absurd (made refused.PageFault none)
]
answered_by by None None now made is = absurd (made refused.PageFault is)

-- which refuses it by no cause
unrefused : (refusal : Option No) (gives now : Answer) → IsMade now → now ≡ answer_or refusal gives → (refusal ≡ None) × (now ≡ gives)
unrefused None gives now made is = (refl, is)
unrefused (Some cause) gives now made is = absurd (made cause is)

-- and isn't a fault
unfaulted : (earlier : Option No) (may : Place → Type 0) (otherwise : Bool → Answer → Type 0) (begun : Bool) (now : Answer) → IsMade now
    → FaultsOr earlier may otherwise begun now → otherwise begun now
unfaulted earlier may otherwise false (answer_is.No (refused.Fault place)) made k = absurd (made (refused.Fault place) refl)
unfaulted earlier may otherwise begun now made k = k

module _ (setup : SetupParts) (s : Monitor) (pages : PagesStand setup s) where
  accessed_by : (refusal : Option No) (by : Mapping → Answer) (va : Va) (begun : Bool) (now : Answer) → IsMade now → HostAccess refusal by s va begun now
      → (m : Mapping) × (used_at s va ≡ Some m) × (now ≡ by m)
  accessed_by refusal by va true now made never = absurd never
  accessed_by (Some cause) by va false now made is = absurd (made cause is)
  accessed_by None by va false now made is = answered_by by (mapping_at s.space (vpn_of va).0) (removed_at s.removals (vpn_of va).0) now made is

  -- the mapping that an access went by
  goes_by : (kind : Kind) (va : Va) (m : Mapping) → used_at s va ≡ Some m → mapping_refusal setup kind va m ≡ None → GoesBy setup s kind va m
  goes_by kind va m used none =
      let second : Option No = refuse (not (permits (pmp_of setup) (page_start m.page + va.0 % 4096) 8 kind)) refused.AccessFault in
      let one = first_none (refuse (not (grants m.perms kind)) refused.PageFault) (second ∷ []) none in
      let two = first_none second [] one.1 in
      let held = used_holds (λ (x : Mapping). is_host (s.owner x.page) ≡ true) s.space s.removals (record { mapped = pages.mapped; removed = pages.removed }) (vpn_of va).0 m used in
      record {
        used = used;
        vpn = held.1;
        granted = refuse_none (grants m.perms kind) refused.PageFault one.0;
        let_through = refuse_none (permits (pmp_of setup) (page_start m.page + va.0 % 4096) 8 kind) refused.AccessFault two.0;
        owner = host_is (s.owner m.page) held.0;
      }

  module _ (bytes : List ℕ) (before : List Entry) (entry : Entry) (allowed : Allowed setup bytes s before entry) where
    same_line : (l : ActorLine) (line : Line) → Some l ≡ Some (of_hart line) → l ≡ of_hart line
    same_line l line is = cc

    -- the answer is one that the line may have
    answer_allowed : (line : Line) → IsOf setup entry line → AllowedAnswer setup s line (s.progress entry.actor).begun entry.answer
    answer_allowed line here =
        subst (λ (l : ActorLine). AllowedLine setup bytes s before l (s.progress entry.actor).begun entry.answer) (same_line allowed.1.0 line (sym allowed.1.1 ∙ here)) allowed.1.2

    value_made : (value : ℕ) → entry.answer ≡ answer_is.Value value → IsMade entry.answer
    value_made value is cause refusal = (let clash : answer_is.Value value ≡ answer_is.No cause = sym is ∙ refusal in cc)

    ok_made : entry.answer ≡ answer_is.Ok → IsMade entry.answer
    ok_made is cause refusal = (let clash : answer_is.Ok ≡ answer_is.No cause = sym is ∙ refusal in cc)

    value_is : (a b : ℕ) → answer_is.Value a ≡ answer_is.Value b → a ≡ b
    value_is a b same = cc

    pub loads_by : (va : Va) (value : ℕ) → IsLoad setup entry va value → LoadsBy setup s va value
    loads_by va value is =
        let made = value_made value is.answer in
        let going = unfaulted (address_refusal va) (Licensed setup s (Load va)) (HostAccess (address_refusal va) (load_by setup s va) s va)
        (s.progress entry.actor).begun entry.answer made (answer_allowed (Load va) is.line) in
        let by = accessed_by (address_refusal va) (load_by setup s va) va (s.progress entry.actor).begun entry.answer made going in
        let m : Mapping = by.0 in
        let given = unrefused (mapping_refusal setup kind.Load va m) (answer_is.Value (host_word s va m)) entry.answer made by.2 in
        record { mapping = m; by = goes_by kind.Load va m by.1 given.0; value_is = value_is value (host_word s va m) (sym is.answer ∙ given.1) }

    -- the bytes of pages after the `ok` of a store
    stored_bytes : (va : Va) (word : ℕ) (m : Mapping) → IsStore setup entry va word → used_at s va ≡ Some m → (page : ℕ)
        → (after setup bytes s entry).bytes page ≡ (if page == m.page then with_bytes (s.bytes page) (va.0 % 4096) (little_bytes 8 word) else s.bytes page)
    stored_bytes va word m is used page =
        ap (λ (o : Option ActorLine). (option_map_or (after_line s entry.actor (named_part bytes entry.answer) entry.answer) o s).bytes page) is.line
        ∙ ap (λ a. (after_answer s entry.actor (Store va word) a).bytes page) is.answer
        ∙ ap (λ o. (store_to s va word o).bytes page) used

    pub stores_by : (va : Va) (word : ℕ) → IsStore setup entry va word → StoresBy setup s (after setup bytes s entry) va word
    stores_by va word is =
        let made = ok_made is.answer in
        let going = unfaulted (address_refusal va) (Licensed setup s (Store va word)) (HostAccess (address_refusal va) (store_by setup va) s va)
        (s.progress entry.actor).begun entry.answer made (answer_allowed (Store va word) is.line) in
        let by = accessed_by (address_refusal va) (store_by setup va) va (s.progress entry.actor).begun entry.answer made going in
        let m : Mapping = by.0 in
        let given = unrefused (mapping_refusal setup kind.Store va m) answer_is.Ok entry.answer made by.2 in
        record { mapping = m; by = goes_by kind.Store va m by.1 given.0; bytes = stored_bytes va word m is by.1 }
