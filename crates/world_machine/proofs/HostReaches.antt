-- A load or a store of the host whose address is translated: it is made in a page of the host, or refused.
use Rattle.std.proofs.Common.{◌≡◌, ◌⊎◌, ℕ, ◌+◌, ◌%◌, ◌<◌, ◌≤◌, Bool, true, false, List, Some, None, refl, sym, ap, ◌∙◌, subst, arith, inl, inr}
use Rattle.std.specs.Prelude.{if◌then◌else◌}
use Rattle.std.proofs.lemmas.Bool.{eq-eqb}
use Rattle.byteorder.specs.Endian.{little_number}
use Rattle.pl_base.specs.Address.{vpn_of}
use Rattle.pl_base.specs.Bytes.{bytes_at}
use Rattle.pl_base.specs.declared.address.Pa.{Pa}
use Rattle.pl_base.specs.declared.address.Va.{Va}
use Rattle.pl_base.specs.declared.refusal.No.{No}
use Rattle.pl_base.specs.declared.refusal.No.TheVariants as refused
use Rattle.mem_geom.specs.Layout.{page_start}
use Rattle.mem_geom.specs.Parts.{page_bytes}
use Rattle.mem_ctl.specs.Raw.{raw_written}
use Rattle.mem_ctl.specs.Writes.{word_at}
use Rattle.mon_host.proofs.SpaceLemmas.{word_of_page}
use Rattle.mon_tables.specs.Space.{Mapping, mapping_at}
use Rattle.rv_pmp.specs.Pmp.{permits}
use Rattle.rv_hart.specs.declared.walks.Walk.{Walk}
use Rattle.rv_sv39.specs.Canonical.{is_canonical}
use Rattle.pl_history.specs.declared.answer.Answer.{Answer}
use Rattle.pl_history.specs.declared.answer.Answer.TheVariants as answer_is
use Rattle.pl_history.specs.declared.line.Line.TheVariants.{Load}
use Rattle.pl_history.specs.HostAccess.{AnswersBy, address_refusal, host_word, mapping_refusal, mapping_used}
use Rattle.pl_history.specs.Legal.{AllowedAnswer}
use Rattle.pl_history.specs.Monitor.{Monitor, removed_at}
use Rattle.pl_history.specs.Protection.{pmp_of}
use Rattle.world_attack.specs.Room.{RoomStays}
use Rattle.world_machine.specs.Answering.{answers}
use Rattle.world_machine.specs.HostAccessing.{WordAccess, kind_of, loads, made, reaches_host, stores}
use Rattle.world_machine.specs.Standing.{Kept, state_of}
use Rattle.world_machine.specs.Translating.{offset_at, page_at}
use Rattle.world_machine.specs.TranslationsAgree.{MayUse}
use Rattle.world_machine.specs.Worlds.{WorldData, under_at}
use Rattle.world_machine.proofs.HostAccesses.{IsAccess, access_line_is}
use Rattle.world_machine.proofs.HostAnswers.{MayAnswer, access_line, address_passes, far_allowed, load_allowed, mapping_forbids, nothing_forbids, protection_forbids, refusal_allowed, store_allowed}
use Rattle.world_machine.proofs.HostOutcomes.{HostLine, refused_kept}
use Rattle.world_machine.proofs.HostSpaces.{used_answers, used_is}
use Rattle.world_machine.proofs.HostStores.{stored_kept}
use Rattle.world_machine.proofs.HostTranslations.{ForbidsHost, ReachesHost}
use Rattle.world_machine.proofs.LineTranslations.{unbegun_waits_none}
use Rattle.world_machine.proofs.QuietRows.{answers_kept}

-- ---- a mapping of the address that the hart may use

module _ (digest_of : List ℕ → List ℕ) (w : WorldData) (k : Kept digest_of w) (hart : ℕ) (va : Va) (m : Mapping) (may : MayUse (state_of w) w.fences hart m)
    (vpn : m.vpn ≡ (vpn_of va).0) where
  abbrev s : Monitor
  s = state_of w

  -- it answers
  answers_by : (by : Mapping → Answer) → AnswersBy by (mapping_at s.space (vpn_of va).0) (removed_at s.removals (vpn_of va).0) (by m)
  answers_by by = subst (λ n. AnswersBy by (mapping_at s.space n) (removed_at s.removals n) (by m)) vpn (used_answers digest_of w k hart m by may)

  used_by : (mapping_at s.space m.vpn ≡ Some m) ⊎ ((mapping_at s.space m.vpn ≡ None) × (removed_at s.removals m.vpn ≡ Some m))
      → mapping_used (mapping_at s.space m.vpn) (removed_at s.removals m.vpn) ≡ Some m
  used_by (inl is) = ap (λ o. mapping_used o (removed_at s.removals m.vpn)) is
  used_by (inr gone) = ap (λ o. mapping_used o (removed_at s.removals m.vpn)) gone.0 ∙ gone.1

  -- and a store goes by it
  is_used : mapping_used (mapping_at s.space (vpn_of va).0) (removed_at s.removals (vpn_of va).0) ≡ Some m
  is_used = subst (λ n. mapping_used (mapping_at s.space n) (removed_at s.removals n) ≡ Some m) vpn (used_by (used_is digest_of w k hart m may))

-- ---- the access

module _ (digest_of : List ℕ → List ℕ) (room_stays : RoomStays) (w : WorldData) (k : Kept digest_of w) (none : w.collision ≡ None) (hart : ℕ) (below : hart < w.setup.harts) (va : Va) where
  refusal_kept : (access : WordAccess) (walk : Walk) → IsAccess w hart va access walk → (cause : No) → MayAnswer w.setup (state_of w) va access (answer_is.No cause)
      → Kept digest_of (answers w hart (answer_is.No cause))
  refusal_kept access walk is cause allowed =
      refused_kept digest_of room_stays w k none hart below (access_line va access) va (access_line_is digest_of w k hart va access walk is) cause allowed

  aligned_passes : va.0 % 8 ≡ 0 → is_canonical va.0 ≡ true → address_refusal va ≡ None
  aligned_passes aligned canonical = address_passes va (eq-eqb (va.0 % 8) 0 aligned) canonical

  -- there is no page
  pub far_kept : (access : WordAccess) (walk : Walk) → IsAccess w hart va access walk → is_canonical va.0 ≡ false → Kept digest_of (answers w hart (answer_is.No refused.PageFault))
  far_kept access walk is far = refusal_kept access walk is refused.PageFault (far_allowed w.setup (state_of w) va access (eq-eqb (va.0 % 8) 0 is.aligned) far)

  pub forbidden_kept : (access : WordAccess) (walk : Walk) → IsAccess w hart va access walk → ForbidsHost digest_of w k hart va (kind_of access)
      → Kept digest_of (answers w hart (answer_is.No refused.PageFault))
  forbidden_kept access walk is at =
      refusal_kept access walk is refused.PageFault
      (refusal_allowed w.setup (state_of w) va (aligned_passes is.aligned at.canonical) at.mapping (answers_by digest_of w k hart va at.mapping at.may at.vpn) access refused.PageFault
      (mapping_forbids w.setup (kind_of access) va at.mapping at.forbids))

  -- the access is made
  module _ (access : WordAccess) (walk : Walk) (is : IsAccess w hart va access walk) (pa : Pa) (at : ReachesHost digest_of w k hart va (kind_of access) pa) where
    abbrev m : Mapping
    m = at.mapping

    offset_is : offset_at pa ≡ va.0 % 4096
    offset_is = (let address : pa.0 ≡ page_start m.page + va.0 % 4096 = at.is in omega (arith, address))

    permitted_is : (b : Bool) → permits (pmp_of w.setup) pa.0 8 (kind_of access) ≡ b → permits (pmp_of w.setup) (page_start m.page + va.0 % 4096) 8 (kind_of access) ≡ b
    permitted_is b is_so = ap (λ a. permits (pmp_of w.setup) a 8 (kind_of access)) (sym at.is) ∙ is_so

    at_passes : address_refusal va ≡ None
    at_passes = aligned_passes is.aligned at.canonical

    unforbidden : permits (pmp_of w.setup) pa.0 8 (kind_of access) ≡ true → mapping_refusal w.setup (kind_of access) va m ≡ None
    unforbidden permitted = nothing_forbids w.setup (kind_of access) va m at.permits (permitted_is true permitted)

    barred_kept : permits (pmp_of w.setup) pa.0 8 (kind_of access) ≡ false → Kept digest_of (answers w hart (answer_is.No refused.AccessFault))
    barred_kept barred =
        refusal_kept access walk is refused.AccessFault
        (refusal_allowed w.setup (state_of w) va at_passes m (answers_by digest_of w k hart va m at.may at.vpn) access refused.AccessFault
        (protection_forbids w.setup (kind_of access) va m at.permits (permitted_is false barred)))

  made_kept : (access : WordAccess) (walk : Walk) (is : IsAccess w hart va access walk) (pa : Pa) (at : ReachesHost digest_of w k hart va (kind_of access) pa)
      → permits (pmp_of w.setup) pa.0 8 (kind_of access) ≡ true → Kept digest_of (made w hart pa access)
  made_kept loads walk is pa at permitted =
      let s : Monitor = state_of w in
      let line : HostLine w hart (Load va) va = access_line_is digest_of w k hart va loads walk is in
      let same : offset_at pa ≡ va.0 % 4096 = offset_is loads walk is pa at in
      let few : offset_at pa + 8 ≤ 4096 = (let aligned : va.0 % 8 ≡ 0 = is.aligned in omega (arith, aligned, same)) in
      let value : word_at w.ctl.off_chip (page_at pa) (offset_at pa) ≡ host_word s va at.mapping
      = word_of_page w.ctl.off_chip (page_at pa) (offset_at pa) few
      ∙ ap (λ (bytes : List ℕ). little_number 8 (bytes_at bytes (offset_at pa) 8)) (ap (page_bytes w.ctl.off_chip) at.page ∙ k.stands.host at.mapping.page at.host)
      ∙ ap (λ o. little_number 8 (bytes_at (s.bytes at.mapping.page) o 8)) same in
      subst (λ v. Kept digest_of (answers w hart (answer_is.Value v))) (sym value)
      (answers_kept digest_of room_stays w k none hart below (Load va) (answer_is.Value (host_word s va at.mapping)) refl is.here
      (subst (λ b. AllowedAnswer w.setup s (Load va) b (answer_is.Value (host_word s va at.mapping))) (sym line.not_begun)
      (load_allowed w.setup s va (at_passes loads walk is pa at) at.mapping (answers_by digest_of w k hart va at.mapping at.may at.vpn) (unforbidden loads walk is pa at permitted)))
      refl (unbegun_waits_none (under_at w.under hart) line.not_begun))
  made_kept (stores word) walk is pa at permitted =
      let m : Mapping = at.mapping in
      subst (λ page. Kept digest_of (answers (record w { ctl = raw_written w.ctl page (offset_at pa) word }) hart answer_is.Ok)) (sym at.page)
      (subst (λ offset. Kept digest_of (answers (record w { ctl = raw_written w.ctl m.page offset word }) hart answer_is.Ok)) (sym (offset_is (stores word) walk is pa at))
      (stored_kept digest_of room_stays w k none hart below va word (access_line_is digest_of w k hart va (stores word) walk is) is.aligned m
      (is_used digest_of w k hart va m at.may at.vpn) at.host
      (store_allowed w.setup (state_of w) va (at_passes (stores word) walk is pa at) m (answers_by digest_of w k hart va m at.may at.vpn) word (unforbidden (stores word) walk is pa at permitted))))

  -- where the protection entries let it through
  pub reached_kept : (access : WordAccess) (walk : Walk) → IsAccess w hart va access walk → (pa : Pa) → ReachesHost digest_of w k hart va (kind_of access) pa
      → Kept digest_of (reaches_host w hart access (Some pa)).world
  reached_kept access walk is pa at = by_test (permits (pmp_of w.setup) pa.0 8 (kind_of access)) refl
    where
      by_test : (b : Bool) → permits (pmp_of w.setup) pa.0 8 (kind_of access) ≡ b
          → Kept digest_of (if b then made w hart pa access else answers w hart (answer_is.No refused.AccessFault))
      by_test true permitted = made_kept access walk is pa at permitted
      by_test false barred = barred_kept access walk is pa at barred
