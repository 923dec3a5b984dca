-- A store of the host writes into a page of its own, off chip alone: the world keeps what it kept.
use Rattle.std.proofs.Common.{◌≡◌, ◌≢◌, ◌⊎◌, ℕ, ◌+◌, ◌*◌, ◌%◌, ◌<◌, ◌≤◌, eqb, true, false, List, length, take, slice_get, Option, Some, None, option_map, refl, sym, ap, ◌∙◌, subst, arith, inl, inr}
use Rattle.std.specs.Prelude.{Contains, slice_set, if◌then◌else◌}
use Rattle.std.proofs.lemmas.Bool.{cases_Bool, cases_lt, eqb-false, eqb-true, false≢true}
use Rattle.std.proofs.lemmas.List.Elements.{All-contains, All-contains_itself, All-take}
use Rattle.byteorder.specs.Endian.{little_bytes}
use Rattle.byteorder.specs.Numbers.{length-bytes_low_first}
use Rattle.pl_base.specs.Address.{vpn_of}
use Rattle.pl_base.specs.Bytes.{with_bytes}
use Rattle.pl_base.specs.declared.address.Va.{Va}
use Rattle.pl_base.specs.States.{is_free}
use Rattle.mem_geom.specs.Layout.{memory_size}
use Rattle.mem_geom.specs.Parts.{page_bytes}
use Rattle.mem_geom.proofs.Parts.{length-with_bytes}
use Rattle.mem_ctl.specs.Data.{CtlData}
use Rattle.mem_ctl.specs.Raw.{raw_written}
use Rattle.mem_ctl.proofs.Agreement.{byte_outside}
use Rattle.mem_ctl.proofs.KeptLaws.{off_chip_is_free}
use Rattle.mem_ctl.proofs.PageLemmas.{other_page, own_page}
use Rattle.mon_enclave.specs.declared.enclave.Enclave.{Enclave}
use Rattle.mon_enclave.specs.Records.{enclave_at}
use Rattle.mon_owner.specs.declared.owners.Owner.TheVariants as owner_is
use Rattle.mon_tables.specs.Space.{Mapping, mapping_at}
use Rattle.pl_history.specs.declared.answer.Answer.TheVariants as answer_is
use Rattle.pl_history.specs.declared.line.Line.{Line}
use Rattle.pl_history.specs.declared.line.Line.TheVariants.{Create, Shadow, Store}
use Rattle.pl_history.specs.declared.setup.SetupParts.{SetupParts}
use Rattle.pl_history.specs.HostAccess.{mapping_used, store_to}
use Rattle.pl_history.specs.Legal.{AllowedAnswer}
use Rattle.pl_history.specs.Monitor.{Monitor, Number, answer, is_host, removed_at, script_of}
use Rattle.world_attack.specs.Room.{RoomStays}
use Rattle.world_machine.specs.declared.under.Under.{Under}
use Rattle.world_machine.specs.declared.under.Under.TheVariants.{Idle, Putting}
use Rattle.world_machine.specs.Answering.{answers, entry_now, with_entry}
use Rattle.world_machine.specs.BytesAgree.{ByteAgrees, HasPut, HostBytesAgree, OnlyAttacksDiffer, PageAgrees}
use Rattle.world_machine.specs.LinesUnderWay.{LineUnderWay, number_under_way}
use Rattle.world_machine.specs.Pages.{numbers_of}
use Rattle.world_machine.specs.RecordsAgree.{owner_of}
use Rattle.world_machine.specs.Standing.{Kept, state_of, written_page}
use Rattle.world_machine.specs.Worlds.{WorldData, answered_at, hart_line, under_at}
use Rattle.world_machine.proofs.HostOutcomes.{HostLine}
use Rattle.world_machine.proofs.LineKinds.{answered_line}
use Rattle.world_machine.proofs.LineMoves.{LineMoves}
use Rattle.world_machine.proofs.LineTranslations.{unbegun_waits_none}
use Rattle.world_machine.proofs.Lists.{everywhere}
use Rattle.world_machine.proofs.NumberRows.{host_within, own_number}
use Rattle.world_machine.proofs.QuietRows.{idle_has_none, idle_put_none, none_some}
use Rattle.world_machine.proofs.RowKept.{line_after, row_kept}
use Rattle.world_machine.proofs.TranslationFrames.{quiet_translations}
use Rattle.world_machine.proofs.UnderWay.{held_owned, line_used, made_used, own_numbers}

-- what is among the first of a list is in the list
in_whole : (n : ℕ) (xs : List ℕ) (x : ℕ) → Contains (take n xs) x → Contains xs x
in_whole n xs x here = All-contains (Contains xs) (take n xs) x (All-take (Contains xs) n xs (All-contains_itself xs)) here

-- a page that a line has put is one of its number's record
pub put_page : (setup : SetupParts) (bytes_of : ℕ → List ℕ) (rec : ℕ → Enclave) (of : ℕ → Number) (hart : ℕ) (line : Option Line) (under : Under) (page : ℕ)
    → LineUnderWay setup bytes_of rec of hart line under → HasPut line under page → (e : ℕ) × (number_under_way line under ≡ Some e) × Contains (numbers_of (rec e).pages) page
put_page setup bytes_of rec of hart (Some (Create e image pages)) (Putting done) page k put =
    (e.0, refl, subst (λ all. Contains all page) (sym (ap numbers_of k.pages_are ∙ own_numbers pages)) (in_whole done pages page put))
put_page setup bytes_of rec of hart (Some (Shadow e image pages)) (Putting done) page k put =
    (e.0, refl, subst (λ all. Contains all page) (sym (ap numbers_of k.pages_are ∙ own_numbers pages)) (in_whole done pages page put))
put_page setup bytes_of rec of hart line under page k put = absurd put

module _ (digest_of : List ℕ → List ℕ) (room_stays : RoomStays) (w : WorldData) (k : Kept digest_of w) (none : w.collision ≡ None) (hart : ℕ) (below : hart < w.setup.harts)
    (va : Va) (word : ℕ) (h : HostLine w hart (Store va word) va) (aligned : va.0 % 8 ≡ 0) (m : Mapping)
    (used : mapping_used (mapping_at (state_of w).space (vpn_of va).0) (removed_at (state_of w).removals (vpn_of va).0) ≡ Some m)
    (of_host : is_host ((state_of w).owner m.page) ≡ true) (allowed : AllowedAnswer w.setup (state_of w) (Store va word) false answer_is.Ok) where
  abbrev s : Monitor
  s = state_of w

  abbrev page : ℕ
  page = m.page

  abbrev offset : ℕ
  offset = va.0 % 4096

  abbrev at : ℕ
  at = 4096 * page + offset

  abbrev bytes : List ℕ
  bytes = little_bytes 8 word

  abbrev ctl : CtlData
  ctl = raw_written w.ctl page offset word

  abbrev t : Monitor
  t = store_to s va word (Some m)

  abbrev s' : Monitor
  s' = answer t hart

  abbrev answered' : List ℕ
  answered' = slice_set w.answered hart (answered_at w.answered hart + 1)

  moves : LineMoves w hart (slice_set w.under hart Idle) answered' (with_entry w.history (entry_now w hart answer_is.Ok)) s' Idle (answered_at w.answered hart + 1)
  moves = answered_line digest_of room_stays w k hart below (Store va word) answer_is.Ok refl h.here
      (subst (λ b. AllowedAnswer w.setup s (Store va word) b answer_is.Ok) (sym h.not_begun) allowed) t (λ actor. refl) (ap (λ o. answer (store_to s va word o) hart) used)

  -- ---- the bytes

  eight : length bytes ≡ 8
  eight = length-bytes_low_first 0 8 word

  in_page : offset + 8 ≤ 4096
  in_page = omega (arith, aligned)

  there : page < 64 * w.ctl.zones
  there = host_within digest_of w k page of_host

  sized : length w.ctl.off_chip ≡ memory_size w.ctl.zones
  sized = k.trees.trees.sizes.off_chip_size

  piece_in_page : offset + length bytes ≤ 4096
  piece_in_page = omega (arith, eight, in_page)

  fits : at + length bytes ≤ length w.ctl.off_chip
  fits = omega (arith, eight, in_page, there, sized)

  host : HostBytesAgree ctl.off_chip s'
  host p is = elim (cases_Bool (eqb p page)) [
    | inl same ↦
        let here : p ≡ page = eqb-true p page same in
        ap (page_bytes ctl.off_chip) here ∙ own_page w.ctl.off_chip w.ctl.zones page offset bytes sized there piece_in_page
        ∙ ap (λ (old : List ℕ). with_bytes old offset bytes) (ap (page_bytes w.ctl.off_chip) (sym here) ∙ k.stands.host p is)
        ∙ sym (ap (λ b. if b then with_bytes (s.bytes p) offset bytes else s.bytes p) same)
    | inr differs ↦
        other_page w.ctl.off_chip w.ctl.zones page offset bytes sized there piece_in_page p (eqb-false p page differs) ∙ k.stands.host p is
        ∙ sym (ap (λ b. if b then with_bytes (s.bytes p) offset bytes else s.bytes p) differs)
  ]

  -- ---- the pages that only attacks change

  byte_still : (i : ℕ) → (i < 4096 * page) ⊎ (4096 * page + 4096 ≤ i) → ByteAgrees w.ctl.off_chip w.ctl.mirror s.attacks i → ByteAgrees ctl.off_chip w.ctl.mirror s.attacks i
  byte_still i (inl before) old clean = byte_outside w.ctl.off_chip at bytes fits i (inl (omega (arith, before))) ∙ old clean
  byte_still i (inr behind) old clean = byte_outside w.ctl.off_chip at bytes fits i (inr (omega (arith, behind, piece_in_page))) ∙ old clean

  page_still : (p : ℕ) → p ≢ page → PageAgrees w.ctl.off_chip w.ctl.mirror s.attacks p → PageAgrees ctl.off_chip w.ctl.mirror s.attacks p
  page_still p differs old i few = byte_still (4096 * p + i) apart (old i few)
    where
      apart : (4096 * p + i < 4096 * page) ⊎ (4096 * page + 4096 ≤ 4096 * p + i)
      apart = elim (cases_lt p page) [
        | inl lower ↦ inl (omega (arith, lower, few))
        | inr from ↦ elim (cases_lt page p) [
          | inl higher ↦ inr (omega (arith, higher))
          | inr to ↦ absurd (differs (omega (arith, from, to)))
        ]
      ]

  guard_apart : (p : ℕ) → slice_get w.owners p ≡ Some owner_is.Guard → p ≢ page
  guard_apart p guard same =
      false≢true (sym (ap is_host (k.stands.owners.owner p ∙ ap (option_map owner_of) guard)) ∙ ap (λ q. is_host (s.owner q)) same ∙ of_host)

  -- a page of a record is a number's
  record_apart : (p e : ℕ) → is_free (enclave_at w.enclaves e).state ≡ false → Contains (numbers_of (enclave_at w.enclaves e).pages) p → p ≢ page
  record_apart p e used among same =
      let r : Enclave = enclave_at w.enclaves e in
      let owned = held_owned w.owners e r.parent r.pages p (k.stands.enclaves e used).held.owned among in
      false≢true (sym (ap is_host (own_number digest_of w k owned.0 p owned.1)) ∙ ap (λ q. is_host (s.owner q)) same ∙ of_host)

  put_still : (other p : ℕ) → HasPut (hart_line w other) (under_at w.under other) p → PageAgrees ctl.off_chip w.ctl.mirror s.attacks p
  put_still other p put =
      let among = put_page w.setup (written_page w) (enclave_at w.enclaves) s.number other (hart_line w other) (under_at w.under other) p (k.stands.lines other) put in
      let used = line_used w.setup (written_page w) (enclave_at w.enclaves) s.number other (hart_line w other) (under_at w.under other) among.0 (k.stands.lines other) among.1 in
      page_still p (record_apart p among.0 used among.2) (k.stands.attacks.put other p put)

  line_other : (other : ℕ) → other ≢ hart → line_after w answered' other ≡ hart_line w other
  line_other other differs = ap (slice_get (script_of w.setup other)) (moves.answered_change.others other differs)

  attacks : OnlyAttacksDiffer w.setup.zones ctl.off_chip w.ctl.mirror s.attacks w.owners (enclave_at w.enclaves) s.number
      (line_after w answered') (under_at (slice_set w.under hart Idle))
  attacks = record {
    nodes = λ i past. byte_still i (inr (let zones : w.ctl.zones ≡ w.setup.zones = k.sizes.zones in omega (arith, past, there, zones))) (k.stands.attacks.nodes i past);
    guarded = λ p is. page_still p (guard_apart p is) (k.stands.attacks.guarded p is);
    made = λ p e is made. page_still p (record_apart p e (made_used (enclave_at w.enclaves e) (s.number e) (k.stands.records e) made) is) (k.stands.attacks.made p e is made);
    put = λ other p. everywhere (λ o. HasPut (line_after w answered' o) (under_at (slice_set w.under hart Idle) o) p → PageAgrees ctl.off_chip w.ctl.mirror s.attacks p) hart
        (λ put. absurd (idle_put_none _ p (subst (λ u. HasPut (line_after w answered' hart) u p) moves.under_change.here put)))
        (λ o differs put. put_still o p (subst (λ u. HasPut (hart_line w o) u p) (moves.under_change.others o differs)
        (subst (λ l. HasPut l (under_at (slice_set w.under hart Idle) o) p) (line_other o differs) put))) other;
  }

  -- ---- the event

  pub stored_kept : Kept digest_of (answers (record w { ctl = raw_written w.ctl m.page (va.0 % 4096) word }) hart answer_is.Ok)
  stored_kept = row_kept digest_of w hart ctl w.owners w.enclaves w.tlbs w.fences _ _ _ s' Idle (answered_at w.answered hart + 1) k none (record {
    line = moves;
    sizes = record { zones = refl; slots = refl; pages = refl; guarded = λ p is. is; numbers = refl };
    trees = off_chip_is_free digest_of w.ctl ctl.off_chip k.trees (length-with_bytes w.ctl.off_chip at bytes fits);
    owners_agree = record { owner = k.stands.owners.owner; maps = k.stands.owners.maps };
    records = k.stands.records;
    pages_agree = k.stands.pages;
    enclaves_agree = k.stands.enclaves;
    host = host;
    attacks = attacks;
    other_lines = λ other differs. k.stands.lines other;
    own_line = tt;
    own_apart = λ other e differs own is. none_some e _ (idle_has_none _) own;
    translations = quiet_translations digest_of w k ctl refl s' refl refl refl hart _ _ line_other moves.under_change.others
        (unbegun_waits_none (under_at w.under hart) h.not_begun) moves.under_change.here;
  })
