-- A load or a store of the host reads a word of the host's tables: learned, no page, a place that faults, or a collision.
use Rattle.std.proofs.Common.{◌≡◌, ℕ, ◌+◌, ◌*◌, ◌/◌, ◌%◌, ◌<◌, ◌≤◌, false, List, None, sym, ap, ◌∙◌, subst, arith}
use Rattle.std.specs.Prelude.{Contains, Result, Ok, Err}
use Rattle.std.proofs.lemmas.Bool.{eq-eqb}
use Rattle.byteorder.specs.Endian.{little_number}
use Rattle.pl_base.specs.Bytes.{bytes_at}
use Rattle.pl_base.specs.declared.access.Kind.{Kind}
use Rattle.pl_base.specs.declared.address.Pa.{Pa}
use Rattle.pl_base.specs.declared.address.Va.{Va}
use Rattle.pl_base.specs.declared.place.Place.{Place}
use Rattle.pl_base.specs.declared.refusal.No.TheVariants as refused
use Rattle.rv_hart.specs.declared.seeking.Sought.TheVariants.{Table}
use Rattle.rv_hart.specs.declared.walks.PageFault.{PageFault as NoPage}
use Rattle.rv_hart.specs.declared.walks.View.{View}
use Rattle.rv_hart.specs.declared.walks.Walk.{Walk}
use Rattle.rv_hart.specs.Learning.{learned, tlb_after}
use Rattle.rv_hart.specs.Seeking.{sought}
use Rattle.rv_tlb.specs.declared.tlb.TlbEntry.{TlbEntry}
use Rattle.mem_geom.specs.PathPlaces.{word_places}
use Rattle.mem_ctl.specs.Access.{Accessed, BothStay}
use Rattle.mem_ctl.specs.Calls.{read_word_of}
use Rattle.mem_ctl.specs.Data.{After, CtlData, going}
use Rattle.mem_ctl.specs.Laws.{ReadsTell, WordIsRead}
use Rattle.mem_ctl.specs.Writes.{word_at}
use Rattle.mon_enclave.specs.Records.{enclave_at}
use Rattle.mon_host.specs.Laws.{mirror_words}
use Rattle.mon_host.proofs.SpaceLemmas.{word_of_page}
use Rattle.pl_history.specs.declared.answer.Answer.TheVariants as answer_is
use Rattle.pl_history.specs.declared.line.Line.{Line}
use Rattle.pl_history.specs.HostAccess.{address_refusal}
use Rattle.pl_history.specs.Legal.{AllowedAnswer}
use Rattle.pl_history.specs.Licence.{Licensed, host_tables}
use Rattle.pl_history.specs.Monitor.{Monitor}
use Rattle.pl_history.specs.Rules.{guarded_of}
use Rattle.world_attack.specs.Room.{RoomStays}
use Rattle.world_machine.specs.HostAccessing.{WordAccess, host_faults, host_learns, host_request, kind_of}
use Rattle.world_machine.specs.Standing.{Kept, state_of}
use Rattle.world_machine.specs.Translating.{host_view, offset_at, page_at, reads_table}
use Rattle.world_machine.specs.TranslationsAgree.{IsFresh, WalkStands}
use Rattle.world_machine.specs.Worlds.{WorldData, tlb_at, with_tlb}
use Rattle.world_machine.proofs.HostAccesses.{IsAccess, access_line_is, access_walk_stands}
use Rattle.world_machine.proofs.HostAnswers.{access_line, address_passes, fault_allowed, ungranted_allowed}
use Rattle.world_machine.proofs.HostOutcomes.{HostLine, host_outcome_kept, left_kept, refused_kept}
use Rattle.world_machine.proofs.HostSeeking.{seek_kept, tlb_kept}
use Rattle.world_machine.proofs.HostTranslations.{AsksHostTable, host_asks_table, host_given, host_given_fresh, host_given_none, host_learned_stands, host_tlb_learns, host_walks_to}
use Rattle.world_machine.proofs.WalkLemmas.{LearnsSo, asked_canonical}

module _ (digest_of : List ℕ → List ℕ) (room_stays : RoomStays) (w : WorldData) (k : Kept digest_of w) (none : w.collision ≡ None) (hart : ℕ) (below : hart < w.setup.harts)
    (va : Va) (access : WordAccess) (walk : Walk) (is : IsAccess w hart va access walk) (pa : Pa) (level : ℕ)
    (asks : sought walk va (kind_of access) (tlb_at w.tlbs hart) (host_view w.setup.tables) ≡ Table pa level) where
  abbrev s : Monitor
  s = state_of w

  abbrev view : View
  view = host_view w.setup.tables

  abbrev kind : Kind
  kind = kind_of access

  abbrev entries : List TlbEntry
  entries = tlb_at w.tlbs hart

  abbrev Fresh : TlbEntry → Type 0
  Fresh = IsFresh w.setup (enclave_at w.enclaves) s w.fences hart

  walk_stands : WalkStands w.ctl Fresh view va walk
  walk_stands = access_walk_stands digest_of w k hart va access walk is

  passes : address_refusal va ≡ None
  passes = address_passes va (eq-eqb (va.0 % 8) 0 is.aligned) (asked_canonical view va kind entries pa level walk asks)

  -- ---- the word is learned

  abbrev word : ℕ
  word = mirror_words w.ctl pa.0

  abbrev after : List TlbEntry
  after = tlb_after walk word va kind view entries

  abbrev new : WorldData
  new = with_tlb w hart after

  new_kept : Kept digest_of new
  new_kept = tlb_kept digest_of room_stays w k none hart below after (host_tlb_learns digest_of w k hart va kind walk walk_stands pa level asks)

  new_is : IsAccess new hart va access walk
  new_is = record { here = is.here; so_far = is.so_far; aligned = is.aligned }

  abbrev Learns : Result Walk NoPage → Type 0
  Learns = LearnsSo w.ctl Fresh view va kind walk entries pa level walk_stands asks (host_given digest_of w k hart va kind)
      (host_walks_to digest_of w k hart va kind walk walk_stands pa level asks) (host_given_fresh digest_of w k hart va kind)

  learned_by : (o : Result Walk NoPage) → Learns o → Kept digest_of (host_learns hart new o)
  learned_by (Ok more) learns = seek_kept digest_of room_stays new new_kept none hart below va access walk new_is more learns
  learned_by (Err fault) learns =
      refused_kept digest_of room_stays new new_kept none hart below (access_line va access) va (access_line_is digest_of new new_kept hart va access walk new_is) refused.PageFault
      (ungranted_allowed w.setup s va passes access (host_given_none digest_of w k hart va kind learns))

  pub learned_kept : Kept digest_of (host_learns hart (with_tlb w hart after) (learned walk word va kind view))
  learned_kept = learned_by (learned walk word va kind view) (host_learned_stands digest_of w k hart va kind walk walk_stands pa level asks)

-- ---- the event

module _ (digest_of : List ℕ → List ℕ) (room_stays : RoomStays) (reads : ReadsTell digest_of) (w : WorldData) (k : Kept digest_of w) (none : w.collision ≡ None) (hart : ℕ)
    (below : hart < w.setup.harts) (positions : List ℕ) (va : Va) (access : WordAccess) (walk : Walk) (is : IsAccess w hart va access walk) (pa : Pa) (level : ℕ)
    (asks : sought walk va (kind_of access) (tlb_at w.tlbs hart) (host_view w.setup.tables) ≡ Table pa level) where
  abbrev page : ℕ
  page = page_at pa

  abbrev offset : ℕ
  offset = offset_at pa

  abbrev line : Line
  line = access_line va access

  abbrev call : After ℕ
  call = read_word_of digest_of page offset (going w.ctl positions)

  abbrev ctl : CtlData
  ctl = call.after.ctl

  abbrev left : WorldData
  left = record w { ctl = ctl }

  line_is : HostLine w hart line va
  line_is = access_line_is digest_of w k hart va access walk is

  at : AsksHostTable digest_of w k hart va (kind_of access) walk (walk_stands digest_of room_stays w k none hart below va access walk is pa level asks) pa level asks
  at = host_asks_table digest_of w k hart va (kind_of access) walk (walk_stands digest_of room_stays w k none hart below va access walk is pa level asks) pa level asks

  within : page < 64 * w.ctl.zones
  within = subst (λ p. p < 64 * w.ctl.zones) (sym at.word.page_is) at.inside

  guarded : page < guarded_of w.setup.tables w.setup.enclaves
  guarded = (let low : at.page < 2 + w.setup.tables = at.low in let same : page ≡ at.page = at.word.page_is in omega arith)

  concerned : Contains (host_tables w.setup.tables va) page
  concerned = subst (Contains (host_tables w.setup.tables va)) (sym at.word.page_is) at.concerned

  told : Accessed digest_of (word_places page (offset / 64)) (WordIsRead page offset w.ctl ctl) w.ctl call.outcome ctl
  told = reads page offset (going w.ctl positions) k.trees within at.word.inside at.word.aligned

  may_fault : (place : Place) → Licensed w.setup (state_of w) line place → AllowedAnswer w.setup (state_of w) line false (answer_is.No (refused.Fault place))
  may_fault = fault_allowed w.setup (state_of w) va (passes digest_of room_stays w k none hart below va access walk is pa level asks) access

  -- the word that was read is that of the tables, which stay
  same_word : BothStay w.ctl ctl → word_at w.ctl.mirror page offset ≡ mirror_words ctl pa.0
  same_word stay =
      let few : offset + 8 ≤ 4096 = (let inside = at.word.inside in let aligned = at.word.aligned in omega (arith, inside, aligned)) in
      word_of_page w.ctl.mirror page offset few
      ∙ ap (λ (bytes : List ℕ). little_number 8 (bytes_at bytes offset 8)) (sym (stay.mirror_pages page within))
      ∙ sym (word_of_page ctl.mirror page offset few)

  -- the world after a word of a table, by the word that was read
  abbrev learns : ℕ → WorldData
  learns eight =
      host_learns hart (with_tlb left hart (tlb_after walk eight va (kind_of access) (host_view w.setup.tables) (tlb_at w.tlbs hart)))
      (learned walk eight va (kind_of access) (host_view w.setup.tables))

  learns_kept : (eight : ℕ) → WordIsRead page offset w.ctl ctl eight → Kept digest_of (learns eight)
  learns_kept eight read =
      subst (λ n. Kept digest_of (learns n)) (sym (read.as_written ∙ same_word read.pages))
      (learned_kept digest_of room_stays left (left_kept digest_of room_stays w k none hart below line va line_is may_fault ctl told.leaves read.pages) none hart below va access walk
      (record { here = is.here; so_far = is.so_far; aligned = is.aligned }) pa level asks)

  pub table_kept : Kept digest_of (reads_table digest_of w (host_request w hart va access) positions walk (host_learns hart) (host_faults hart) pa).world
  table_kept =
      host_outcome_kept digest_of room_stays w k none hart below line va line_is may_fault ctl told.leaves page (offset / 64) (omega arith) guarded concerned
      (WordIsRead page offset w.ctl ctl) learns learns_kept call.outcome told.tells
