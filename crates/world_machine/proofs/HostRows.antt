-- An event of a hart with a line of the host: it may change the host's last-level tables, mappings and bytes, and changes no enclave number.
use Rattle.std.proofs.Common.{◌≡◌, ◌≢◌, ℕ, ◌+◌, ◌*◌, ◌<◌, ◌≤◌, false, List, length, slice_get, Option, Some, None, refl, sym, ap, ◌∙◌, subst, arith, inl, inr}
use Rattle.std.proofs.lemmas.Bool.{cases_lt}
use Rattle.pl_base.specs.States.{is_free}
use Rattle.rv_tlb.specs.declared.tlb.TlbEntry.{TlbEntry}
use Rattle.mem_ctl.specs.Data.{CtlData}
use Rattle.mem_ctl.specs.TreesHold.{IsKept}
use Rattle.mem_geom.specs.Parts.{page_bytes}
use Rattle.mon_enclave.specs.Records.{enclave_at}
use Rattle.mon_fence.specs.declared.fences.Fence.{Fence}
use Rattle.mon_owner.specs.declared.owners.Owner.{Owner}
use Rattle.mon_owner.specs.declared.owners.Owner.TheVariants as owner_is
use Rattle.mon_tables.specs.Tables.{table_number}
use Rattle.pl_history.specs.History.{HistoryData}
use Rattle.pl_history.specs.Monitor.{Attack, Monitor, Number, script_of}
use Rattle.world_machine.specs.declared.under.Under.{Under}
use Rattle.world_machine.specs.BytesAgree.{ByteAgrees, HasPut, HostBytesAgree, OnlyAttacksDiffer, PageAgrees}
use Rattle.world_machine.specs.EnclavesAgree.{EnclavesAgree, IsOwn, is_made}
use Rattle.world_machine.specs.LinesUnderWay.{LineUnderWay, number_under_way}
use Rattle.world_machine.specs.PagesAgree.{PagesAgree, PagesAre}
use Rattle.world_machine.specs.RecordsAgree.{OwnersAgree, RecordAgrees, RecordsAgree}
use Rattle.world_machine.specs.Standing.{Kept, state_of, written_page}
use Rattle.world_machine.specs.TranslationsAgree.{TranslationsStand}
use Rattle.world_machine.specs.Worlds.{WorldData, hart_line, under_at}
use Rattle.world_machine.proofs.ForkedNumbers.{childless}
use Rattle.world_machine.proofs.Frames.{Frame, enclaves_frame, line_frame}
use Rattle.world_machine.proofs.LineMoves.{LineMoves}
use Rattle.world_machine.proofs.NumberRows.{own_guard, own_within, owned_within, table_guard}
use Rattle.world_machine.proofs.PagesStay.{pages_over}
use Rattle.world_machine.proofs.RowKept.{RowFacts, attacks_frame, line_after, row_kept, with_parts}
use Rattle.world_machine.proofs.SetupFacts.{used_there}
use Rattle.world_machine.proofs.UnderWay.{line_used}

-- what such an event leaves of owners, numbers and bytes
pub record HostFrame (digest_of : List ℕ → List ℕ) (w : WorldData) (ctl : CtlData) (owners : List Owner) (s' : Monitor) : Type 0 where
  pub kept : IsKept digest_of ctl
  pub same_zones : ctl.zones ≡ w.ctl.zones
  pub same_slots : ctl.slots ≡ w.ctl.slots
  pub bytes : (i : ℕ) → ByteAgrees w.ctl.off_chip w.ctl.mirror (state_of w).attacks i → ByteAgrees ctl.off_chip ctl.mirror (state_of w).attacks i
  pub pages : (page : ℕ) → 2 + w.setup.tables ≤ page → page < 64 * w.ctl.zones → page_bytes ctl.mirror page ≡ page_bytes w.ctl.mirror page
  pub pool : length owners ≡ length w.owners
  pub guarded : (page : ℕ) → slice_get w.owners page ≡ Some owner_is.Guard → slice_get owners page ≡ Some owner_is.Guard
  pub guards : (page : ℕ) → slice_get owners page ≡ Some owner_is.Guard → slice_get w.owners page ≡ Some owner_is.Guard
  pub owned : (e page : ℕ) → IsOwn w.owners e page → IsOwn owners e page
  pub owners_agree : OwnersAgree owners s'
  pub numbers : (e : ℕ) → s'.number e ≡ (state_of w).number e
  pub attacks : s'.attacks ≡ (state_of w).attacks
  pub host : HostBytesAgree ctl.off_chip s'

module _ (digest_of : List ℕ → List ℕ) (w : WorldData) (k : Kept digest_of w) (none : w.collision ≡ None) (hart : ℕ) (ctl : CtlData) (owners : List Owner) (s' : Monitor)
    (f : HostFrame digest_of w ctl owners s') where
  abbrev s : Monitor
  s = state_of w

  -- a number that there isn't: so all that there are stay
  abbrev pub past : ℕ
  past = w.setup.enclaves

  pub there : (e : ℕ) → is_free (enclave_at w.enclaves e).state ≡ false → e < w.setup.enclaves
  there e used = subst (λ size. e < size) k.sizes.numbers (used_there w.enclaves e used)

  pub not_past : (e : ℕ) → is_free (enclave_at w.enclaves e).state ≡ false → e ≢ past
  not_past e used same = (let below : e < w.setup.enclaves = there e used in let is : e ≡ w.setup.enclaves = same in absurd (omega arith))

  -- a page of a number stands behind the host's tables
  own_behind : (e page : ℕ) → IsOwn w.owners e page → 2 + w.setup.tables ≤ page
  own_behind e page own = elim (cases_lt page (2 + w.setup.tables)) [
    | inl before ↦ absurd (own_guard digest_of w k e page own (k.sizes.guarded page (omega arith)))
    | inr behind ↦ behind
  ]

  pub frame : Frame w.setup past (enclave_at w.enclaves) (enclave_at w.enclaves) s.number s'.number (written_page w) (page_bytes ctl.mirror) w.owners owners
  frame = record {
    records = λ e other. refl;
    numbers = λ e other. f.numbers e;
    owned = λ e page other is. f.owned e page is;
    own_bytes = λ e page other is. f.pages page (own_behind e page is) (own_within digest_of w k e page is);
    table_bytes = λ e level other few low. f.pages (table_number w.setup.tables e level) (omega arith)
        (owned_within digest_of w k (table_number w.setup.tables e level) owner_is.Guard (table_guard digest_of w k e level few));
    childless = λ e shadow other parent. childless digest_of w k past (λ sealed. not_past past (ap is_free sealed) refl) e shadow parent;
  }

  pub records : RecordsAgree (enclave_at w.enclaves) s'.number
  records e = subst (RecordAgrees (enclave_at w.enclaves e)) (sym (f.numbers e)) (k.stands.records e)

  pub enclaves_agree : EnclavesAgree w.setup (page_bytes ctl.mirror) owners (enclave_at w.enclaves) s'.number
  enclaves_agree = enclaves_frame w.setup past (enclave_at w.enclaves) (enclave_at w.enclaves) s.number s'.number (written_page w) (page_bytes ctl.mirror) w.owners owners frame k.stands.enclaves
      (λ used. absurd (not_past past used refl))

  pages_agree : PagesAgree w.setup (enclave_at w.enclaves) s'.number
  pages_agree e = subst (PagesAre w.setup s'.number (enclave_at w.enclaves e)) (sym (f.numbers e))
      (pages_over w.setup s.number s'.number (enclave_at w.enclaves e) (s.number e) (λ shadow parent. ap (λ (n : Number). n.pages) (f.numbers shadow)) (k.stands.pages e))

  module _ (tlbs : List (List TlbEntry)) (fences : List (Option Fence)) (under : List Under) (answered : List ℕ) (history : HistoryData) (u : Under) (count : ℕ)
      (moves : LineMoves w hart under answered history s' u count)
      (own_line : LineUnderWay w.setup (page_bytes ctl.mirror) (enclave_at w.enclaves) s'.number hart (slice_get (script_of w.setup hart) count) u)
      (no_number : number_under_way (slice_get (script_of w.setup hart) count) u ≡ None)
      (no_put : (page : ℕ) → HasPut (slice_get (script_of w.setup hart) count) u page → ⊥)
      (translations : TranslationsStand w.setup ctl tlbs fences (enclave_at w.enclaves) s' (line_after w answered) (under_at under)) where
    line_own : line_after w answered hart ≡ slice_get (script_of w.setup hart) count
    line_own = ap (slice_get (script_of w.setup hart)) moves.answered_change.here

    no_put_own : (page : ℕ) → HasPut (line_after w answered hart) (under_at under hart) page → ⊥
    no_put_own page put = no_put page (subst (λ l. HasPut l u page) line_own (subst (λ v. HasPut (line_after w answered hart) v page) moves.under_change.here put))

    -- the bytes of a number that there isn't: it has no pages
    abbrev Differ : List Attack → Type 0
    Differ now = OnlyAttacksDiffer w.setup.zones ctl.off_chip ctl.mirror now owners (enclave_at w.enclaves) s'.number (line_after w answered) (under_at under)

    attacks : Differ s'.attacks
    attacks = subst Differ (sym f.attacks)
        (attacks_frame w.setup.zones w.ctl.off_chip w.ctl.mirror ctl.off_chip ctl.mirror s.attacks s.attacks w.owners owners (enclave_at w.enclaves) (enclave_at w.enclaves)
        s.number s'.number (hart_line w) (line_after w answered) (under_at w.under) (under_at under) hart past f.bytes
        (record {
          guarded = f.guards;
          made = λ e other. ap is_made (f.numbers e);
          pages = λ e other. refl;
          lines = λ other differs. ap (slice_get (script_of w.setup other)) (moves.answered_change.others other differs);
          unders = moves.under_change.others;
          made_own = λ page is made. page_left page (k.stands.attacks.made page past is (ap is_made (sym (f.numbers past)) ∙ made));
          put_own = λ page put. absurd (no_put_own page put);
        })
        k.stands.attacks)
      where
        page_left : (page : ℕ) → PageAgrees w.ctl.off_chip w.ctl.mirror s.attacks page → PageAgrees ctl.off_chip ctl.mirror s.attacks page
        page_left page old i few = f.bytes (4096 * page + i) (old i few)

    facts : RowFacts digest_of w hart ctl owners w.enclaves tlbs fences under answered history s' u count
    facts = record {
      line = moves;
      sizes = record { zones = f.same_zones; slots = f.same_slots; pages = f.pool; guarded = f.guarded; numbers = refl };
      trees = f.kept;
      owners_agree = f.owners_agree;
      records = records;
      pages_agree = pages_agree;
      enclaves_agree = enclaves_agree;
      host = f.host;
      attacks = attacks;
      other_lines = λ other differs. line_frame w.setup past (enclave_at w.enclaves) (enclave_at w.enclaves) s.number s'.number (written_page w) (page_bytes ctl.mirror) w.owners owners frame
          k.stands.enclaves there other (hart_line w other) (under_at w.under other)
          (λ e is. not_past e (line_used w.setup (written_page w) (enclave_at w.enclaves) s.number other (hart_line w other) (under_at w.under other) e (k.stands.lines other) is))
          (k.stands.lines other);
      own_line = own_line;
      own_apart = λ other e differs own is. (let clash : None ≡ Some e = sym no_number ∙ own in cc);
      translations = translations;
    }

    -- such an event keeps what a world keeps
    pub host_row : Kept digest_of (with_parts w ctl owners w.enclaves tlbs fences under answered history)
    host_row = row_kept digest_of w hart ctl owners w.enclaves tlbs fences under answered history s' u count k none facts
