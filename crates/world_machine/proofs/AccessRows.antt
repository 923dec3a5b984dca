-- An access that leaves all pages: the world keeps what it kept, in the controller after it.
use Rattle.std.proofs.Common.{◌≡◌, ℕ, ◌+◌, ◌*◌, ◌<◌, List, None, refl, ◌∙◌}
use Rattle.mem_ctl.specs.Access.{BothStay, Leaves}
use Rattle.mem_ctl.specs.Data.{CtlData}
use Rattle.mem_geom.specs.Parts.{page_bytes}
use Rattle.mon_enclave.specs.Records.{enclave_at}
use Rattle.pl_history.specs.Monitor.{Monitor}
use Rattle.world_attack.specs.Room.{RoomStays}
use Rattle.world_machine.specs.BytesAgree.{HostBytesAgree, OnlyAttacksDiffer, PageAgrees}
use Rattle.world_machine.specs.LinesUnderWay.{LineUnderWay}
use Rattle.world_machine.specs.Standing.{Kept, state_of, written_page}
use Rattle.world_machine.specs.TranslationsAgree.{TranslationsStand}
use Rattle.world_machine.specs.Worlds.{WorldData, answered_at, hart_line, under_at}
use Rattle.world_machine.proofs.Frames.{line_frame}
use Rattle.world_machine.proofs.HostRows.{HostFrame, enclaves_agree, frame, not_past, there}
use Rattle.world_machine.proofs.LineKinds.{still_line}
use Rattle.world_machine.proofs.NumberRows.{host_within}
use Rattle.world_machine.proofs.RowKept.{attacks_frame, row_kept}
use Rattle.world_machine.proofs.TranslationFrames.{tables_stay, walk_over}
use Rattle.world_machine.proofs.UnderWay.{line_used}

module _ (digest_of : List ℕ → List ℕ) (w : WorldData) (k : Kept digest_of w) (ctl : CtlData) (leaves : Leaves digest_of w.ctl ctl) (stay : BothStay w.ctl ctl) where
  abbrev s : Monitor
  s = state_of w

  host : HostBytesAgree ctl.off_chip s
  host page is = stay.off_chip_pages page (host_within digest_of w k page is) ∙ k.stands.host page is

  pub stayed_frame : HostFrame digest_of w ctl w.owners s
  stayed_frame = record {
    kept = leaves.kept;
    same_zones = leaves.same_zones;
    same_slots = leaves.same_slots;
    bytes = λ i old clean. leaves.still_written i (old clean);
    pages = λ page behind within. stay.mirror_pages page within;
    pool = refl;
    guarded = λ page is. is;
    guards = λ page is. is;
    owned = λ e page is. is;
    owners_agree = record { owner = k.stands.owners.owner; maps = k.stands.owners.maps };
    numbers = λ e. refl;
    attacks = refl;
    host = host;
  }

  pub stayed_translations : TranslationsStand w.setup ctl w.tlbs w.fences (enclave_at w.enclaves) s (hart_line w) (under_at w.under)
  stayed_translations = record {
    tables = tables_stay digest_of w k ctl stay;
    harts = k.stands.translations.harts;
    fences_stand = k.stands.translations.fences_stand;
    removals = k.stands.translations.removals;
    giving = k.stands.translations.giving;
    fresh = record {
      entries = k.stands.translations.fresh.entries;
      walks = λ hart. walk_over digest_of w k ctl (tables_stay digest_of w k ctl stay) hart;
    };
  }

  module _ (room_stays : RoomStays) (none : w.collision ≡ None) (hart : ℕ) (below : hart < w.setup.harts) where
    attacks : OnlyAttacksDiffer w.setup.zones ctl.off_chip ctl.mirror s.attacks w.owners (enclave_at w.enclaves) s.number (hart_line w) (under_at w.under)
    attacks = attacks_frame w.setup.zones w.ctl.off_chip w.ctl.mirror ctl.off_chip ctl.mirror s.attacks s.attacks w.owners w.owners (enclave_at w.enclaves) (enclave_at w.enclaves)
        s.number s.number
        (hart_line w) (hart_line w) (under_at w.under) (under_at w.under) hart w.setup.enclaves stayed_frame.bytes
        (record {
          guarded = λ page is. is;
          made = λ e other. refl;
          pages = λ e other. refl;
          lines = λ other differs. refl;
          unders = λ other differs. refl;
          made_own = λ page is made. page_left page (k.stands.attacks.made page w.setup.enclaves is made);
          put_own = λ page put. page_left page (k.stands.attacks.put hart page put);
        })
        k.stands.attacks
      where
        page_left : (page : ℕ) → PageAgrees w.ctl.off_chip w.ctl.mirror s.attacks page → PageAgrees ctl.off_chip ctl.mirror s.attacks page
        page_left page old i few = stayed_frame.bytes (4096 * page + i) (old i few)

    lines : (other : ℕ) → LineUnderWay w.setup (page_bytes ctl.mirror) (enclave_at w.enclaves) s.number other (hart_line w other) (under_at w.under other)
    lines other = line_frame w.setup w.setup.enclaves (enclave_at w.enclaves) (enclave_at w.enclaves) s.number s.number (written_page w) (page_bytes ctl.mirror) w.owners w.owners
        (frame digest_of w k none hart ctl w.owners s stayed_frame) k.stands.enclaves (there digest_of w k none hart ctl w.owners s stayed_frame)
        other (hart_line w other) (under_at w.under other)
        (λ e is. not_past digest_of w k none hart ctl w.owners s stayed_frame e
        (line_used w.setup (written_page w) (enclave_at w.enclaves) s.number other (hart_line w other) (under_at w.under other) e (k.stands.lines other) is))
        (k.stands.lines other)

    pub access_kept : Kept digest_of (record w { ctl = ctl })
    access_kept = row_kept digest_of w hart ctl w.owners w.enclaves w.tlbs w.fences w.under w.answered w.history s (under_at w.under hart) (answered_at w.answered hart) k none (record {
      line = still_line digest_of room_stays w k hart below;
      sizes = record { zones = leaves.same_zones; slots = leaves.same_slots; pages = refl; guarded = λ page is. is; numbers = refl };
      trees = leaves.kept;
      owners_agree = record { owner = k.stands.owners.owner; maps = k.stands.owners.maps };
      records = k.stands.records;
      pages_agree = k.stands.pages;
      enclaves_agree = enclaves_agree digest_of w k none hart ctl w.owners s stayed_frame;
      host = host;
      attacks = attacks;
      other_lines = λ other differs. lines other;
      own_line = lines hart;
      own_apart = λ other e differs own is. differs (k.stands.apart other hart e is own);
      translations = stayed_translations;
    })
