-- The TLB of a hart learns, and the walk of a load or a store of the host goes on: the world keeps what it kept.
use Rattle.std.proofs.Common.{◌≡◌, ℕ, ◌<◌, true, List, [], length, Some, None, refl, sym, ap, ◌∙◌, subst}
use Rattle.std.specs.Prelude.{slice_set}
use Rattle.std.specs.List.{All}
use Rattle.pl_base.specs.declared.address.Va.{Va}
use Rattle.rv_hart.specs.declared.walks.Walk.{Walk}
use Rattle.rv_tlb.specs.declared.tlb.TlbEntry.{TlbEntry}
use Rattle.mon_enclave.specs.Records.{enclave_at}
use Rattle.pl_history.specs.Monitor.{Monitor}
use Rattle.world_attack.specs.Room.{RoomStays}
use Rattle.world_machine.specs.declared.under.Under.{Under}
use Rattle.world_machine.specs.declared.under.Under.TheVariants.{Seeking}
use Rattle.world_machine.specs.Answering.{goes_on}
use Rattle.world_machine.specs.BytesAgree.{HasPut}
use Rattle.world_machine.specs.HostAccessing.{WordAccess}
use Rattle.world_machine.specs.LinesUnderWay.{LineUnderWay, number_under_way}
use Rattle.world_machine.specs.Standing.{Kept, state_of, written_page}
use Rattle.world_machine.specs.Translating.{host_view}
use Rattle.world_machine.specs.TranslationsAgree.{IsFresh, WalkStands, WalkingStands, walking}
use Rattle.world_machine.specs.Worlds.{WorldData, answered_at, hart_line, tlb_at, under_at, with_tlb}
use Rattle.world_machine.proofs.HostAccesses.{IsAccess, access_line_is, access_number, access_put, access_stands, access_walking}
use Rattle.world_machine.proofs.HostAnswers.{access_line}
use Rattle.world_machine.proofs.HostOutcomes.{HostLine}
use Rattle.world_machine.proofs.LineKinds.{goes_on_line, still_line}
use Rattle.world_machine.proofs.LineTranslations.{isnt_waiting, unbegun_waits_none}
use Rattle.world_machine.proofs.Lists.{ChangedAt, changed_set, everywhere}
use Rattle.world_machine.proofs.QuietRows.{attacks_live}
use Rattle.world_machine.proofs.RowKept.{row_kept, same_sizes}
use Rattle.world_machine.proofs.TranslationFrames.{giving_stays, removals_stay}

module _ (digest_of : List ℕ → List ℕ) (room_stays : RoomStays) (w : WorldData) (k : Kept digest_of w) (none : w.collision ≡ None) (hart : ℕ) (below : hart < w.setup.harts) where
  abbrev s : Monitor
  s = state_of w

  abbrev Fresh : TlbEntry → Type 0
  Fresh = IsFresh w.setup (enclave_at w.enclaves) s w.fences hart

  -- a hart's TLB has other translations that it may use
  pub tlb_kept : (entries : List TlbEntry) → All Fresh entries → Kept digest_of (with_tlb w hart entries)
  tlb_kept entries all =
      let there : hart < length w.tlbs = subst (λ size. hart < size) (sym k.stands.translations.harts) below in
      let changes : ChangedAt [] w.tlbs (slice_set w.tlbs hart entries) hart entries = changed_set [] w.tlbs hart entries there in
      row_kept digest_of w hart w.ctl w.owners w.enclaves (slice_set w.tlbs hart entries) w.fences w.under w.answered w.history s (under_at w.under hart) (answered_at w.answered hart) k none (record {
        line = still_line digest_of room_stays w k hart below;
        sizes = same_sizes w.setup w.ctl w.owners w.enclaves;
        trees = k.trees;
        owners_agree = k.stands.owners;
        records = k.stands.records;
        pages_agree = k.stands.pages;
        enclaves_agree = k.stands.enclaves;
        host = k.stands.host;
        attacks = k.stands.attacks;
        other_lines = λ other differs. k.stands.lines other;
        own_line = k.stands.lines hart;
        own_apart = λ other e differs own there. differs (k.stands.apart other hart e there own);
        translations = record {
          tables = k.stands.translations.tables;
          harts = changes.size ∙ k.stands.translations.harts;
          fences_stand = k.stands.translations.fences_stand;
          removals = k.stands.translations.removals;
          giving = k.stands.translations.giving;
          fresh = record {
            entries = everywhere (λ h. All (IsFresh w.setup (enclave_at w.enclaves) s w.fences h) (tlb_at (slice_set w.tlbs hart entries) h)) hart
                (subst (All Fresh) (sym changes.here) all)
                (λ other differs. subst (All (IsFresh w.setup (enclave_at w.enclaves) s w.fences other)) (sym (changes.others other differs)) (k.stands.translations.fresh.entries other));
            walks = k.stands.translations.fresh.walks;
          };
        };
      })

  -- the walk of an access goes on
  module _ (va : Va) (access : WordAccess) (walk : Walk) (is : IsAccess w hart va access walk) (more : Walk) (stands : WalkStands w.ctl Fresh (host_view w.setup.tables) va more) where
    abbrev u : Under
    u = Seeking more

    abbrev now : List Under
    now = slice_set w.under hart u

    line_is : HostLine w hart (access_line va access) va
    line_is = access_line_is digest_of w k hart va access walk is

    waited : isnt_waiting (under_at w.under hart) ≡ true
    waited = unbegun_waits_none (under_at w.under hart) line_is.not_begun

    walk_own : WalkingStands w.ctl Fresh (walking w.setup.tables (enclave_at w.enclaves) (hart_line w hart) u)
    walk_own =
        subst (WalkingStands w.ctl Fresh)
        (sym (ap (λ l. walking w.setup.tables (enclave_at w.enclaves) l u) is.here ∙ access_walking w.setup.tables (enclave_at w.enclaves) va access more)) stands

    pub seek_kept : Kept digest_of (goes_on w hart (Seeking more))
    seek_kept =
        let moves = goes_on_line digest_of room_stays w k hart below u (sym line_is.not_begun) in
        row_kept digest_of w hart w.ctl w.owners w.enclaves w.tlbs w.fences now w.answered w.history s u (answered_at w.answered hart) k none (record {
          line = moves;
          sizes = same_sizes w.setup w.ctl w.owners w.enclaves;
          trees = k.trees;
          owners_agree = k.stands.owners;
          records = k.stands.records;
          pages_agree = k.stands.pages;
          enclaves_agree = k.stands.enclaves;
          host = k.stands.host;
          attacks = attacks_live w hart s now w.answered digest_of k refl (λ e. refl) (λ e. refl) (λ other differs. refl) moves.under_change.others
              (λ page put. absurd (access_put va access more page (subst (λ l. HasPut l u page) is.here (subst (λ x. HasPut (hart_line w hart) x page) moves.under_change.here put))));
          other_lines = λ other differs. k.stands.lines other;
          own_line = subst (λ l. LineUnderWay w.setup (written_page w) (enclave_at w.enclaves) s.number hart l u) (sym is.here)
              (access_stands w.setup (written_page w) (enclave_at w.enclaves) s.number hart va access more is.aligned);
          own_apart = λ other e differs own there. (let clash : None ≡ Some e = sym (ap (λ l. number_under_way l u) is.here ∙ access_number va access more) ∙ own in cc);
          translations = record {
            tables = k.stands.translations.tables;
            harts = k.stands.translations.harts;
            fences_stand = k.stands.translations.fences_stand;
            removals = removals_stay digest_of w k hart (hart_line w) (under_at now) (λ other differs. refl) moves.under_change.others waited (ap isnt_waiting moves.under_change.here);
            giving = giving_stays digest_of w k hart (hart_line w) (under_at now) (λ other differs. refl) moves.under_change.others waited (ap isnt_waiting moves.under_change.here);
            fresh = record {
              entries = k.stands.translations.fresh.entries;
              walks = everywhere (λ h. WalkingStands w.ctl (IsFresh w.setup (enclave_at w.enclaves) s w.fences h) (walking w.setup.tables (enclave_at w.enclaves) (hart_line w h) (under_at now h))) hart
                  (subst (λ x. WalkingStands w.ctl Fresh (walking w.setup.tables (enclave_at w.enclaves) (hart_line w hart) x)) (sym moves.under_change.here) walk_own)
                  (λ other differs. subst (λ x. WalkingStands w.ctl (IsFresh w.setup (enclave_at w.enclaves) s w.fences other) (walking w.setup.tables (enclave_at w.enclaves) (hart_line w other) x))
                  (sym (moves.under_change.others other differs)) (k.stands.translations.fresh.walks other));
            };
          };
        })
