-- The rows of the attacker's lines.
use Rattle.std.proofs.Common.{◌≡◌, ℕ, ◌+◌, ◌-◌, ◌*◌, ◌<◌, ◌≤◌, leb, ltb, Bool, true, false, ◌&&◌, ◌||◌, if◌then◌else◌, List, [], ◌∷◌, ◌++◌, length, take, drop, slice_get, unwrap_or, Option, Some, None, option_map, refl, sym, ap, ◌∙◌, subst, arith, inl, inr, length-append, ◌⊎◌}
use Rattle.std.specs.Prelude.{slice_set}
use Rattle.std.specs.List.{All}
use Rattle.std.specs.Option.{option_map_or}
use Rattle.std.proofs.lemmas.Bool.{cases_Bool, eq-eqb, false≢true}
use Rattle.std.proofs.lemmas.Bool.Decides.{nat_tests}
use Rattle.std.proofs.lemmas.List.Folds.{list_any-append}
use Rattle.std.proofs.lemmas.List.Elements.{All-push, All-weaker}
use Rattle.std.proofs.lemmas.Option.{slice_get_past, slice_get_within}
use Rattle.pl_base.specs.Bytes.{bytes_at, with_bytes}
use Rattle.mem_ctl.specs.Data.{with_off_chip}
use Rattle.mem_ctl.proofs.KeptLaws.{off_chip_is_free}
use Rattle.mem_geom.specs.Layout.{memory_end, memory_size}
use Rattle.mem_geom.specs.Parts.{page_bytes}
use Rattle.mon_enclave.specs.Records.{enclave_at}
use Rattle.mon_owner.specs.declared.owners.Owner.{Owner}
use Rattle.pl_history.specs.declared.answer.Answer.{Answer}
use Rattle.pl_history.specs.declared.answer.Answer.TheVariants as answer_is
use Rattle.pl_history.specs.declared.answer.Entry.{Entry}
use Rattle.pl_history.specs.declared.line.AttackLine.{AttackLine}
use Rattle.pl_history.specs.declared.line.AttackLine.TheVariants as attack
use Rattle.pl_history.specs.Attacking.{AllowedKept, AllowedWrote, Placed, latest_kept, overwritten_page, written}
use Rattle.pl_history.specs.History.{HistoryData, NamesPart, named_part, part_end}
use Rattle.pl_history.specs.Legal.{Allowed, AllowedAttack, after, after_line, legal_state, line_at, of_attacker, of_hart}
use Rattle.pl_history.specs.Monitor.{Attack, Monitor, Number, Progress, answer, is_host, script_of}
use Rattle.pl_history.proofs.HistoryLemmas.{more_bytes_leave_legal, more_bytes_leave_state, one_more_gives, one_more_is_legal}
use Rattle.world_attack.specs.Attacks.{Exposed, attacked_by, bytes_from, changes_off_chip, entry_of, exposed, kept_at, with_answer, wrote_at}
use Rattle.world_attack.specs.Laws.{IsOffChip, KeepLeaves, WriteLeaves}
use Rattle.world_attack.specs.Lines.{IsInside, KeepIsAnswered, is_attack, line_bytes, range_of}
use Rattle.world_attack.specs.Room.{HasRoom, RoomStays}
use Rattle.world_attack.proofs.KeptLemmas.{more_bytes_leave_kept}
use Rattle.world_attack.proofs.LegalLemmas.{keeps_answered}
use Rattle.world_attack.proofs.LineLemmas.{backs_have_bytes, lines_inside}
use Rattle.world_attack.proofs.WriteLemmas.{keeps_leave, writes_leave}
use Rattle.world_machine.specs.declared.under.Under.TheVariants.{Idle}
use Rattle.world_machine.specs.Answering.{with_entry}
use Rattle.world_machine.specs.Attacking.{attacker_goes_on, attacker_waited, attacks}
use Rattle.world_machine.specs.EnclavesAgree.{EnclavesAgree, is_made}
use Rattle.world_machine.specs.LinesUnderWay.{LineUnderWay}
use Rattle.world_machine.specs.BytesAgree.{ByteAgrees, HasPut, HostBytesAgree, covers, is_attacked}
use Rattle.world_machine.specs.PagesAgree.{PagesAgree}
use Rattle.world_machine.specs.RecordsAgree.{OwnersAgree, RecordsAgree, is_begun, owner_of}
use Rattle.world_machine.specs.Standing.{Kept, state_of}
use Rattle.world_machine.specs.Worlds.{WorldData, answered_at, attacker_line, hart_line, under_at}
use Rattle.world_machine.proofs.ChangedBytes.{may_say, same_then_unchanged}
use Rattle.world_machine.proofs.HostBytes.{page_overwritten}
use Rattle.world_machine.proofs.LineMoves.{LineMoves, joined}
use Rattle.world_machine.proofs.LineTranslations.{isnt_waiting}
use Rattle.world_machine.proofs.Lists.{ChangedAt, changed_set, if_other, if_same}
use Rattle.world_machine.proofs.QuietRows.{attacks_live, idle_has_none, idle_put_none, none_some}
use Rattle.world_machine.proofs.RowKept.{attacks_frame, line_after, row_kept, same_sizes}
use Rattle.world_machine.proofs.TranslationFrames.{quiet_translations}

-- a page that has an owner is there
owner_within : (owners : List Owner) (page : ℕ) (o : Option Owner) → slice_get owners page ≡ o → is_host (option_map owner_of o) ≡ true → page < length owners
owner_within owners page None is host = absurd (false≢true host)
owner_within owners page (Some owner) is host = slice_get_within owners page owner is

-- a byte that no attack covers, also not the last one
covered_before : (attacks : List Attack) (last : Attack) (i : ℕ) → is_attacked (attacks ++ last ∷ []) i ≡ false → (is_attacked attacks i ≡ false) × (covers i last ≡ false)
covered_before attacks last i clean =
    let parts : is_attacked attacks i || (covers i last || false) ≡ false = sym (list_any-append (covers i) attacks (last ∷ [])) ∙ clean in
    none_of (is_attacked attacks i) (covers i last) parts
  where
    none_of : (a b : Bool) → a || (b || false) ≡ false → (a ≡ false) × (b ≡ false)
    none_of true b is = absurd (false≢true (sym is))
    none_of false true is = absurd (false≢true (sym is))
    none_of false false is = (refl, refl)

-- the index of a byte that isn't covered lies before or behind
before_or_behind : (i : ℕ) (a : Attack) → covers i a ≡ false → ((0x80000000 + i < a.address) ⊎ (a.address + a.length ≤ 0x80000000 + i))
before_or_behind i a clean = elim (cases_Bool (leb a.address (0x80000000 + i))) [
  | inr before ↦ inl (grind (arith, nat_tests))
  | inl from ↦ inr (let test : ltb (0x80000000 + i) (a.address + a.length) ≡ false = sym (ap (λ b. b && ltb (0x80000000 + i) (a.address + a.length)) from) ∙ clean in grind (arith, nat_tests))
]

module _ (digest_of : List ℕ → List ℕ) (room_stays : RoomStays) (w : WorldData) (k : Kept digest_of w) (none : w.collision ≡ None) where
  abbrev actor : ℕ
  actor = w.setup.harts

  abbrev at : ℕ
  at = answered_at w.answered actor

  abbrev s : Monitor
  s = state_of w

  abbrev answered' : List ℕ
  answered' = slice_set w.answered actor (at + 1)

  -- the attacker has no line under way
  idle : under_at w.under actor ≡ Idle
  idle = let n : length w.under ≡ w.setup.harts = k.sizes.harts in ap (λ o. unwrap_or o Idle) (slice_get_past w.under actor (omega arith))

  no_line : (count : ℕ) → slice_get (script_of w.setup actor) count ≡ None
  no_line count =
      let scripts : length w.setup.lines ≡ w.setup.harts = k.sizes.rules.scripts in
      ap (λ o. slice_get (unwrap_or o []) count) (slice_get_past w.setup.lines actor (omega arith))

  under_change : ChangedAt Idle w.under w.under actor Idle
  under_change = record { here = idle; others = λ j other. refl; size = refl }

  answered_change : ChangedAt 0 w.answered answered' actor (at + 1)
  answered_change = let n : length w.answered ≡ w.setup.harts + 1 = k.sizes.actors in changed_set 0 w.answered actor (at + 1) (omega arith)

  own_progress : s.progress actor ≡ record { answered = at; begun = false }
  own_progress = k.stands.progress actor ∙ ap (λ u. record { answered = at; begun = is_begun u }) idle

  line_there : (line : AttackLine) → attacker_line w ≡ Some line → line_at w.setup actor at ≡ Some (of_attacker line)
  line_there line here =
      ap (λ b. if b then option_map of_attacker (slice_get w.setup.attacker at) else option_map of_hart (slice_get (script_of w.setup actor) at)) (eq-eqb actor actor refl)
      ∙ ap (option_map of_attacker) here

  -- ---- an answer that adds bytes to the history

  module _ (line : AttackLine) (here : attacker_line w ≡ Some line) (more : List ℕ) (now : Answer) (ends : part_end now ≡ length w.history.bytes + length more)
      (added : line_bytes w.setup at ≡ length more)
      (allowed : AllowedAttack w.setup (w.history.bytes ++ more) s w.history.entries (named_part (w.history.bytes ++ more) now) line false now)
      (t : Monitor) (same : (a : ℕ) → t.progress a ≡ s.progress a)
      (effect : after_line s actor (named_part (w.history.bytes ++ more) now) now (of_attacker line) ≡ answer t actor) where
    abbrev bytes' : List ℕ
    bytes' = w.history.bytes ++ more

    abbrev entry : Entry
    entry = entry_of w.setup at now

    state_same : legal_state w.setup bytes' w.history.entries ≡ s
    state_same = more_bytes_leave_state w.setup w.history.bytes more w.history.entries k.parts

    is_allowed : Allowed w.setup bytes' s w.history.entries entry
    is_allowed = (
      sym (ap (λ (p : Progress). p.answered) own_progress),
      (
        of_attacker line,
        line_there line here,
        subst (λ (p : Progress). AllowedAttack w.setup bytes' s w.history.entries (named_part bytes' now) line p.begun now) (sym own_progress) allowed,
      ),
    )

    after_is : after w.setup bytes' s entry ≡ answer t actor
    after_is = ap (λ l. option_map_or (after_line s actor (named_part bytes' now) now) l s) (line_there line here) ∙ effect

    old_parts : All (NamesPart bytes') w.history.entries
    old_parts = All-weaker (NamesPart w.history.bytes) (NamesPart bytes')
        (λ (e : Entry) here. let h : part_end e.answer ≤ length w.history.bytes = here in let n : length bytes' ≡ length w.history.bytes + length more = length-append w.history.bytes more in omega arith)
        w.history.entries k.parts

    pub adding_moves : LineMoves w actor w.under answered' (with_answer w.history more entry) (answer t actor) Idle (at + 1)
    adding_moves = record {
      under_change = under_change;
      answered_change = answered_change;
      own = if_same actor _ _ ∙ ap (λ (p : Progress). record { answered = p.answered + 1; begun = false }) (same actor ∙ own_progress);
      others = λ other differs. if_other actor other _ _ differs ∙ same other;
      legal = one_more_is_legal w.setup bytes' w.history.entries entry (more_bytes_leave_legal w.setup w.history.bytes more w.history.entries k.parts k.legal)
          (subst (λ x. Allowed w.setup bytes' x w.history.entries entry) (sym state_same) is_allowed);
      gives = one_more_gives w.setup bytes' w.history.entries entry ∙ ap (λ x. after w.setup bytes' x entry) state_same ∙ after_is;
      parts = All-push (NamesPart bytes') w.history.entries entry old_parts
          (let e : part_end now ≡ length w.history.bytes + length more = ends in let n : length bytes' ≡ length w.history.bytes + length more = length-append w.history.bytes more in omega arith);
      room = subst (λ x. HasRoom w.setup x (with_answer w.history more entry)) after_is
          (room_stays w.setup bytes' s w.history.entries entry w.history (with_answer w.history more entry) k.sizes.rules k.room is_allowed (omega arith)
          (subst (λ b. w.history.byte_room ≤ w.history.byte_room - length more + (if b then line_bytes w.setup at else 0)) (sym (eq-eqb actor actor refl))
          (let a : line_bytes w.setup at ≡ length more = added in omega arith)));
    }

  -- ---- a write

  -- the page of the host is there
  host_inside : (page : ℕ) → is_host (s.owner page) ≡ true → 4096 * page + 4096 ≤ length w.ctl.off_chip
  host_inside page host =
      let there : page < length w.owners = owner_within w.owners page (slice_get w.owners page) refl (subst (λ o. is_host o ≡ true) (k.stands.owners.owner page) host) in
      let all : length w.owners ≡ 64 * w.setup.zones = k.sizes.pages in
      let size : length w.ctl.off_chip ≡ memory_size w.ctl.zones = k.trees.trees.sizes.off_chip_size in
      let zones : w.ctl.zones ≡ w.setup.zones = k.sizes.zones in
      omega arith

  module _ (line : AttackLine) (here : attacker_line w ≡ Some line) (what : Placed) (inside : IsInside w.setup.zones (range_of what)) (added : line_bytes w.setup at ≡ length what.bytes) where
    abbrev x : Exposed
    x = exposed w.history w.ctl.off_chip

    abbrev y : Exposed
    y = wrote_at w.setup at x what

    off_chip_there : IsOffChip w.ctl.off_chip what.address (length what.bytes)
    off_chip_there =
        let from : 0x80000000 ≤ what.address = inside.from in
        let to : what.address + length what.bytes ≤ memory_end w.setup.zones = inside.to in
        let size : length w.ctl.off_chip ≡ memory_size w.ctl.zones = k.trees.trees.sizes.off_chip_size in
        let zones : w.ctl.zones ≡ w.setup.zones = k.sizes.zones in
        record { from = inside.from; to = omega arith }

    leaves : WriteLeaves w.setup at x what
    leaves = writes_leave w.setup at x what off_chip_there

    abbrev changed : Bool
    changed = changes_off_chip w.ctl.off_chip what

    abbrev now : Answer
    now = answer_is.Wrote changed what.address (length w.history.bytes) (length what.bytes)

    abbrev part : List ℕ
    part = named_part (w.history.bytes ++ what.bytes) now

    part_is : part ≡ what.bytes
    part_is = leaves.named changed

    abbrev placed : Placed
    placed = record { address = what.address; bytes = what.bytes }

    bytes_fit : what.address - 0x80000000 + length what.bytes ≤ length w.ctl.off_chip
    bytes_fit = let from : 0x80000000 ≤ what.address = off_chip_there.from in let to : what.address + length what.bytes ≤ 0x80000000 + length w.ctl.off_chip = off_chip_there.to in omega arith

    -- what the monitor allows
    pub wrote_allowed : AllowedWrote s (Some what) part false now
    wrote_allowed = (
      ap (λ bs. Some (record { address = what.address; bytes = bs })) (sym part_is),
      ap length part_is,
      ap (λ bs. Rattle.pl_history.specs.Attacking.may_say_changed s (record { address = what.address; bytes = bs }) changed) part_is
          ∙ may_say w.ctl.off_chip s k.stands.host what.bytes what.address off_chip_there.from bytes_fit,
    )

    -- the state after it, by whether a byte changed
    abbrev state_by : Bool → Monitor
    state_by c = answer (written s placed c) actor

    owners_by : (c : Bool) → OwnersAgree w.owners (state_by c)
    owners_by true = record { owner = k.stands.owners.owner; maps = k.stands.owners.maps }
    owners_by false = record { owner = k.stands.owners.owner; maps = k.stands.owners.maps }

    number_by : (c : Bool) → (state_by c).number ≡ s.number
    number_by true = refl
    number_by false = refl

    space_by : (c : Bool) → (state_by c).space ≡ s.space
    space_by true = refl
    space_by false = refl

    removals_by : (c : Bool) → (state_by c).removals ≡ s.removals
    removals_by true = refl
    removals_by false = refl

    progress_by : (c : Bool) (a : ℕ) → (written s placed c).progress a ≡ s.progress a
    progress_by true a = refl
    progress_by false a = refl

    page_by : (page : ℕ) → is_host (s.owner page) ≡ true → page_bytes y.off_chip page ≡ (if is_host (s.owner page) then overwritten_page page (s.bytes page) placed else s.bytes page)
    page_by page host =
        page_overwritten w.ctl.off_chip what.bytes (what.address - 0x80000000) page bytes_fit (host_inside page host)
        ∙ ap (λ n. with_bytes (page_bytes w.ctl.off_chip page) n (take (4096 - n) (drop (4096 * page - (what.address - 0x80000000)) what.bytes)))
        (let h : what.address - 0x80000000 - 4096 * page ≡ what.address - (0x80000000 + 4096 * page) = omega arith in h)
        ∙ ap (λ n. with_bytes (page_bytes w.ctl.off_chip page) (what.address - (0x80000000 + 4096 * page)) (take (4096 - (what.address - (0x80000000 + 4096 * page))) (drop n what.bytes)))
        (let from : 0x80000000 ≤ what.address = off_chip_there.from in let h : 4096 * page - (what.address - 0x80000000) ≡ 0x80000000 + 4096 * page - what.address = omega arith in h)
        ∙ ap (λ old. overwritten_page page old placed) (k.stands.host page host)
        ∙ sym (ap (λ b. if b then overwritten_page page (s.bytes page) placed else s.bytes page) host)

    host_by : (c : Bool) → HostBytesAgree y.off_chip (state_by c)
    host_by true page host = page_by page host
    host_by false page host = page_by page host

    byte_by : (c : Bool) → changed ≡ c → (i : ℕ) → ByteAgrees w.ctl.off_chip w.ctl.mirror s.attacks i → ByteAgrees y.off_chip w.ctl.mirror (state_by c).attacks i
    byte_by false same i old clean = ap (λ xs. slice_get xs i) (leaves.same same) ∙ old clean
    byte_by true differs i old clean =
        let parts = covered_before s.attacks (record { address = what.address; length = length what.bytes }) i clean in
        let from : 0x80000000 ≤ what.address = off_chip_there.from in
        (elim (before_or_behind i (record { address = what.address; length = length what.bytes }) parts.1) [
          | inl before ↦ leaves.before i (let h : 0x80000000 + i < what.address = before in omega arith)
          | inr behind ↦ leaves.beyond i (let h : what.address + length what.bytes ≤ 0x80000000 + i = behind in omega arith)
        ]) ∙ old parts.0

    module _ (allows : AllowedWrote s (Some what) part false now → AllowedAttack w.setup (w.history.bytes ++ what.bytes) s w.history.entries part line false now)
        (effect : after_line s actor part now (of_attacker line) ≡ answer (written s (record { address = what.address; bytes = part }) changed) actor) where
      moves : LineMoves w actor w.under answered' (with_answer w.history what.bytes (entry_of w.setup at now)) (state_by changed) Idle (at + 1)
      moves = adding_moves line here what.bytes now refl added (allows wrote_allowed) (written s placed changed) (progress_by changed)
          (effect ∙ ap (λ bs. answer (written s (record { address = what.address; bytes = bs }) changed) actor) part_is)

      -- bytes are written off chip
      pub wrote_kept : Kept digest_of (attacker_goes_on (record w { ctl = with_off_chip w.ctl y.off_chip; history = y.history }))
      wrote_kept = row_kept digest_of w actor (with_off_chip w.ctl y.off_chip) w.owners w.enclaves w.tlbs w.fences w.under answered' y.history (state_by changed) Idle (at + 1) k none (record {
        line = moves;
        sizes = record { zones = refl; slots = refl; pages = refl; guarded = λ page is. is; numbers = refl };
        trees = off_chip_is_free digest_of w.ctl y.off_chip k.trees leaves.size;
        owners_agree = owners_by changed;
        records = subst (RecordsAgree (enclave_at w.enclaves)) (sym (number_by changed)) k.stands.records;
        pages_agree = subst (PagesAgree w.setup (enclave_at w.enclaves)) (sym (number_by changed)) k.stands.pages;
        enclaves_agree = subst (EnclavesAgree w.setup (page_bytes w.ctl.mirror) w.owners (enclave_at w.enclaves)) (sym (number_by changed)) k.stands.enclaves;
        host = host_by changed;
        attacks = attacks_frame w.setup.zones w.ctl.off_chip w.ctl.mirror y.off_chip w.ctl.mirror s.attacks (state_by changed).attacks w.owners w.owners
            (enclave_at w.enclaves) (enclave_at w.enclaves) s.number (state_by changed).number
            (hart_line w) (line_after w answered') (under_at w.under) (under_at w.under) actor 0 (byte_by changed refl)
            (record {
              guarded = λ page is. is;
              made = λ f other. ap (λ (numbers : ℕ → Number). is_made (numbers f)) (number_by changed);
              pages = λ f other. refl;
              lines = λ hart other. ap (slice_get (script_of w.setup hart)) (answered_change.others hart other);
              unders = λ hart other. refl;
              made_own = λ page is made i few. byte_by changed refl (4096 * page + i)
                  (k.stands.attacks.made page 0 is (ap (λ (numbers : ℕ → Number). is_made (numbers 0)) (sym (number_by changed)) ∙ made) i few);
              put_own = λ page is. absurd (idle_put_none _ page (subst (λ u. HasPut (line_after w answered' actor) u page) idle is));
            })
            k.stands.attacks;
        other_lines = λ other differs. subst (λ f. LineUnderWay w.setup (page_bytes w.ctl.mirror) (enclave_at w.enclaves) f other (hart_line w other) (under_at w.under other)) (sym (number_by changed)) (k.stands.lines other);
        own_line = tt;
        own_apart = λ other e differs own there. none_some e _ (idle_has_none _) own;
        translations = quiet_translations digest_of w k (with_off_chip w.ctl y.off_chip) refl (state_by changed) (space_by changed) (removals_by changed) (number_by changed) actor
            (line_after w answered') (under_at w.under) (λ hart other. ap (slice_get (script_of w.setup hart)) (answered_change.others hart other)) (λ hart other. refl)
            (ap isnt_waiting idle) idle;
      })

  -- ---- a keeping, and a wait

  -- an answer that changes no byte and no number
  unmoved : (history : HistoryData) → LineMoves w actor w.under answered' history (answer s actor) Idle (at + 1)
      → Kept digest_of (attacker_goes_on (record w { history = history }))
  unmoved history line_moves = row_kept digest_of w actor w.ctl w.owners w.enclaves w.tlbs w.fences w.under answered' history (answer s actor) Idle (at + 1) k none (record {
    line = line_moves;
    sizes = same_sizes w.setup w.ctl w.owners w.enclaves;
    trees = k.trees;
    owners_agree = record { owner = k.stands.owners.owner; maps = k.stands.owners.maps };
    records = k.stands.records;
    pages_agree = k.stands.pages;
    enclaves_agree = k.stands.enclaves;
    host = k.stands.host;
    attacks = attacks_live w actor (answer s actor) w.under answered' digest_of k refl (λ e. refl) (λ e. refl)
        (λ hart other. ap (slice_get (script_of w.setup hart)) (answered_change.others hart other)) (λ hart other. refl)
        (λ page put. absurd (idle_put_none _ page (subst (λ u. HasPut (line_after w answered' actor) u page) idle put)));
    other_lines = λ other differs. k.stands.lines other;
    own_line = tt;
    own_apart = λ other e differs own there. none_some e _ (idle_has_none _) own;
    translations = quiet_translations digest_of w k w.ctl refl (answer s actor) refl refl refl actor (line_after w answered') (under_at w.under)
        (λ hart other. ap (slice_get (script_of w.setup hart)) (answered_change.others hart other)) (λ hart other. refl) (ap isnt_waiting idle) idle;
  })

  abbrev world_from : Exposed → WorldData
  world_from z = attacker_goes_on (record w { ctl = with_off_chip w.ctl z.off_chip; history = z.history })

  module _ (name : List ℕ) (pa len : ℕ) (here : attacker_line w ≡ Some (attack.Keep name pa len)) where
    abbrev kept_bytes : List ℕ
    kept_bytes = bytes_from w.ctl.off_chip pa len

    line_inside : IsInside w.setup.zones (record { address = pa; count = len }) × (line_bytes w.setup at ≡ len)
    line_inside = (lines_inside w.setup k.sizes.rules).keeps at pa len name here

    keep_there : IsOffChip w.ctl.off_chip pa len
    keep_there =
        let from : 0x80000000 ≤ pa = line_inside.0.from in
        let to : pa + len ≤ memory_end w.setup.zones = line_inside.0.to in
        let size : length w.ctl.off_chip ≡ memory_size w.ctl.zones = k.trees.trees.sizes.off_chip_size in
        let zones : w.ctl.zones ≡ w.setup.zones = k.sizes.zones in
        record { from = line_inside.0.from; to = omega arith }

    keep_leaves : KeepLeaves w.setup at (exposed w.history w.ctl.off_chip) pa len
    keep_leaves = keeps_leave w.setup at (exposed w.history w.ctl.off_chip) pa len keep_there

    keep_allowed : AllowedKept s pa len (named_part (w.history.bytes ++ kept_bytes) (answer_is.Kept pa (length w.history.bytes) len)) false (answer_is.Kept pa (length w.history.bytes) len)
    keep_allowed =
        let n : length kept_bytes ≡ len = keep_leaves.size in
        let to : pa + len ≤ 0x80000000 + length w.ctl.off_chip = keep_there.to in
        let from : 0x80000000 ≤ pa = keep_there.from in (
          refl,
          refl,
          ap length keep_leaves.named ∙ keep_leaves.size,
          ap (Rattle.pl_history.specs.Attacking.changes_host s pa) keep_leaves.named
              ∙ same_then_unchanged w.ctl.off_chip s k.stands.host kept_bytes pa from (omega arith) (ap (bytes_at w.ctl.off_chip (pa - 0x80000000)) n),
        )

    keep_kept : Kept digest_of (world_from (kept_at w.setup at (exposed w.history w.ctl.off_chip) pa len))
    keep_kept = unmoved (with_answer w.history kept_bytes (entry_of w.setup at (answer_is.Kept pa (length w.history.bytes) len)))
        (adding_moves (attack.Keep name pa len) here kept_bytes (answer_is.Kept pa (length w.history.bytes) len)
        (ap (λ n. length w.history.bytes + n) (sym keep_leaves.size)) (line_inside.1 ∙ sym keep_leaves.size) keep_allowed s (λ a. refl) refl)

  module _ (name : List ℕ) (here : attacker_line w ≡ Some (attack.Back name)) where
    kept_there : (what : Placed) × (latest_kept w.setup w.history.bytes name w.history.entries ≡ Some what) × IsInside w.setup.zones (range_of what) × (line_bytes w.setup at ≡ length what.bytes)
    kept_there = backs_have_bytes w.setup w.history at name k.sizes.rules here
        (subst (λ n. KeepIsAnswered w.setup w.history n name) (ap (λ (p : Progress). p.answered) own_progress) (keeps_answered w.setup w.history name k.legal))

    back_kept : Kept digest_of (world_from (option_map_or (wrote_at w.setup at (exposed w.history w.ctl.off_chip)) (latest_kept w.setup w.history.bytes name w.history.entries) (exposed w.history w.ctl.off_chip)))
    back_kept = subst (λ o. Kept digest_of (world_from (option_map_or (wrote_at w.setup at (exposed w.history w.ctl.off_chip)) o (exposed w.history w.ctl.off_chip)))) (sym kept_there.1)
        (wrote_kept (attack.Back name) here kept_there.0 kept_there.2 kept_there.3
        (λ allowed. subst (λ o. AllowedWrote s o (part (attack.Back name) here kept_there.0 kept_there.2 kept_there.3) false (now (attack.Back name) here kept_there.0 kept_there.2 kept_there.3))
        (sym (more_bytes_leave_kept w.setup w.history.bytes kept_there.0.bytes name w.history.entries k.parts ∙ kept_there.1)) allowed)
        refl)

  by_line : (line : AttackLine) → attacker_line w ≡ Some line → is_attack (Some line) ≡ true → Kept digest_of (world_from (attacked_by w.setup at (exposed w.history w.ctl.off_chip) line))
  by_line (attack.Write pa bytes) here is =
      let inside = (lines_inside w.setup k.sizes.rules).writes at pa bytes here in
      wrote_kept (attack.Write pa bytes) here (record { address = pa; bytes = bytes }) inside.0 inside.1 (λ allowed. allowed) refl
  by_line (attack.Keep name pa len) here is = keep_kept name pa len here
  by_line (attack.Back name) here is = back_kept name here
  by_line (attack.After other count) here is = absurd (false≢true is)

  -- `write`, `keep` and `back`
  pub attacks_kept : (line : AttackLine) → attacker_line w ≡ Some line → is_attack (Some line) ≡ true → Kept digest_of (attacks w).world
  attacks_kept line here is = subst (λ o. Kept digest_of (world_from (option_map_or (attacked_by w.setup at (exposed w.history w.ctl.off_chip)) o (exposed w.history w.ctl.off_chip)))) (sym here) (by_line line here is)

  -- `after`
  pub attacker_waited_kept : (other count : ℕ) → attacker_line w ≡ Some (attack.After other count) → count ≤ answered_at w.answered other → Kept digest_of (attacker_waited w).world
  attacker_waited_kept other count here enough =
      let entry : Entry = entry_of w.setup at answer_is.Ok in
      let allowed : Allowed w.setup w.history.bytes s w.history.entries entry = (
        sym (ap (λ (p : Progress). p.answered) own_progress),
        (
          of_attacker (attack.After other count),
          line_there (attack.After other count) here,
          subst (λ (p : Progress). AllowedAttack w.setup w.history.bytes s w.history.entries [] (attack.After other count) p.begun answer_is.Ok) (sym own_progress)
              (subst (λ n. count ≤ n) (sym (ap (λ (p : Progress). p.answered) (k.stands.progress other))) enough),
        ),
      ) in
      let j = joined digest_of room_stays w k entry refl allowed in
      let gives : after w.setup w.history.bytes s entry ≡ answer s actor
      = ap (λ l. option_map_or (after_line s actor [] answer_is.Ok) l s) (line_there (attack.After other count) here) in
      unmoved (with_entry w.history entry) (record {
        under_change = under_change;
        answered_change = answered_change;
        own = if_same actor _ _ ∙ ap (λ (p : Progress). record { answered = p.answered + 1; begun = false }) own_progress;
        others = λ a differs. if_other actor a _ _ differs;
        legal = j.legal;
        gives = j.gives ∙ gives;
        parts = j.parts;
        room = subst (λ x. HasRoom w.setup x (with_entry w.history entry)) gives j.room;
      })
