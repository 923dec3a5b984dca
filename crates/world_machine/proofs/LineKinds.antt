-- How a hart's line moves: it begins, goes on, is answered, or stays.
use Rattle.std.proofs.Common.{◌≡◌, ℕ, ◌+◌, ◌<◌, eqb, true, false, List, length, Some, refl, sym, ap, ◌∙◌, subst, arith}
use Rattle.std.specs.Prelude.{slice_set}
use Rattle.std.proofs.lemmas.Bool.Decides.{nat_tests}
use Rattle.pl_history.specs.declared.answer.Answer.{Answer}
use Rattle.pl_history.specs.declared.line.Line.{Line}
use Rattle.pl_history.specs.History.{part_end}
use Rattle.pl_history.specs.Legal.{AllowedAnswer, after_answer}
use Rattle.pl_history.specs.Monitor.{Monitor, Progress, answer, begin}
use Rattle.world_attack.specs.Room.{HasRoom, RoomStays}
use Rattle.world_machine.specs.declared.under.Under.{Under}
use Rattle.world_machine.specs.declared.under.Under.TheVariants.{Idle}
use Rattle.world_machine.specs.Answering.{entry_now, with_entry}
use Rattle.world_machine.specs.RecordsAgree.{is_begun, progress_of}
use Rattle.world_machine.specs.Standing.{Kept, state_of}
use Rattle.world_machine.specs.Worlds.{WorldData, answered_at, hart_line, under_at}
use Rattle.world_machine.proofs.Lists.{changed_none, changed_set, if_same, if_other}
use Rattle.world_machine.proofs.LineMoves.{Joined, LineMoves, joined_line}

module _ (digest_of : List ℕ → List ℕ) (room_stays : RoomStays) (w : WorldData) (k : Kept digest_of w) (hart : ℕ) (below : hart < w.setup.harts) where
  abbrev s : Monitor
  s = state_of w

  pub hart_there : hart < length w.under
  hart_there = let n : length w.under ≡ w.setup.harts = k.sizes.harts in omega arith

  pub actor_there : hart < length w.answered
  actor_there = let n : length w.answered ≡ w.setup.harts + 1 = k.sizes.actors in omega arith

  pub isnt_attacker : eqb hart w.setup.harts ≡ false
  isnt_attacker = grind (arith, nat_tests)

  own_progress : s.progress hart ≡ progress_of w.under w.answered hart
  own_progress = k.stands.progress hart

  -- nothing of the line changes
  pub still_line : LineMoves w hart w.under w.answered w.history s (under_at w.under hart) (answered_at w.answered hart)
  still_line = record {
    under_change = changed_none Idle w.under hart;
    answered_change = changed_none 0 w.answered hart;
    own = own_progress;
    others = λ other differs. refl;
    legal = k.legal;
    gives = refl;
    parts = k.parts;
    room = k.room;
  }

  -- a begun line goes on
  pub goes_on_line : (u : Under) → is_begun u ≡ is_begun (under_at w.under hart)
      → LineMoves w hart (slice_set w.under hart u) w.answered w.history s u (answered_at w.answered hart)
  goes_on_line u begun = record {
    under_change = changed_set Idle w.under hart u hart_there;
    answered_change = changed_none 0 w.answered hart;
    own = own_progress ∙ ap (λ b. record { answered = answered_at w.answered hart; begun = b }) (sym begun);
    others = λ other differs. refl;
    legal = k.legal;
    gives = refl;
    parts = k.parts;
    room = k.room;
  }

  module _ (line : Line) (now : Answer) (no_part : part_end now ≡ 0) (here : hart_line w hart ≡ Some line)
      (allowed : AllowedAnswer w.setup s line (is_begun (under_at w.under hart)) now)
      (t : Monitor) (same : (actor : ℕ) → t.progress actor ≡ s.progress actor) where
    join : Joined digest_of room_stays w k (entry_now w hart now) (after_answer s hart line now)
    join = joined_line digest_of room_stays w k hart line now isnt_attacker no_part here allowed

    -- the line is answered
    pub answered_line : after_answer s hart line now ≡ answer t hart
        → LineMoves w hart (slice_set w.under hart Idle) (slice_set w.answered hart (answered_at w.answered hart + 1)) (with_entry w.history (entry_now w hart now))
        (answer t hart) Idle (answered_at w.answered hart + 1)
    answered_line gives = record {
      under_change = changed_set Idle w.under hart Idle hart_there;
      answered_change = changed_set 0 w.answered hart (answered_at w.answered hart + 1) actor_there;
      own = if_same hart _ _ ∙ ap (λ (p : Progress). record { answered = p.answered + 1; begun = false }) (same hart ∙ own_progress);
      others = λ other differs. if_other hart other _ _ differs ∙ same other;
      legal = join.legal;
      gives = join.gives ∙ gives;
      parts = join.parts;
      room = subst (λ x. HasRoom w.setup x (with_entry w.history (entry_now w hart now))) gives join.room;
    }

    -- the line begins
    pub begun_line : (u : Under) → is_begun u ≡ true → after_answer s hart line now ≡ begin t hart
        → LineMoves w hart (slice_set w.under hart u) w.answered (with_entry w.history (entry_now w hart now)) (begin t hart) u (answered_at w.answered hart)
    begun_line u begun gives = record {
      under_change = changed_set Idle w.under hart u hart_there;
      answered_change = changed_none 0 w.answered hart;
      own = if_same hart _ _ ∙ ap (λ (p : Progress). record { answered = p.answered; begun = true }) (same hart ∙ own_progress)
          ∙ ap (λ b. record { answered = answered_at w.answered hart; begun = b }) (sym begun);
      others = λ other differs. if_other hart other _ _ differs ∙ same other;
      legal = join.legal;
      gives = join.gives ∙ gives;
      parts = join.parts;
      room = subst (λ x. HasRoom w.setup x (with_entry w.history (entry_now w hart now))) gives join.room;
    }
