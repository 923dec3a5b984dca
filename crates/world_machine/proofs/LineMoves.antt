-- An actor's line begins, goes on, or is answered: what is kept of progress, history and room.
use Rattle.std.proofs.Common.{◌≡◌, ◌≢◌, ℕ, eqb, false, if◌then◌else◌, List, [], ◌∷◌, ◌++◌, slice_get, Some, option_map, sym, ap, ◌∙◌, subst, arith}
use Rattle.std.proofs.lemmas.List.Elements.{All-push}
use Rattle.std.specs.List.{All}
use Rattle.std.specs.Option.{option_map_or}
use Rattle.pl_history.specs.declared.answer.Answer.{Answer}
use Rattle.pl_history.specs.declared.answer.Entry.{Entry}
use Rattle.pl_history.specs.declared.line.Line.{Line}
use Rattle.pl_history.specs.History.{HistoryData, NamesPart, part_end}
use Rattle.pl_history.specs.Legal.{of_hart, of_attacker, Allowed, AllowedAnswer, Legal, after, after_answer, after_line, legal_state, line_at}
use Rattle.pl_history.specs.Monitor.{Monitor, Progress, script_of}
use Rattle.pl_history.proofs.HistoryLemmas.{one_more_is_legal, one_more_gives}
use Rattle.world_attack.specs.Room.{HasRoom, RoomStays}
use Rattle.world_machine.specs.declared.under.Under.{Under}
use Rattle.world_machine.specs.declared.under.Under.TheVariants.{Idle}
use Rattle.world_machine.specs.Answering.{entry_now, with_entry}
use Rattle.world_machine.specs.RecordsAgree.{ProgressAgrees, is_begun, progress_of}
use Rattle.world_machine.specs.Standing.{Kept, state_of}
use Rattle.world_machine.specs.Worlds.{WorldData, answered_at, hart_line, under_at}
use Rattle.world_machine.proofs.Lists.{ChangedAt, everywhere}

-- what is known of an actor's line and of the history after an event; s is the state that it gives
pub record LineMoves (w : WorldData) (actor : ℕ) (under : List Under) (answered : List ℕ) (history : HistoryData) (s : Monitor) (u : Under) (count : ℕ) : Type 0 where
  pub under_change : ChangedAt Idle w.under under actor u
  pub answered_change : ChangedAt 0 w.answered answered actor count
  pub own : s.progress actor ≡ record { answered = count; begun = is_begun u }
  pub others : (other : ℕ) → other ≢ actor → s.progress other ≡ (state_of w).progress other
  pub legal : Legal w.setup history.bytes history.entries
  pub gives : legal_state w.setup history.bytes history.entries ≡ s
  pub parts : All (NamesPart history.bytes) history.entries
  pub room : HasRoom w.setup s history

-- each actor's progress agrees then
pub progress_agrees : (w : WorldData) (actor : ℕ) (under : List Under) (answered : List ℕ) (history : HistoryData) (s : Monitor) (u : Under) (count : ℕ)
    → ProgressAgrees w.under w.answered (state_of w).progress → LineMoves w actor under answered history s u count → ProgressAgrees under answered s.progress
progress_agrees w actor under answered history s u count old m = everywhere (λ a. s.progress a ≡ progress_of under answered a) actor
    (m.own ∙ ap (λ n. record { answered = n; begun = is_begun u }) (sym m.answered_change.here)
    ∙ ap (λ v. record { answered = answered_at answered actor; begun = is_begun v }) (sym m.under_change.here))
    (λ a other. m.others a other ∙ old a
    ∙ ap (λ n. record { answered = n; begun = is_begun (under_at w.under a) }) (sym (m.answered_change.others a other))
    ∙ ap (λ v. record { answered = answered_at answered a; begun = is_begun v }) (sym (m.under_change.others a other)))

module _ (digest_of : List ℕ → List ℕ) (room_stays : RoomStays) (w : WorldData) (k : Kept digest_of w) where
  -- an entry that is allowed joins the history
  pub record Joined (entry : Entry) (s : Monitor) : Type 0 where
    pub legal : Legal w.setup w.history.bytes (w.history.entries ++ entry ∷ [])
    pub gives : legal_state w.setup w.history.bytes (w.history.entries ++ entry ∷ []) ≡ s
    pub parts : All (NamesPart w.history.bytes) (w.history.entries ++ entry ∷ [])
    pub room : HasRoom w.setup s (with_entry w.history entry)

  pub joined : (entry : Entry) → part_end entry.answer ≡ 0 → Allowed w.setup w.history.bytes (state_of w) w.history.entries entry
      → Joined entry (after w.setup w.history.bytes (state_of w) entry)
  joined entry no_part allowed = record {
    legal = one_more_is_legal w.setup w.history.bytes w.history.entries entry k.legal allowed;
    gives = one_more_gives w.setup w.history.bytes w.history.entries entry;
    parts = All-push (NamesPart w.history.bytes) w.history.entries entry k.parts (let h : part_end entry.answer ≡ 0 = no_part in omega arith);
    room = room_stays w.setup w.history.bytes (state_of w) w.history.entries entry w.history (with_entry w.history entry) k.sizes.rules k.room allowed (omega arith) (omega arith);
  }

  -- an entry of a hart's next line
  pub joined_line : (hart : ℕ) (line : Line) (now : Answer) → eqb hart w.setup.harts ≡ false → part_end now ≡ 0 → hart_line w hart ≡ Some line
      → AllowedAnswer w.setup (state_of w) line (is_begun (under_at w.under hart)) now
      → Joined (entry_now w hart now) (after_answer (state_of w) hart line now)
  joined_line hart line now apart no_part here allowed =
      let s : Monitor = state_of w in
      let entry : Entry = entry_now w hart now in
      let progress : s.progress hart ≡ progress_of w.under w.answered hart = k.stands.progress hart in
      let at : line_at w.setup hart (answered_at w.answered hart) ≡ Some (of_hart line)
      = ap (λ b. if b then option_map of_attacker (slice_get w.setup.attacker (answered_at w.answered hart)) else option_map of_hart (slice_get (script_of w.setup hart) (answered_at w.answered hart))) apart
      ∙ ap (option_map of_hart) here in
      let is_allowed : Allowed w.setup w.history.bytes s w.history.entries entry = (
        sym (ap (λ (p : Progress). p.answered) progress),
        (of_hart line, at, subst (λ (p : Progress). AllowedAnswer w.setup s line p.begun now) (sym progress) allowed),
      ) in
      let j = joined entry no_part is_allowed in
      let gives : after w.setup w.history.bytes s entry ≡ after_answer s hart line now
      = ap (λ l. option_map_or (after_line s hart (Rattle.pl_history.specs.History.named_part w.history.bytes now) now) l s) at in
      record { legal = j.legal; gives = j.gives ∙ gives; parts = j.parts; room = subst (λ t. HasRoom w.setup t (with_entry w.history entry)) gives j.room }
