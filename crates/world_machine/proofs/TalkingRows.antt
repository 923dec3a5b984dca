-- The rows of `send` and `take`.
use Rattle.std.proofs.Common.{◌≡◌, ◌≢◌, ℕ, ◌+◌, ◌<◌, ◌≤◌, ◌||◌, Bool, true, false, is_some, List, length, slice_get, Option, Some, None, refl, sym, ap, ◌∙◌, subst}
use Rattle.std.specs.Prelude.{slice_set}
use Rattle.pl_base.specs.States.{is_free, is_sealed}
use Rattle.pl_base.specs.declared.access.Kind.{Kind}
use Rattle.pl_base.specs.declared.access.Kind.TheVariants as kind
use Rattle.rv_hart.specs.declared.walks.Micro.{Micro}
use Rattle.rv_hart.specs.declared.walks.Micro.TheVariants.{Fetching}
use Rattle.rv_hart.specs.declared.walks.Walk.TheVariants.{Start}
use Rattle.pl_base.specs.declared.number.HartNo.{HartNo}
use Rattle.mon_life.specs.Pages.{page_put_at}
use Rattle.world_machine.specs.Pages.{flat_pages, numbers_of}
use Rattle.mon_enclave.specs.declared.enclave.Enclave.{Enclave}
use Rattle.std.specs.List.{All}
use Rattle.mon_enclave.specs.Records.{is_shared, enclave_at, free_enclave, with_enclave}
use Rattle.pl_history.specs.declared.answer.Answer.{Answer}
use Rattle.pl_history.specs.declared.line.Line.{Line}
use Rattle.pl_history.specs.declared.line.Line.TheVariants.{Load, Store, Unmap, Create, Shadow, Fork, Run, Resume, Destroy}
use Rattle.pl_history.specs.declared.setup.SetupParts.{SetupParts}
use Rattle.pl_history.specs.History.{part_end}
use Rattle.pl_history.specs.Legal.{AllowedAnswer, after_answer}
use Rattle.pl_history.specs.Monitor.{Monitor, Number, answer, script_of, with_number}
use Rattle.world_attack.specs.Room.{RoomStays}
use Rattle.world_machine.specs.declared.under.Under.{Under}
use Rattle.world_machine.specs.declared.under.Under.TheVariants.{Idle, Seeking, Removing, Destroying, Putting, Running, Breaking}
use Rattle.world_machine.specs.Answering.{answers}
use Rattle.world_machine.specs.BytesAgree.{HasPut}
use Rattle.world_machine.specs.EnclavesAgree.{EnclaveStands, EnclavesAgree, is_made}
use Rattle.world_machine.specs.LinesUnderWay.{HasBytes, InstructionStands, IsAccessed, IsBuilding, IsForking, IsPutting, IsRestarting, IsRunning, LineUnderWay, first_table_step}
use Rattle.world_machine.specs.Making.{image_of}
use Rattle.world_machine.specs.PagesAgree.{PagesAgree, PagesAre}
use Rattle.world_machine.specs.RecordsAgree.{RecordAgrees, RecordsAgree, is_begun}
use Rattle.world_machine.specs.Standing.{Kept, state_of, written_page}
use Rattle.world_machine.specs.TranslationsAgree.{IsFresh, WalkingStands, walking}
use Rattle.world_machine.specs.Worlds.{WorldData, answered_at, hart_line, under_at}
use Rattle.world_machine.proofs.Frames.{accessed_still, instruction_stays}
use Rattle.world_machine.proofs.LineKinds.{answered_line}
use Rattle.world_machine.proofs.LineTranslations.{idle_walks, isnt_waiting}
use Rattle.world_machine.proofs.Lists.{ChangedAt, changed_set, everywhere, if_other, if_same}
use Rattle.world_machine.proofs.OneNumber.{attacks_stay}
use Rattle.world_machine.proofs.PagesStay.{pages_changed}
use Rattle.world_machine.proofs.QuietRows.{idle_has_none, idle_put_none, none_some}
use Rattle.world_machine.proofs.RowKept.{line_after, row_kept}
use Rattle.world_machine.proofs.TranslationFrames.{SpacesStay, entries_stay, translations_stay, written_stay}

-- a record that differs in the words sent to it, or in how many were taken, alone
pub record SameButWords (r r' : Enclave) : Type 0 where
  pub state : r'.state ≡ r.state
  pub hart : r'.hart ≡ r.hart
  pub image : r'.image ≡ r.image
  pub pages : r'.pages ≡ r.pages
  pub parent : r'.parent ≡ r.parent
  pub context : r'.context ≡ r.context
  pub retired : r'.retired ≡ r.retired

pub same_but_words : (r : Enclave) → SameButWords r r
same_but_words r = record { state = refl; hart = refl; image = refl; pages = refl; parent = refl; context = refl; retired = refl }

-- and such a number of the monitor
pub record NumberButWords (n n' : Number) : Type 0 where
  pub state : n'.state ≡ n.state
  pub live : n'.live ≡ n.live
  pub pages : n'.pages ≡ n.pages
  pub retired : n'.retired ≡ n.retired

-- such a record keeps what holds of a line under way
module _ (setup : SetupParts) (bytes : ℕ → List ℕ) (rec rec' : ℕ → Enclave) (number number' : ℕ → Number) (same : (f : ℕ) → SameButWords (rec f) (rec' f))
    (retired : (f : ℕ) → (number' f).retired ≡ (number f).retired) where
  instruction_words : (r r' : Enclave) (micro : Micro) → SameButWords r r' → InstructionStands (image_of setup r.image).pages bytes r micro
      → InstructionStands (image_of setup r'.image).pages bytes r' micro
  instruction_words r r' micro w k =
      subst (λ n. InstructionStands (image_of setup n).pages bytes r' micro) (sym w.image)
      (instruction_stays (image_of setup r.image).pages bytes bytes r r' w.context (ap (λ p. flat_pages bytes (image_of setup r.image).pages (numbers_of p)) w.pages) w.pages micro k)

  running_words : (f hart budget count : ℕ) (micro : Micro) → IsRunning setup bytes (rec f) (number f) hart budget count micro → IsRunning setup bytes (rec' f) (number' f) hart budget count micro
  running_words f hart budget count micro k = record {
    state = (same f).state ∙ k.state;
    hart_is = ap (λ (h : HartNo). h.0) (same f).hart ∙ k.hart_is;
    within = k.within;
    retired = (same f).retired ∙ k.retired ∙ ap (λ n. n + count) (sym (retired f));
    instruction = instruction_words (rec f) (rec' f) micro (same f) k.instruction;
  }

  accessed_words : (r r' : Enclave) (va : ℕ) (access : Kind) → SameButWords r r' → IsAccessed (image_of setup r.image).pages bytes r va access
      → IsAccessed (image_of setup r'.image).pages bytes r' va access
  accessed_words r r' va access w k =
      subst (λ n. IsAccessed (image_of setup n).pages bytes r' va access) (sym w.image)
      (accessed_still (image_of setup r.image).pages bytes bytes r r' w.context (ap (λ p. flat_pages bytes (image_of setup r.image).pages (numbers_of p)) w.pages) va access k)

  restarting_words : (f hart budget count index : ℕ) → IsRestarting setup bytes (rec f) (number f) hart budget count index
      → IsRestarting setup bytes (rec' f) (number' f) hart budget count index
  restarting_words f hart budget count index k = record {
    running = running_words f hart budget count (Fetching Start) k.running;
    va = k.va;
    stores = accessed_words (rec f) (rec' f) k.va kind.Store (same f) k.stores;
    place = k.place;
    page = k.page;
    own = ap (λ kinds. slice_get kinds index) (same f).pages ∙ k.own;
  }

  putting_words : (r r' : Enclave) (f image : ℕ) (shadow : Bool) (first done : ℕ) → SameButWords r r'
      → IsPutting setup bytes r f image shadow first done → IsPutting setup bytes r' f image shadow first done
  putting_words r r' f image shadow first done w k = record {
    state = w.state ∙ k.state;
    image_is = w.image ∙ k.image_is;
    few = k.few;
    put = λ at from below. subst (λ kinds. HasBytes bytes (page_put_at setup.tables f (image_of setup image) kinds at)) (sym w.pages) (k.put at from below);
  }

  building_words : (f image : ℕ) (shadow : Bool) (pages : List ℕ) (done : ℕ)
      → IsBuilding setup bytes (rec f) f image shadow pages done → IsBuilding setup bytes (rec' f) f image shadow pages done
  building_words f image shadow pages done k =
      record { pages_are = (same f).pages ∙ k.pages_are; putting = putting_words (rec f) (rec' f) f image shadow 0 done (same f) k.putting }

  forking_words : (f done : ℕ) → IsForking setup bytes (rec f) f done → IsForking setup bytes (rec' f) f done
  forking_words f done k = record {
    forked = ap is_some (same f).parent ∙ k.forked;
    shared = subst (All (λ kind. is_shared kind ≡ true)) (sym (same f).pages) k.shared;
    from = subst (λ image. length (image_of setup image).pages ≤ done) (sym (same f).image) k.from;
    putting = subst (λ image. IsPutting setup bytes (rec' f) f image false (length (image_of setup image).pages) done) (sym (same f).image)
        (putting_words (rec f) (rec' f) f (rec f).image false (first_table_step setup (rec f)) done (same f) k.putting);
  }

  pub line_words : (hart : ℕ) (line : Option Line) (under : Under) → LineUnderWay setup bytes rec number hart line under → LineUnderWay setup bytes rec' number' hart line under
  line_words hart line Idle k = tt
  line_words hart (Some (Load va)) (Seeking walk) k = k
  line_words hart (Some (Store va word)) (Seeking walk) k = k
  line_words hart (Some (Unmap va)) (Removing page) k = tt
  line_words hart (Some (Create f image pages)) (Putting done) k = building_words f.0 image false pages done k
  line_words hart (Some (Shadow f image pages)) (Putting done) k = building_words f.0 image true pages done k
  line_words hart (Some (Fork shadow f pages)) (Putting done) k = forking_words f.0 done k
  line_words hart (Some (Run f budget)) (Running micro count) k = running_words f.0 hart budget count micro k
  line_words hart (Some (Run f budget)) (Breaking count index) k = restarting_words f.0 hart budget count index k
  line_words hart (Some (Resume f budget)) (Running micro count) k = running_words f.0 hart budget count micro k
  line_words hart (Some (Resume f budget)) (Breaking count index) k = restarting_words f.0 hart budget count index k
  line_words hart (Some (Destroy f)) Destroying k = (same f.0).state ∙ k
  line_words hart line under k = elim k [ ]

module _ (digest_of : List ℕ → List ℕ) (room_stays : RoomStays) (w : WorldData) (k : Kept digest_of w) (none : w.collision ≡ None) (hart : ℕ) (below : hart < w.setup.harts)
    (line : Line) (now : Answer) (no_part : part_end now ≡ 0) (here : hart_line w hart ≡ Some line)
    (allowed : AllowedAnswer w.setup (state_of w) line (is_begun (under_at w.under hart)) now)
    (e : ℕ) (there : e < length w.enclaves) (r : Enclave) (n : Number)
    (gives : after_answer (state_of w) hart line now ≡ answer (with_number (state_of w) e n) hart)
    (words : SameButWords (enclave_at w.enclaves e) r) (number_words : NumberButWords ((state_of w).number e) n) (agrees : RecordAgrees r n)
    (pages_now : PagesAre w.setup (state_of w).number r n)
    (stands : is_free (enclave_at w.enclaves e).state ≡ false → EnclaveStands w.setup (written_page w) w.owners e r n)
    (waited : isnt_waiting (under_at w.under hart) ≡ true) where
  abbrev s : Monitor
  s = state_of w

  abbrev s' : Monitor
  s' = answer (with_number s e n) hart

  abbrev enclaves' : List Enclave
  enclaves' = with_enclave w.enclaves e r

  change : ChangedAt free_enclave w.enclaves enclaves' e r
  change = changed_set free_enclave w.enclaves e r there

  number_here : s'.number e ≡ n
  number_here = if_same e n (s.number e)

  number_other : (f : ℕ) → f ≢ e → s'.number f ≡ s.number f
  number_other f other = if_other e f n (s.number f) other

  all_words : (f : ℕ) → SameButWords (enclave_at w.enclaves f) (enclave_at enclaves' f)
  all_words = everywhere (λ f. SameButWords (enclave_at w.enclaves f) (enclave_at enclaves' f)) e
      (subst (SameButWords (enclave_at w.enclaves e)) (sym change.here) words)
      (λ f other. subst (SameButWords (enclave_at w.enclaves f)) (sym (change.others f other)) (same_but_words (enclave_at w.enclaves f)))

  all_retired : (f : ℕ) → (s'.number f).retired ≡ (s.number f).retired
  all_retired = everywhere (λ f. (s'.number f).retired ≡ (s.number f).retired) e (ap (λ (m : Number). m.retired) number_here ∙ number_words.retired)
      (λ f other. ap (λ (m : Number). m.retired) (number_other f other))

  made_same : is_made n ≡ is_made (s.number e)
  made_same = λ i. number_words.live i || is_sealed (number_words.state i)

  all_live : (f : ℕ) → (s'.number f).live ≡ (s.number f).live
  all_live = everywhere (λ f. (s'.number f).live ≡ (s.number f).live) e (ap (λ (m : Number). m.live) number_here ∙ number_words.live)
      (λ f other. ap (λ (m : Number). m.live) (number_other f other))

  records_agree : RecordsAgree (enclave_at enclaves') s'.number
  records_agree = everywhere (λ f. RecordAgrees (enclave_at enclaves' f) (s'.number f)) e
      (subst (λ x. RecordAgrees x (s'.number e)) (sym change.here) (subst (RecordAgrees r) (sym number_here) agrees))
      (λ f other. subst (λ x. RecordAgrees x (s'.number f)) (sym (change.others f other)) (subst (RecordAgrees (enclave_at w.enclaves f)) (sym (number_other f other)) (k.stands.records f)))

  enclaves_agree : EnclavesAgree w.setup (written_page w) w.owners (enclave_at enclaves') s'.number
  enclaves_agree = everywhere (λ f. is_free (enclave_at enclaves' f).state ≡ false → EnclaveStands w.setup (written_page w) w.owners f (enclave_at enclaves' f) (s'.number f)) e
      (λ used. subst (λ x. EnclaveStands w.setup (written_page w) w.owners e x (s'.number e)) (sym change.here)
      (subst (EnclaveStands w.setup (written_page w) w.owners e r) (sym number_here)
      (stands (ap is_free (sym ((all_words e).state)) ∙ used))))
      (λ f other used. subst (λ x. EnclaveStands w.setup (written_page w) w.owners f x (s'.number f)) (sym (change.others f other))
      (subst (EnclaveStands w.setup (written_page w) w.owners f (enclave_at w.enclaves f)) (sym (number_other f other))
      (k.stands.enclaves f (ap is_free (sym ((all_words f).state)) ∙ used))))

  pages_agree : PagesAgree w.setup (enclave_at enclaves') s'.number
  pages_agree = pages_changed w.setup e (enclave_at w.enclaves) (enclave_at enclaves') s.number s'.number r n change.others number_other
      change.here number_here number_words.pages k.stands.pages
      pages_now

  -- ---- translations

  spaces : SpacesStay digest_of w k w.ctl (enclave_at enclaves') s'
  spaces = record {
    space = refl;
    removals = refl;
    numbers = λ f is_live. record { live = all_live f ∙ is_live; image = (all_words f).image; pages = (all_words f).pages };
  }

  -- a record that took or was sent a word
  pub words_kept : Kept digest_of (answers (record w { enclaves = with_enclave w.enclaves e r }) hart now)
  words_kept =
      let moves = answered_line digest_of room_stays w k hart below line now no_part here allowed (with_number s e n) (λ actor. refl) gives in
      row_kept digest_of w hart w.ctl w.owners enclaves' w.tlbs w.fences _ _ _ s' Idle (answered_at w.answered hart + 1) k none (record {
        line = moves;
        sizes = record { zones = refl; slots = refl; pages = refl; guarded = λ page is. is; numbers = change.size };
        trees = k.trees;
        owners_agree = record { owner = k.stands.owners.owner; maps = k.stands.owners.maps };
        records = records_agree;
        pages_agree = pages_agree;
        enclaves_agree = enclaves_agree;
        host = k.stands.host;
        attacks = attacks_stay digest_of w k hart e (enclave_at enclaves') s' w.owners _ _ (record {
          attacks = refl;
          records = change.others;
          numbers = number_other;
          guarded = λ page is. is;
          made = λ made. (sym made_same ∙ ap is_made (sym number_here) ∙ made, (all_words e).pages);
          lines = λ other differs. ap (slice_get (script_of w.setup other)) (moves.answered_change.others other differs);
          unders = moves.under_change.others;
          put = λ page put. idle_put_none _ page
              (subst (λ u. HasPut (line_after w (slice_set w.answered hart (answered_at w.answered hart + 1)) hart) u page) moves.under_change.here put);
        });
        other_lines = λ other differs. line_words w.setup (written_page w) (enclave_at w.enclaves) (enclave_at enclaves') s.number s'.number all_words all_retired other
            (hart_line w other) (under_at w.under other) (k.stands.lines other);
        own_line = tt;
        own_apart = λ other f differs own there. none_some f _ (idle_has_none _) own;
        translations = translations_stay digest_of w k w.ctl (enclave_at enclaves') s' spaces (written_stay digest_of w k (enclave_at enclaves') s' (λ f was. all_live f ∙ was)) hart w.tlbs _ _ (record {
          lines = λ other differs. ap (slice_get (script_of w.setup other)) (moves.answered_change.others other differs);
          unders = moves.under_change.others;
          contexts = λ other f differs is. (all_words f).context;
          harts = refl;
          tlbs = λ other differs. refl;
          waited_none = waited;
          waits_none = ap isnt_waiting moves.under_change.here;
          entries = entries_stay digest_of w k w.ctl (enclave_at enclaves') s' spaces hart;
          walk = subst (λ u. WalkingStands w.ctl (IsFresh w.setup (enclave_at enclaves') s' w.fences hart) (walking w.setup.tables (enclave_at enclaves') (line_after w (slice_set w.answered hart (answered_at w.answered hart + 1)) hart) u))
              (sym moves.under_change.here) (idle_walks w.ctl (IsFresh w.setup (enclave_at enclaves') s' w.fences hart) w.setup.tables (enclave_at enclaves') _);
        });
      })
