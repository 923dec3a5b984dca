-- Where no answer is `wrote 1`, no answer is a fault, and no attack is remembered.
use Rattle.std.proofs.Common.{◌≡◌, ℕ, ◌+◌, ◌%◌, ◌==◌, Bool, true, false, not, ◌||◌, List, [], ◌∷◌, ◌++◌, length, Option, Some, None, option_map, is_some, slice_get, refl, ap, ◌∙◌, subst, inl, inr}
use Rattle.std.specs.Prelude.{IsTrue, nat_lt}
use Rattle.std.specs.List.{list_any}
use Rattle.std.specs.Option.{option_map_or}
use Rattle.std.proofs.lemmas.Bool.{false≢true, or_parts}
use Rattle.pl_base.specs.Address.{vpn_of}
use Rattle.pl_base.specs.Refusals.{first_refusal, refuse}
use Rattle.pl_base.specs.States.{is_absent, is_fresh, is_paused, is_free, is_sealed, is_under_way, is_wordless, run_refusal, idle_refusal}
use Rattle.pl_base.specs.Perms.{grants}
use Rattle.pl_base.specs.declared.access.Kind.{Kind}
use Rattle.pl_base.specs.declared.access.Kind.TheVariants as kind_is
use Rattle.pl_base.specs.declared.address.Va.{Va}
use Rattle.pl_base.specs.declared.place.Place.{Place}
use Rattle.pl_base.specs.declared.refusal.No.{No}
use Rattle.pl_base.specs.declared.refusal.No.TheVariants as refused
use Rattle.pl_base.specs.declared.state.State.{State}
use Rattle.pl_base.specs.declared.state.Why.{Why}
use Rattle.pl_base.specs.declared.state.Why.TheVariants as why_is
use Rattle.pl_base.specs.Pages.{first_twice, most_spares}
use Rattle.rv_alone.specs.Alone.{most_words}
use Rattle.rv_alone.specs.Flat.{Status, ended, on}
use Rattle.rv_pmp.specs.Pmp.{permits}
use Rattle.rv_sv39.specs.Canonical.{is_canonical}
use Rattle.mem_geom.specs.Layout.{page_start}
use Rattle.mem_geom.specs.Ranges.{overlaps_place}
use Rattle.mon_tables.specs.Space.{Mapping, mapping_at}
use Rattle.mon_tables.specs.Tables.{can_be_mapped}
use Rattle.pl_history.specs.declared.answer.Answer.{Answer}
use Rattle.pl_history.specs.declared.answer.Answer.TheVariants as answer_is
use Rattle.pl_history.specs.declared.answer.Entry.{Entry}
use Rattle.pl_history.specs.declared.line.AttackLine.{AttackLine}
use Rattle.pl_history.specs.declared.line.AttackLine.TheVariants as attack
use Rattle.pl_history.specs.declared.line.Line.{Line}
use Rattle.pl_history.specs.declared.line.Line.TheVariants as line_is
use Rattle.pl_history.specs.declared.setup.SetupParts.{SetupParts}
use Rattle.pl_history.specs.Answering.{AtOnce, Begins, Changes, EndsDone, EndsDoneOrFaulted, FaultsOr, change_by, progressed}
use Rattle.pl_history.specs.GivingBack.{drop_refusal, first_child}
use Rattle.pl_history.specs.History.{named_part}
use Rattle.pl_history.specs.HostAccess.{AnswersBy, HostAccess, address_refusal, answer_or, host_word, load_by, mapping_refusal, store_by}
use Rattle.pl_history.specs.HostMaps.{early_refusals, map_refusal, unmap_refusal}
use Rattle.pl_history.specs.Laws.{UnattackedIsFaultless}
use Rattle.pl_history.specs.Legal.{ActorLine, of_hart, of_attacker, line_at, AllAllowed, AllowedAnswer, AllowedAttack, AllowedLine, after, after_line, attack_changes, changes, state_after}
use Rattle.pl_history.specs.Licence.{Licensed}
use Rattle.pl_history.specs.Making.{create_refusal, first_barred, first_mapped, first_not_host, fork_refusal, grant_refusal, image_page_count, page_refusals}
use Rattle.pl_history.specs.Monitor.{Attack, Monitor, Number, is_host, opening, removed_at}
use Rattle.pl_history.specs.Protection.{pmp_of}
use Rattle.pl_history.specs.Running.{EndsBy, Leaves, obstacle_of}
use Rattle.pl_history.specs.Unattacked.{IsFaultless, IsUnattacked, leaves_by_fault, refuses_by_fault, says_changed, says_fault}
use Rattle.pl_history.specs.Words.{send_refusal, sent_out, take_refusal}
use Rattle.pl_history.proofs.StatesStay.{EachStays, attack_stays, line_stays}

-- ---- the attacks that are remembered stay

answer_leaves : (s : Monitor) (all : Changes) (actor : ℕ) (now : Answer) → EachStays s all → says_changed now ≡ false → (progressed (change_by all now) actor now).attacks ≡ s.attacks
answer_leaves s all actor answer_is.Begun stays unchanged = stays.begun.attacks
answer_leaves s all actor answer_is.Ok stays unchanged = stays.ok.attacks
answer_leaves s all actor (answer_is.Value value) stays unchanged = stays.value.attacks
answer_leaves s all actor (answer_is.Word word) stays unchanged = stays.word.attacks
answer_leaves s all actor (answer_is.Left count why) stays unchanged = (stays.left count why).attacks
answer_leaves s all actor (answer_is.No cause) stays unchanged = stays.no.attacks
answer_leaves s all actor (answer_is.Wrote changed pa from len) stays unchanged = (stays.wrote changed pa).attacks unchanged
answer_leaves s all actor (answer_is.Kept pa from len) stays unchanged = stays.kept.attacks

line_leaves : (s : Monitor) (actor : ℕ) (part : List ℕ) (now : Answer) (line : ActorLine) → says_changed now ≡ false → (after_line s actor part now line).attacks ≡ s.attacks
line_leaves s actor part now (of_hart line) unchanged = answer_leaves s (changes s actor line (s.progress actor).begun) actor now (line_stays s actor line (s.progress actor).begun) unchanged
line_leaves s actor part now (of_attacker line) unchanged = answer_leaves s (attack_changes s part line) actor now (attack_stays s part line) unchanged

entry_leaves : (setup : SetupParts) (bytes : List ℕ) (s : Monitor) (entry : Entry) (line : Option ActorLine) → says_changed entry.answer ≡ false
    → (option_map_or (after_line s entry.actor (named_part bytes entry.answer) entry.answer) line s).attacks ≡ s.attacks
entry_leaves setup bytes s entry None unchanged = refl
entry_leaves setup bytes s entry (Some line) unchanged = line_leaves s entry.actor (named_part bytes entry.answer) entry.answer line unchanged

-- ---- no cause to refuse a line is a fault

abbrev pub NoFault : Option No → Type 0
NoFault None = Unit {0}
NoFault (Some cause) = refuses_by_fault cause ≡ false

refuse_faultless : (b : Bool) (cause : No) → refuses_by_fault cause ≡ false → NoFault (refuse b cause)
refuse_faultless true cause is = is
refuse_faultless false cause is = tt

map_faultless : {A : Type 0} (gives : A → No) (o : Option A) → ((a : A) → refuses_by_fault (gives a) ≡ false) → NoFault (option_map gives o)
map_faultless gives None is = tt
map_faultless gives (Some a) is = is a

-- the first cause, or one of the later ones
first_faultless : (o : Option No) (later : List (Option No)) → NoFault o → NoFault (first_refusal later) → NoFault (first_refusal (o ∷ later))
first_faultless None later is rest = rest
first_faultless (Some cause) later is rest = is

pages_faultless : (setup : SetupParts) (s : Monitor) (pages : List ℕ) (later : List (Option No)) → NoFault (first_refusal later) → NoFault (first_refusal (page_refusals setup s pages ++ later))
pages_faultless setup s pages later rest =
    first_faultless _ _ (map_faultless refused.NotYours (first_not_host s pages) (λ page. refl))
    (first_faultless _ _ (map_faultless refused.StillMapped (first_mapped s pages) (λ page. refl))
    (first_faultless _ later (map_faultless refused.Barred (first_barred setup pages) (λ page. refl)) rest))

create_faultless : (setup : SetupParts) (s : Monitor) (e image : ℕ) (pages : List ℕ) → NoFault (create_refusal setup s e image pages)
create_faultless setup s e image pages =
    first_faultless (refuse (not (is_free (s.number e).state)) refused.Exists) _ (refuse_faultless _ refused.Exists refl)
    (first_faultless (refuse (not (length pages == image_page_count setup image)) refused.Count) _ (refuse_faultless _ refused.Count refl)
    (first_faultless (option_map refused.Twice (first_twice pages)) _ (map_faultless refused.Twice (first_twice pages) (λ page. refl)) (pages_faultless setup s pages [] tt)))

fork_faultless : (setup : SetupParts) (s : Monitor) (shadow e : ℕ) (pages : List ℕ) → NoFault (fork_refusal setup s shadow e pages)
fork_faultless setup s shadow e pages =
    first_faultless (refuse (not (is_sealed (s.number shadow).state)) refused.NoEnclave) _ (refuse_faultless _ refused.NoEnclave refl)
    (first_faultless (refuse (not (is_free (s.number e).state)) refused.Exists) _ (refuse_faultless _ refused.Exists refl)
    (first_faultless (option_map refused.Twice (first_twice pages)) _ (map_faultless refused.Twice (first_twice pages) (λ page. refl))
    (pages_faultless setup s pages (refuse (nat_lt most_spares (length pages)) refused.TooMany ∷ [])
    (first_faultless (refuse (nat_lt most_spares (length pages)) refused.TooMany) [] (refuse_faultless _ refused.TooMany refl) tt))))

destroy_faultless : (state : State) → NoFault (idle_refusal state)
destroy_faultless state =
    first_faultless (refuse (is_absent state) refused.NoEnclave) _ (refuse_faultless _ refused.NoEnclave refl)
    (first_faultless (refuse (is_under_way state) (refused.WrongState state)) [] (refuse_faultless _ (refused.WrongState state) refl) tt)

grant_faultless : (setup : SetupParts) (s : Monitor) (e page : ℕ) → NoFault (grant_refusal setup s e page)
grant_faultless setup s e page =
    first_faultless (idle_refusal (s.number e).state) _ (destroy_faultless (s.number e).state)
    (pages_faultless setup s (page ∷ []) (refuse (nat_lt most_spares (length (s.number e).spares + 1)) refused.TooMany ∷ [])
    (first_faultless (refuse (nat_lt most_spares (length (s.number e).spares + 1)) refused.TooMany) [] (refuse_faultless _ refused.TooMany refl) tt))

run_faultless : (may_run : State → Bool) (state : State) → NoFault (run_refusal may_run state)
run_faultless may_run state =
    first_faultless (refuse (is_absent state) refused.NoEnclave) _ (refuse_faultless _ refused.NoEnclave refl)
    (first_faultless (refuse (not (may_run state)) (refused.WrongState state)) [] (refuse_faultless _ (refused.WrongState state) refl) tt)

send_faultless : (n : Number) → NoFault (send_refusal n)
send_faultless n =
    first_faultless (refuse (is_wordless n.state) refused.NoEnclave) _ (refuse_faultless _ refused.NoEnclave refl)
    (first_faultless (refuse (length n.sent == most_words) refused.Full) [] (refuse_faultless _ refused.Full refl) tt)

take_faultless : (setup : SetupParts) (n : Number) → NoFault (take_refusal setup n)
take_faultless setup n =
    first_faultless (refuse (is_wordless n.state) refused.NoEnclave) _ (refuse_faultless _ refused.NoEnclave refl)
    (first_faultless (refuse (n.taken == length (sent_out setup n)) refused.Empty) [] (refuse_faultless _ refused.Empty refl) tt)

drop_faultless : (setup : SetupParts) (s : Monitor) (e : ℕ) → NoFault (drop_refusal setup s e)
drop_faultless setup s e =
    first_faultless (refuse (not (is_sealed (s.number e).state)) refused.NoEnclave) _ (refuse_faultless _ refused.NoEnclave refl)
    (first_faultless (option_map (λ child. refused.InUse (record { 0 = child })) (first_child setup s e)) [] (map_faultless (λ child. refused.InUse (record { 0 = child })) (first_child setup s e) (λ child. refl)) tt)

pub address_faultless : (va : Va) → NoFault (address_refusal va)
address_faultless va =
    let second : Option No = refuse (not (is_canonical va.0)) refused.PageFault in
    first_faultless (refuse (not (va.0 % 8 == 0)) refused.Misaligned) (second ∷ []) (refuse_faultless (not (va.0 % 8 == 0)) refused.Misaligned refl)
    (first_faultless second [] (refuse_faultless (not (is_canonical va.0)) refused.PageFault refl) tt)

pub mapping_faultless : (setup : SetupParts) (kind : Kind) (va : Va) (m : Mapping) → NoFault (mapping_refusal setup kind va m)
mapping_faultless setup kind va m =
    let allowed : Bool = permits (pmp_of setup) (page_start m.page + va.0 % 4096) 8 kind in
    let second : Option No = refuse (not allowed) refused.AccessFault in
    first_faultless (refuse (not (grants m.perms kind)) refused.PageFault) (second ∷ []) (refuse_faultless (not (grants m.perms kind)) refused.PageFault refl)
    (first_faultless second [] (refuse_faultless (not allowed) refused.AccessFault refl) tt)

early_faultless : (setup : SetupParts) (s : Monitor) (va : Va) (later : List (Option No)) → NoFault (first_refusal later) → NoFault (first_refusal (early_refusals setup s va ++ later))
early_faultless setup s va later rest =
    let second : Option No = refuse (is_some (removed_at s.removals (vpn_of va).0)) refused.Busy in
    first_faultless (refuse (not (can_be_mapped setup.tables va)) refused.BadAddress) (second ∷ later) (refuse_faultless (not (can_be_mapped setup.tables va)) refused.BadAddress refl)
    (first_faultless second later (refuse_faultless (is_some (removed_at s.removals (vpn_of va).0)) refused.Busy refl) rest)

pub map_is_faultless : (setup : SetupParts) (s : Monitor) (va : Va) (page : ℕ) → NoFault (map_refusal setup s va page)
map_is_faultless setup s va page =
    let first : Option No = refuse (is_some (mapping_at s.space (vpn_of va).0)) refused.Mapped in
    let second : Option No = refuse (not (is_host (s.owner page))) (refused.NotYours page) in
    early_faultless setup s va (first ∷ second ∷ [])
    (first_faultless first (second ∷ []) (refuse_faultless (is_some (mapping_at s.space (vpn_of va).0)) refused.Mapped refl)
    (first_faultless second [] (refuse_faultless (not (is_host (s.owner page))) (refused.NotYours page) refl) tt))

pub unmap_is_faultless : (setup : SetupParts) (s : Monitor) (va : Va) → NoFault (unmap_refusal setup s va)
unmap_is_faultless setup s va =
    let last : Option No = refuse (not (is_some (mapping_at s.space (vpn_of va).0))) refused.NotMapped in
    early_faultless setup s va (last ∷ []) (first_faultless last [] (refuse_faultless (not (is_some (mapping_at s.space (vpn_of va).0))) refused.NotMapped refl) tt)

-- ---- the forms of answers

pub by_cause : (o : Option No) (cause : No) → NoFault o → o ≡ Some cause → refuses_by_fault cause ≡ false
by_cause None cause is same = cc
by_cause (Some other) cause is same = subst NoFault same is

left_is : (count : ℕ) (why : Why) (x : Answer) → says_fault x ≡ false → answer_is.Left count why ≡ x → leaves_by_fault why ≡ false
left_is count why x is same = ap says_fault same ∙ is

at_once : (refusal : Option No) (gives : Option Answer) (begun : Bool) (now : Answer) → NoFault refusal → ((x : Answer) → gives ≡ Some x → says_fault x ≡ false) → AtOnce refusal gives begun now → says_fault now ≡ false
at_once refusal gives true now is fine allowed = absurd allowed
at_once refusal gives false (answer_is.No cause) is fine allowed = by_cause refusal cause is allowed
at_once refusal gives false answer_is.Begun is fine allowed = refl
at_once refusal gives false answer_is.Ok is fine allowed = refl
at_once refusal gives false (answer_is.Value value) is fine allowed = refl
at_once refusal gives false (answer_is.Word word) is fine allowed = refl
at_once refusal gives false (answer_is.Left count why) is fine allowed = fine (answer_is.Left count why) allowed.1
at_once refusal gives false (answer_is.Wrote changed pa from len) is fine allowed = refl
at_once refusal gives false (answer_is.Kept pa from len) is fine allowed = refl

begins : (refusal : Option No) (Ends : Answer → Type 0) (begun : Bool) (now : Answer) → NoFault refusal → (Ends now → says_fault now ≡ false) → Begins refusal Ends begun now → says_fault now ≡ false
begins refusal Ends true now is ends allowed = ends allowed
begins refusal Ends false answer_is.Begun is ends allowed = refl
begins refusal Ends false (answer_is.No cause) is ends allowed = by_cause refusal cause is allowed
begins refusal Ends false answer_is.Ok is ends allowed = absurd allowed
begins refusal Ends false (answer_is.Value value) is ends allowed = absurd allowed
begins refusal Ends false (answer_is.Word word) is ends allowed = absurd allowed
begins refusal Ends false (answer_is.Left count why) is ends allowed = absurd allowed
begins refusal Ends false (answer_is.Wrote changed pa from len) is ends allowed = absurd allowed
begins refusal Ends false (answer_is.Kept pa from len) is ends allowed = absurd allowed

done : (now : Answer) → EndsDone now → says_fault now ≡ false
done now is = ap says_fault is

module _ (Licence : Place → Type 0) (none : (place : Place) → Licence place → ⊥) where
  -- a line that a fault may stop before it begins
  faults_or : (earlier : Option No) (Otherwise : Bool → Answer → Type 0) (begun : Bool) (now : Answer) → (Otherwise begun now → says_fault now ≡ false) → FaultsOr earlier Licence Otherwise begun now → says_fault now ≡ false
  faults_or earlier Otherwise true now other allowed = other allowed
  faults_or earlier Otherwise false (answer_is.No (refused.Fault place)) other allowed = absurd (none place allowed.1)
  faults_or earlier Otherwise false now other allowed = other allowed

  done_or_faulted : (now : Answer) → EndsDoneOrFaulted Licence now → says_fault now ≡ false
  done_or_faulted (answer_is.No (refused.Fault place)) is = absurd (none place is)
  done_or_faulted now is = ap says_fault is

  ends_by : (status : Status) (spent : Bool) (stopped : Option Why) (why : Why) → EndsBy status spent stopped Licence why → leaves_by_fault why ≡ false
  ends_by (ended code) spent stopped why is = ap leaves_by_fault is
  ends_by on true stopped why is = ap leaves_by_fault is
  ends_by on false stopped (why_is.Fault place) is = absurd (none place is)
  ends_by on false stopped why is = refl

  leaves : (setup : SetupParts) (n : Number) (budget : ℕ) (now : Answer) → Leaves setup Licence n budget now → says_fault now ≡ false
  leaves setup n budget (answer_is.Left count why) is = ends_by is.2.1.0.status (count == budget) (obstacle_of is.0 n (n.retired + count) is.2.1.0) why is.2.1.2
  leaves setup n budget now is = absurd is

-- ---- the host's accesses

answer_or_faultless : (refusal : Option No) (gives : Answer) → NoFault refusal → says_fault gives ≡ false → says_fault (answer_or refusal gives) ≡ false
answer_or_faultless None gives is fine = fine
answer_or_faultless (Some cause) gives is fine = is

answers_by : (by : Mapping → Answer) → ((m : Mapping) → says_fault (by m) ≡ false) → (m removed : Option Mapping) (now : Answer) → AnswersBy by m removed now → says_fault now ≡ false
answers_by by fine (Some m) removed now is = ap says_fault is ∙ fine m
answers_by by fine None (Some m) now is = elim is [
  | inl same ↦ ap says_fault same ∙ fine m
  | inr none ↦ ap says_fault none
]
answers_by by fine None None now is = ap says_fault is

host_access : (refusal : Option No) (by : Mapping → Answer) (s : Monitor) (va : Va) (begun : Bool) (now : Answer) → NoFault refusal → ((m : Mapping) → says_fault (by m) ≡ false) → HostAccess refusal by s va begun now → says_fault now ≡ false
host_access refusal by s va true now is fine allowed = absurd allowed
host_access (Some cause) by s va false now is fine allowed = ap says_fault allowed ∙ is
host_access None by s va false now is fine allowed = answers_by by fine (mapping_at s.space (vpn_of va).0) (removed_at s.removals (vpn_of va).0) now allowed

-- ---- each line

module _ (setup : SetupParts) (s : Monitor) (none : s.attacks ≡ []) where
  unlicensed : (line : Line) (place : Place) → Licensed setup s line place → ⊥
  unlicensed line place is =
      false≢true (subst (λ (attacks : List Attack). IsTrue (list_any (λ (a : Attack). overlaps_place setup.zones a.address a.length place) attacks)) none is.attacked)

  hart_faultless : (line : Line) (begun : Bool) (now : Answer) → AllowedAnswer setup s line begun now → says_fault now ≡ false
  hart_faultless (line_is.Load va) begun now allowed =
      faults_or (Licensed setup s (line_is.Load va)) (unlicensed (line_is.Load va)) (address_refusal va) (HostAccess (address_refusal va) (load_by setup s va) s va) begun now
      (host_access (address_refusal va) (load_by setup s va) s va begun now (address_faultless va) (λ m. answer_or_faultless (mapping_refusal setup kind_is.Load va m) (answer_is.Value (host_word s va m)) (mapping_faultless setup kind_is.Load va m) refl)) allowed
  hart_faultless (line_is.Store va word) begun now allowed =
      faults_or (Licensed setup s (line_is.Store va word)) (unlicensed (line_is.Store va word)) (address_refusal va) (HostAccess (address_refusal va) (store_by setup va) s va) begun now
      (host_access (address_refusal va) (store_by setup va) s va begun now (address_faultless va) (λ m. answer_or_faultless (mapping_refusal setup kind_is.Store va m) answer_is.Ok (mapping_faultless setup kind_is.Store va m) refl)) allowed
  hart_faultless (line_is.Map va page perms) begun now allowed =
      faults_or (Licensed setup s (line_is.Map va page perms)) (unlicensed (line_is.Map va page perms)) (first_refusal (early_refusals setup s va)) (AtOnce (map_refusal setup s va page) (Some answer_is.Ok)) begun now
      (at_once (map_refusal setup s va page) (Some answer_is.Ok) begun now (map_is_faultless setup s va page) (λ x is. cc)) allowed
  hart_faultless (line_is.Unmap va) begun now allowed =
      faults_or (Licensed setup s (line_is.Unmap va)) (unlicensed (line_is.Unmap va)) (first_refusal (early_refusals setup s va)) (Begins (unmap_refusal setup s va) EndsDone) begun now
      (begins (unmap_refusal setup s va) EndsDone begun now (unmap_is_faultless setup s va) (done now)) allowed
  hart_faultless (line_is.Create e image pages) begun now allowed =
      begins (create_refusal setup s e.0 image pages) _ begun now (create_faultless setup s e.0 image pages) (done_or_faulted (Licensed setup s (line_is.Create e image pages)) (unlicensed (line_is.Create e image pages)) now) allowed
  hart_faultless (line_is.Shadow e image pages) begun now allowed =
      begins (create_refusal setup s e.0 image pages) _ begun now (create_faultless setup s e.0 image pages) (done_or_faulted (Licensed setup s (line_is.Shadow e image pages)) (unlicensed (line_is.Shadow e image pages)) now) allowed
  hart_faultless (line_is.Fork shadow e pages) begun now allowed =
      begins (fork_refusal setup s shadow.0 e.0 pages) _ begun now (fork_faultless setup s shadow.0 e.0 pages) (done_or_faulted (Licensed setup s (line_is.Fork shadow e pages)) (unlicensed (line_is.Fork shadow e pages)) now) allowed
  hart_faultless (line_is.Grant e page) begun now allowed = at_once (grant_refusal setup s e.0 page) (Some answer_is.Ok) begun now (grant_faultless setup s e.0 page) (λ x is. cc) allowed
  hart_faultless (line_is.Run e budget) begun now allowed =
      begins (run_refusal is_fresh (s.number e.0).state) _ begun now (run_faultless is_fresh (s.number e.0).state) (leaves (Licensed setup s (line_is.Run e budget)) (unlicensed (line_is.Run e budget)) setup (s.number e.0) budget now) allowed
  hart_faultless (line_is.Resume e budget) begun now allowed =
      begins (run_refusal is_paused (s.number e.0).state) _ begun now (run_faultless is_paused (s.number e.0).state) (leaves (Licensed setup s (line_is.Resume e budget)) (unlicensed (line_is.Resume e budget)) setup (s.number e.0) budget now) allowed
  hart_faultless (line_is.Send e word) begun now allowed = at_once (send_refusal (s.number e.0)) (Some answer_is.Ok) begun now (send_faultless (s.number e.0)) (λ x is. cc) allowed
  hart_faultless (line_is.Take e) begun now allowed =
      at_once (take_refusal setup (s.number e.0)) (option_map answer_is.Word (slice_get (sent_out setup (s.number e.0)) (s.number e.0).taken)) begun now (take_faultless setup (s.number e.0)) (word_faultless (slice_get (sent_out setup (s.number e.0)) (s.number e.0).taken)) allowed
    where
      word_faultless : (o : Option ℕ) (x : Answer) → option_map answer_is.Word o ≡ Some x → says_fault x ≡ false
      word_faultless None x is = cc
      word_faultless (Some word) x is = cc
  hart_faultless (line_is.Destroy e) begun now allowed = begins (idle_refusal (s.number e.0).state) EndsDone begun now (destroy_faultless (s.number e.0).state) (done now) allowed
  hart_faultless (line_is.Drop e) begun now allowed = at_once (drop_refusal setup s e.0) (Some answer_is.Ok) begun now (drop_faultless setup s e.0) (λ x is. cc) allowed
  hart_faultless (line_is.After actor count) false answer_is.Ok allowed = refl
  hart_faultless (line_is.After actor count) begun now allowed = absurd allowed

-- an attacker's line answers no fault
attack_faultless : (setup : SetupParts) (bytes : List ℕ) (s : Monitor) (before : List Entry) (part : List ℕ) (line : AttackLine) (begun : Bool) (now : Answer)
    → AllowedAttack setup bytes s before part line begun now → says_fault now ≡ false
attack_faultless setup bytes s before part (attack.Write pa new) false (answer_is.Wrote changed at from len) allowed = refl
attack_faultless setup bytes s before part (attack.Write pa new) begun now allowed = absurd allowed
attack_faultless setup bytes s before part (attack.Keep name pa len) false (answer_is.Kept at from count) allowed = refl
attack_faultless setup bytes s before part (attack.Keep name pa len) begun now allowed = absurd allowed
attack_faultless setup bytes s before part (attack.Back name) false (answer_is.Wrote changed at from len) allowed = refl
attack_faultless setup bytes s before part (attack.Back name) begun now allowed = absurd allowed
attack_faultless setup bytes s before part (attack.After actor count) false answer_is.Ok allowed = refl
attack_faultless setup bytes s before part (attack.After actor count) begun now allowed = absurd allowed

entry_faultless : (setup : SetupParts) (bytes : List ℕ) (s : Monitor) (before : List Entry) (entry : Entry) → s.attacks ≡ [] → (line : ActorLine)
    → AllowedLine setup bytes s before line (s.progress entry.actor).begun entry.answer → says_fault entry.answer ≡ false
entry_faultless setup bytes s before entry none (of_hart line) allowed = hart_faultless setup s none line (s.progress entry.actor).begun entry.answer allowed
entry_faultless setup bytes s before entry none (of_attacker line) allowed =
    attack_faultless setup bytes s before (named_part bytes entry.answer) line (s.progress entry.actor).begun entry.answer allowed

-- ---- whole histories

both_false : (a b : Bool) → a ≡ false → b ≡ false → (a || b) ≡ false
both_false true b p q = p
both_false false b p q = q

-- of entries that are allowed one after the other, from a state that remembers no attack
module _ (setup : SetupParts) (bytes : List ℕ) where
  all_faultless : (s : Monitor) (before entries : List Entry) → s.attacks ≡ [] → AllAllowed setup bytes s before entries → IsUnattacked entries
      → IsFaultless entries × ((state_after setup bytes s entries).attacks ≡ [])
  all_faultless s before [] none allowed still = (refl, none)
  all_faultless s before (entry ∷ entries) none allowed still =
      let parts = or_parts (says_changed entry.answer) (list_any (λ (e : Entry). says_changed e.answer) entries) still in
      let first = entry_faultless setup bytes s before entry none allowed.0.1.0 allowed.0.1.2 in
      let none_after : (after setup bytes s entry).attacks ≡ [] = entry_leaves setup bytes s entry (line_at setup entry.actor entry.line) parts.0 ∙ none in
      let rest = all_faultless (after setup bytes s entry) (before ++ entry ∷ []) entries none_after allowed.1 parts.1 in
      (both_false (says_fault entry.answer) (list_any (λ (e : Entry). says_fault e.answer) entries) first rest.0, rest.1)

pub unattacked_is_faultless : UnattackedIsFaultless
unfolding opening
unattacked_is_faultless = record {
  faultless = λ setup bytes entries legal still. (all_faultless setup bytes (opening setup) [] entries refl legal still).0;
  unattacked = λ setup bytes entries legal still. (all_faultless setup bytes (opening setup) [] entries refl legal still).1;
}
