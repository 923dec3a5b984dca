-- An event of one actor: what is kept, from what is known of the actor's line, of the numbers and of the bytes.
use Rattle.std.proofs.Common.{◌≡◌, ◌≢◌, ℕ, ◌+◌, ◌*◌, eqb, true, List, length, slice_get, Option, Some, None, refl, sym, ap, ◌∙◌, subst, inl, inr}
use Rattle.std.proofs.lemmas.Bool.{cases_Bool, eqb-true, eqb-false}
use Rattle.std.specs.Prelude.{Contains}
use Rattle.mem_ctl.specs.Data.{CtlData}
use Rattle.mem_ctl.specs.TreesHold.{IsKept}
use Rattle.mem_geom.specs.Parts.{page_bytes}
use Rattle.rv_tlb.specs.declared.tlb.TlbEntry.{TlbEntry}
use Rattle.mon_enclave.specs.declared.enclave.Enclave.{Enclave}
use Rattle.mon_enclave.specs.Records.{enclave_at}
use Rattle.mon_fence.specs.declared.fences.Fence.{Fence}
use Rattle.mon_owner.specs.declared.owners.Owner.{Owner}
use Rattle.mon_owner.specs.declared.owners.Owner.TheVariants.{Guard}
use Rattle.pl_history.specs.declared.line.Line.{Line}
use Rattle.pl_history.specs.declared.setup.SetupParts.{SetupParts}
use Rattle.pl_history.specs.History.{HistoryData}
use Rattle.pl_history.specs.Monitor.{Attack, Monitor, Number, script_of}
use Rattle.world_machine.specs.declared.under.Under.{Under}
use Rattle.world_machine.specs.BytesAgree.{ByteAgrees, HasPut, HostBytesAgree, OnlyAttacksDiffer, PageAgrees}
use Rattle.world_machine.specs.EnclavesAgree.{EnclavesAgree, is_made}
use Rattle.world_machine.specs.LinesUnderWay.{LineUnderWay, NumbersApart, number_under_way}
use Rattle.world_machine.specs.Pages.{numbers_of}
use Rattle.world_machine.specs.PagesAgree.{PagesAgree}
use Rattle.world_machine.specs.RecordsAgree.{OwnersAgree, RecordsAgree}
use Rattle.world_machine.specs.Sizes.{HasSizes}
use Rattle.world_machine.specs.TranslationsAgree.{TranslationsStand}
use Rattle.world_machine.specs.Standing.{CollisionStands, IsCollision, Kept, Stands, state_of}
use Rattle.world_machine.specs.Worlds.{CollisionData, WorldData, answered_at, hart_line, under_at}
use Rattle.world_machine.proofs.Lists.{everywhere}
use Rattle.world_machine.proofs.LineMoves.{LineMoves, progress_agrees}

-- the parts of a world that an event may change
abbrev pub with_parts : WorldData → CtlData → List Owner → List Enclave → List (List TlbEntry) → List (Option Fence) → List Under → List ℕ → HistoryData → WorldData
with_parts w ctl owners enclaves tlbs fences under answered history =
    record w { ctl = ctl; owners = owners; enclaves = enclaves; tlbs = tlbs; fences = fences; under = under; answered = answered; history = history }

-- the lists keep their lengths, and guarded pages stay guarded
pub record SameSizes (setup : SetupParts) (old new : CtlData) (owners owners' : List Owner) (enclaves enclaves' : List Enclave) : Type 0 where
  pub zones : new.zones ≡ old.zones
  pub slots : new.slots ≡ old.slots
  pub pages : length owners' ≡ length owners
  pub guarded : (page : ℕ) → slice_get owners page ≡ Some Guard → slice_get owners' page ≡ Some Guard
  pub numbers : length enclaves' ≡ length enclaves

pub same_sizes : (setup : SetupParts) (ctl : CtlData) (owners : List Owner) (enclaves : List Enclave) → SameSizes setup ctl ctl owners owners enclaves enclaves
same_sizes setup ctl owners enclaves = record { zones = refl; slots = refl; pages = refl; guarded = λ page is. is; numbers = refl }

-- the line of an actor that has answered so many
abbrev pub line_after : WorldData → List ℕ → ℕ → Option Line
line_after w answered hart = slice_get (script_of w.setup hart) (answered_at answered hart)

-- What is known of an event: s is the state that the history gives after it, u how far the actor's line is, and count how many of the
-- actor's lines are answered.
pub record RowFacts (digest_of : List ℕ → List ℕ) (w : WorldData) (actor : ℕ) (ctl : CtlData) (owners : List Owner) (enclaves : List Enclave)
    (tlbs : List (List TlbEntry)) (fences : List (Option Fence)) (under : List Under) (answered : List ℕ) (history : HistoryData) (s : Monitor) (u : Under) (count : ℕ) : Type 0 where
  pub line : LineMoves w actor under answered history s u count
  pub sizes : SameSizes w.setup w.ctl ctl w.owners owners w.enclaves enclaves
  pub trees : IsKept digest_of ctl
  pub owners_agree : OwnersAgree owners s
  pub records : RecordsAgree (enclave_at enclaves) s.number
  pub pages_agree : PagesAgree w.setup (enclave_at enclaves) s.number
  pub enclaves_agree : EnclavesAgree w.setup (page_bytes ctl.mirror) owners (enclave_at enclaves) s.number
  pub host : HostBytesAgree ctl.off_chip s
  pub attacks : OnlyAttacksDiffer w.setup.zones ctl.off_chip ctl.mirror s.attacks owners (enclave_at enclaves) s.number (line_after w answered) (under_at under)
  pub other_lines : (hart : ℕ) → hart ≢ actor → LineUnderWay w.setup (page_bytes ctl.mirror) (enclave_at enclaves) s.number hart (hart_line w hart) (under_at w.under hart)
  pub own_line : LineUnderWay w.setup (page_bytes ctl.mirror) (enclave_at enclaves) s.number actor (slice_get (script_of w.setup actor) count) u
  pub own_apart : (hart e : ℕ) → hart ≢ actor → number_under_way (slice_get (script_of w.setup actor) count) u ≡ Some e
      → number_under_way (hart_line w hart) (under_at w.under hart) ≡ Some e → ⊥
  pub translations : TranslationsStand w.setup ctl tlbs fences (enclave_at enclaves) s (line_after w answered) (under_at under)

module _ (digest_of : List ℕ → List ℕ) (w : WorldData) (actor : ℕ) (ctl : CtlData) (owners : List Owner) (enclaves : List Enclave)
    (tlbs : List (List TlbEntry)) (fences : List (Option Fence)) (under : List Under) (answered : List ℕ) (history : HistoryData) (s : Monitor) (u : Under) (count : ℕ) (k : Kept digest_of w) (none : w.collision ≡ None)
    (f : RowFacts digest_of w actor ctl owners enclaves tlbs fences under answered history s u count) where
  abbrev new : WorldData
  new = with_parts w ctl owners enclaves tlbs fences under answered history

  sizes : HasSizes w.setup ctl owners enclaves under answered
  sizes = record {
    rules = k.sizes.rules;
    bytes = k.sizes.bytes;
    lines_fit = k.sizes.lines_fit;
    zones = f.sizes.zones ∙ k.sizes.zones;
    slots = f.sizes.slots ∙ k.sizes.slots;
    pages = f.sizes.pages ∙ k.sizes.pages;
    guarded = λ page few. f.sizes.guarded page (k.sizes.guarded page few);
    numbers = f.sizes.numbers ∙ k.sizes.numbers;
    harts = f.line.under_change.size ∙ k.sizes.harts;
    actors = f.line.answered_change.size ∙ k.sizes.actors;
  }

  -- the lines of all harts and how far they are, after the event
  line_own : line_after w answered actor ≡ slice_get (script_of w.setup actor) count
  line_own = ap (slice_get (script_of w.setup actor)) f.line.answered_change.here

  line_other : (hart : ℕ) → hart ≢ actor → line_after w answered hart ≡ hart_line w hart
  line_other hart other = ap (slice_get (script_of w.setup hart)) (f.line.answered_change.others hart other)

  abbrev StandsAt : ℕ → Option Line → Under → Type 0
  StandsAt = LineUnderWay w.setup (page_bytes ctl.mirror) (enclave_at enclaves) s.number

  lines : (hart : ℕ) → StandsAt hart (line_after w answered hart) (under_at under hart)
  lines = everywhere (λ hart. StandsAt hart (line_after w answered hart) (under_at under hart)) actor
      (subst (λ l. StandsAt actor l (under_at under actor)) (sym line_own)
      (subst (StandsAt actor (slice_get (script_of w.setup actor) count)) (sym f.line.under_change.here) f.own_line))
      (λ hart other. subst (λ l. StandsAt hart l (under_at under hart)) (sym (line_other hart other))
      (subst (StandsAt hart (hart_line w hart)) (sym (f.line.under_change.others hart other)) (f.other_lines hart other)))

  abbrev has_now : ℕ → Option ℕ
  has_now hart = number_under_way (line_after w answered hart) (under_at under hart)

  has_own : has_now actor ≡ number_under_way (slice_get (script_of w.setup actor) count) u
  has_own = ap (λ l. number_under_way l (under_at under actor)) line_own ∙ ap (number_under_way (slice_get (script_of w.setup actor) count)) f.line.under_change.here

  has_other : (hart : ℕ) → hart ≢ actor → has_now hart ≡ number_under_way (hart_line w hart) (under_at w.under hart)
  has_other hart other = ap (λ l. number_under_way l (under_at under hart)) (line_other hart other) ∙ ap (number_under_way (hart_line w hart)) (f.line.under_change.others hart other)

  numbers_apart : NumbersApart has_now
  numbers_apart hart other e here there = elim (cases_Bool (eqb hart actor)) [
    | inl own ↦ elim (cases_Bool (eqb other actor)) [
      | inl same ↦ eqb-true _ _ own ∙ sym (eqb-true _ _ same)
      | inr differ ↦ absurd (f.own_apart other e (eqb-false _ _ differ)
          (sym has_own ∙ ap has_now (sym (eqb-true _ _ own)) ∙ here)
          (sym (has_other other (eqb-false _ _ differ)) ∙ there))
    ]
    | inr differ ↦ elim (cases_Bool (eqb other actor)) [
      | inl same ↦ absurd (f.own_apart hart e (eqb-false _ _ differ)
          (sym has_own ∙ ap has_now (sym (eqb-true _ _ same)) ∙ there)
          (sym (has_other hart (eqb-false _ _ differ)) ∙ here))
      | inr too ↦ k.stands.apart hart other e
          (sym (has_other hart (eqb-false _ _ differ)) ∙ here)
          (sym (has_other other (eqb-false _ _ too)) ∙ there)
    ]
  ]

  stands : Stands new s
  stands = record {
    owners = f.owners_agree;
    records = f.records;
    progress = progress_agrees w actor under answered history s u count k.stands.progress f.line;
    pages = f.pages_agree;
    enclaves = f.enclaves_agree;
    host = f.host;
    attacks = f.attacks;
    lines = lines;
    apart = numbers_apart;
    translations = f.translations;
  }

  pub row_kept : Kept digest_of (with_parts w ctl owners enclaves tlbs fences under answered history)
  row_kept = record {
    sizes = sizes;
    trees = f.trees;
    legal = f.line.legal;
    parts = f.line.parts;
    room = subst (λ t. Rattle.world_attack.specs.Room.HasRoom w.setup t history) (sym f.line.gives) f.line.room;
    stands = subst (Stands new) (sym f.line.gives) stands;
    collision = subst (CollisionStands digest_of w.setup.zones (state_of new).attacks) (sym none) tt;
  }

-- the kept collision and the count of moves are no part of what else is kept
pub beside_kept : (digest_of : List ℕ → List ℕ) (w : WorldData) (o : Option CollisionData) (moves : ℕ) → Kept digest_of w → CollisionStands digest_of w.setup.zones (state_of w).attacks o
    → Kept digest_of (record w { collision = o; moves = moves })
beside_kept digest_of w o moves k is = record {
  sizes = k.sizes;
  trees = k.trees;
  legal = k.legal;
  parts = k.parts;
  room = k.room;
  stands = record {
    owners = k.stands.owners;
    records = k.stands.records;
    progress = k.stands.progress;
    pages = k.stands.pages;
    enclaves = k.stands.enclaves;
    host = k.stands.host;
    attacks = k.stands.attacks;
    lines = k.stands.lines;
    apart = k.stands.apart;
    translations = k.stands.translations;
  };
  collision = is;
}

-- a kept collision joins what is kept
pub collision_kept : (digest_of : List ℕ → List ℕ) (w : WorldData) (c : CollisionData) → Kept digest_of w → IsCollision digest_of w.setup.zones (state_of w).attacks c
    → Kept digest_of (record w { collision = Some c })
collision_kept digest_of w c k is = beside_kept digest_of w (Some c) w.moves k is

-- ---- bytes that differ

module _ (zones : ℕ) (off mirror off' mirror' : List ℕ) (attacks attacks' : List Attack) (owners owners' : List Owner) (rec rec' : ℕ → Enclave) (number number' : ℕ → Number)
    (line line' : ℕ → Option Line) (under under' : ℕ → Under) (actor e : ℕ)
    (bytes : (i : ℕ) → ByteAgrees off mirror attacks i → ByteAgrees off' mirror' attacks' i) where
  pub page_still : (page : ℕ) → PageAgrees off mirror attacks page → PageAgrees off' mirror' attacks' page
  page_still page old i few = bytes (4096 * page + i) (old i few)

  -- what an event leaves that changes the pages of one number at most, and the line of one actor
  pub record AttacksFrame : Type 0 where
    pub guarded : (page : ℕ) → slice_get owners' page ≡ Some Guard → slice_get owners page ≡ Some Guard
    pub made : (f : ℕ) → f ≢ e → is_made (number' f) ≡ is_made (number f)
    pub pages : (f : ℕ) → f ≢ e → (rec' f).pages ≡ (rec f).pages
    pub lines : (hart : ℕ) → hart ≢ actor → line' hart ≡ line hart
    pub unders : (hart : ℕ) → hart ≢ actor → under' hart ≡ under hart
    pub made_own : (page : ℕ) → Contains (numbers_of (rec' e).pages) page → is_made (number' e) ≡ true → PageAgrees off' mirror' attacks' page
    pub put_own : (page : ℕ) → HasPut (line' actor) (under' actor) page → PageAgrees off' mirror' attacks' page

  pub attacks_frame : AttacksFrame → OnlyAttacksDiffer zones off mirror attacks owners rec number line under → OnlyAttacksDiffer zones off' mirror' attacks' owners' rec' number' line' under'
  attacks_frame f old = record {
    nodes = λ i past. bytes i (old.nodes i past);
    guarded = λ page is. page_still page (old.guarded page (f.guarded page is));
    made = λ page g. everywhere (λ g. Contains (numbers_of (rec' g).pages) page → is_made (number' g) ≡ true → PageAgrees off' mirror' attacks' page) e
        (f.made_own page)
        (λ g other is made. page_still page (old.made page g (subst (λ kinds. Contains (numbers_of kinds) page) (f.pages g other) is) (sym (f.made g other) ∙ made))) g;
    put = λ hart page. everywhere (λ hart. HasPut (line' hart) (under' hart) page → PageAgrees off' mirror' attacks' page) actor
        (f.put_own page)
        (λ hart other is. page_still page (old.put hart page (subst (λ u. HasPut (line hart) u page) (f.unders hart other) (subst (λ l. HasPut l (under' hart) page) (f.lines hart other) is)))) hart;
  }
