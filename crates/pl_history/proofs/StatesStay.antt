-- What the answers to a line change: nothing of how far the actors are, and the attacks only by `wrote 1`.
use Rattle.std.proofs.Common.{◌≡◌, ℕ, Bool, true, false, if◌then◌else◌, List, Option, Some, None, refl}
use Rattle.pl_base.specs.Address.{vpn_of}
use Rattle.pl_base.specs.declared.address.Va.{Va}
use Rattle.pl_base.specs.declared.state.Why.{Why}
use Rattle.mon_tables.specs.Space.{Mapping, mapping_at}
use Rattle.pl_history.specs.declared.line.Line.{Line}
use Rattle.pl_history.specs.declared.line.Line.TheVariants as line_is
use Rattle.pl_history.specs.declared.line.AttackLine.{AttackLine}
use Rattle.pl_history.specs.declared.line.AttackLine.TheVariants as attack
use Rattle.pl_history.specs.Answering.{Changes, unchanged}
use Rattle.pl_history.specs.Attacking.{Placed, written}
use Rattle.pl_history.specs.HostAccess.{mapping_used, store_to}
use Rattle.pl_history.specs.HostMaps.{removing_of}
use Rattle.pl_history.specs.Legal.{changes, attack_changes}
use Rattle.pl_history.specs.Making.{made_faulted}
use Rattle.pl_history.specs.Monitor.{Monitor, removed_at}

-- each state that the answers may give is so
pub record EachIs (Is : Monitor → Type 0) (AfterWrote : Bool → Monitor → Type 0) (all : Changes) : Type 0 where
  pub begun : Is all.begun
  pub ok : Is all.ok
  pub value : Is all.value
  pub word : Is all.word
  pub left : (count : ℕ) (why : Why) → Is (all.left count why)
  pub no : Is all.no
  pub wrote : (changed : Bool) (pa : ℕ) → AfterWrote changed (all.wrote changed pa)
  pub kept : Is all.kept

-- a state with the attacks of another, and its actors as far
pub record Stays (s t : Monitor) : Type 0 where
  pub progress : t.progress ≡ s.progress
  pub attacks : t.attacks ≡ s.attacks

-- the attacks stay where the answer says that no byte changed
pub record StaysUnless (s : Monitor) (changed : Bool) (t : Monitor) : Type 0 where
  pub progress : t.progress ≡ s.progress
  pub attacks : changed ≡ false → t.attacks ≡ s.attacks

abbrev pub EachStays : Monitor → Changes → Type 0
EachStays s = EachIs (Stays s) (StaysUnless s)

as_it_was : (s : Monitor) → Stays s s
as_it_was s = record { progress = refl; attacks = refl }

-- the states that the answers to a hart's line may give, where those after a value, a write and a keeping are as they were
some_change : (s begun ok word refused : Monitor) (left : ℕ → Why → Monitor) → Stays s begun → Stays s ok → Stays s word → Stays s refused → ((count : ℕ) (why : Why) → Stays s (left count why))
    → EachStays s (record (unchanged s) { begun = begun; ok = ok; word = word; no = refused; left = left })
some_change s begun ok word refused left b o w n l = record {
  begun = b;
  ok = o;
  value = as_it_was s;
  word = w;
  left = l;
  no = n;
  wrote = λ changed pa. record { progress = refl; attacks = λ is. refl };
  kept = as_it_was s;
}

module _ (s : Monitor) where
  none_changes : EachStays s (unchanged s)
  none_changes = some_change s s s s s (λ count why. s) (as_it_was s) (as_it_was s) (as_it_was s) (as_it_was s) (λ count why. as_it_was s)

  ok_changes : (t : Monitor) → Stays s t → EachStays s (record (unchanged s) { ok = t })
  ok_changes t stays = some_change s s t s s (λ count why. s) (as_it_was s) stays (as_it_was s) (as_it_was s) (λ count why. as_it_was s)

  begins_and_ends : (begun ok : Monitor) → Stays s begun → Stays s ok → EachStays s (record (unchanged s) { begun = begun; ok = ok })
  begins_and_ends begun ok b o = some_change s begun ok s s (λ count why. s) b o (as_it_was s) (as_it_was s) (λ count why. as_it_was s)

  makes : (begun ok refused : Monitor) → Stays s begun → Stays s ok → Stays s refused → EachStays s (record (unchanged s) { begun = begun; ok = ok; no = refused })
  makes begun ok refused b o n = some_change s begun ok s refused (λ count why. s) b o (as_it_was s) n (λ count why. as_it_was s)

  runs : (begun : Monitor) (left : ℕ → Why → Monitor) → Stays s begun → ((count : ℕ) (why : Why) → Stays s (left count why)) → EachStays s (record (unchanged s) { begun = begun; left = left })
  runs begun left b l = some_change s begun s s s left b (as_it_was s) (as_it_was s) (as_it_was s) l

  gives_word : (t : Monitor) → Stays s t → EachStays s (record (unchanged s) { word = t })
  gives_word t stays = some_change s s s t s (λ count why. s) (as_it_was s) (as_it_was s) stays (as_it_was s) (λ count why. as_it_was s)

written_stays : (s : Monitor) (now : Placed) (changed : Bool) → StaysUnless s changed (written s now changed)
written_stays s now true = record { progress = refl; attacks = λ is. cc }
written_stays s now false = record { progress = refl; attacks = λ is. refl }

writes : (s : Monitor) (part : List ℕ) → EachStays s (record (unchanged s) { wrote = λ changed pa. written s (record { address = pa; bytes = part }) changed })
writes s part = record {
  begun = as_it_was s;
  ok = as_it_was s;
  value = as_it_was s;
  word = as_it_was s;
  left = λ count why. as_it_was s;
  no = as_it_was s;
  wrote = λ changed pa. written_stays s (record { address = pa; bytes = part }) changed;
  kept = as_it_was s;
}

stored_stays : (s : Monitor) (va : Va) (word : ℕ) (m : Option Mapping) → Stays s (store_to s va word m)
stored_stays s va word None = as_it_was s
stored_stays s va word (Some m) = record { progress = refl; attacks = refl }

removing_stays : (s : Monitor) (hart : ℕ) (m : Option Mapping) → Stays s (removing_of s hart m)
removing_stays s hart None = as_it_was s
removing_stays s hart (Some m) = record { progress = refl; attacks = refl }

faulted_stays : (s : Monitor) (e : ℕ) (begun : Bool) → Stays s (if begun then made_faulted s e else s)
faulted_stays s e true = record { progress = refl; attacks = refl }
faulted_stays s e false = as_it_was s

pub line_stays : (s : Monitor) (hart : ℕ) (line : Line) (begun : Bool) → EachStays s (changes s hart line begun)
line_stays s hart (line_is.Load va) begun = none_changes s
line_stays s hart (line_is.Store va word) begun = ok_changes s _ (stored_stays s va word (mapping_used (mapping_at s.space (vpn_of va).0) (removed_at s.removals (vpn_of va).0)))
line_stays s hart (line_is.Map va page perms) begun = ok_changes s _ (record { progress = refl; attacks = refl })
line_stays s hart (line_is.Unmap va) begun = begins_and_ends s _ _ (removing_stays s hart (mapping_at s.space (vpn_of va).0)) (record { progress = refl; attacks = refl })
line_stays s hart (line_is.Create e image pages) begun = makes s _ _ _ (record { progress = refl; attacks = refl }) (record { progress = refl; attacks = refl }) (faulted_stays s e.0 begun)
line_stays s hart (line_is.Shadow e image pages) begun = makes s _ _ _ (record { progress = refl; attacks = refl }) (record { progress = refl; attacks = refl }) (faulted_stays s e.0 begun)
line_stays s hart (line_is.Fork shadow e pages) begun = makes s _ _ _ (record { progress = refl; attacks = refl }) (record { progress = refl; attacks = refl }) (faulted_stays s e.0 begun)
line_stays s hart (line_is.Grant e page) begun = ok_changes s _ (record { progress = refl; attacks = refl })
line_stays s hart (line_is.Run e budget) begun = runs s _ _ (record { progress = refl; attacks = refl }) (λ count why. record { progress = refl; attacks = refl })
line_stays s hart (line_is.Resume e budget) begun = runs s _ _ (record { progress = refl; attacks = refl }) (λ count why. record { progress = refl; attacks = refl })
line_stays s hart (line_is.Send e word) begun = ok_changes s _ (record { progress = refl; attacks = refl })
line_stays s hart (line_is.Take e) begun = gives_word s _ (record { progress = refl; attacks = refl })
line_stays s hart (line_is.Destroy e) begun = begins_and_ends s _ _ (record { progress = refl; attacks = refl }) (record { progress = refl; attacks = refl })
line_stays s hart (line_is.Drop e) begun = ok_changes s _ (record { progress = refl; attacks = refl })
line_stays s hart (line_is.After actor count) begun = none_changes s

pub attack_stays : (s : Monitor) (part : List ℕ) (line : AttackLine) → EachStays s (attack_changes s part line)
attack_stays s part (attack.Write pa new) = writes s part
attack_stays s part (attack.Keep name pa len) = none_changes s
attack_stays s part (attack.Back name) = writes s part
attack_stays s part (attack.After actor count) = none_changes s
