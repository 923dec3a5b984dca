-- Which changes of the monitor's state leave all enclave numbers as they are: stores, removals and attacks, and how far the actors are.
use Rattle.std.proofs.Common.{◌≡◌, ℕ, Bool, true, false, List, Option, Some, None, refl}
use Rattle.pl_base.specs.Address.{vpn_of}
use Rattle.pl_base.specs.declared.address.Va.{Va}
use Rattle.mon_tables.specs.Space.{Mapping, mapping_at}
use Rattle.pl_history.specs.declared.answer.Answer.{Answer}
use Rattle.pl_history.specs.declared.answer.Answer.TheVariants as answer_is
use Rattle.pl_history.specs.declared.line.AttackLine.{AttackLine}
use Rattle.pl_history.specs.declared.line.AttackLine.TheVariants as attack
use Rattle.pl_history.specs.Answering.{change_by, progressed, unchanged}
use Rattle.pl_history.specs.Attacking.{Placed, written}
use Rattle.pl_history.specs.HostAccess.{host_stored, mapping_used, store_to}
use Rattle.pl_history.specs.HostMaps.{removing, removing_of}
use Rattle.pl_history.specs.Legal.{attack_changes}
use Rattle.pl_history.specs.Monitor.{Monitor, removed_at}
use Rattle.pl_history.proofs.HistoryLemmas.{unchanged_holds}

-- a state has the numbers of another
abbrev pub SameNumbers : Monitor → Monitor → Type 0
SameNumbers s t = t.number ≡ s.number

pub unchanged_numbers : (s : Monitor) (now : Answer) → SameNumbers s (change_by (unchanged s) now)
unchanged_numbers s now = unchanged_holds (SameNumbers s) s now refl

by_mapping : (s : Monitor) (hart : ℕ) (o : Option Mapping) → SameNumbers s (removing_of s hart o)
by_mapping s hart None = refl
by_mapping s hart (Some m) = refl

pub removing_numbers : (s : Monitor) (hart : ℕ) (va : Va) → SameNumbers s (removing s hart va)
removing_numbers s hart va = by_mapping s hart (mapping_at s.space (vpn_of va).0)

by_store : (s : Monitor) (va : Va) (word : ℕ) (o : Option Mapping) → SameNumbers s (store_to s va word o)
by_store s va word None = refl
by_store s va word (Some m) = refl

pub stored_numbers : (s : Monitor) (va : Va) (word : ℕ) → SameNumbers s (host_stored s va word)
stored_numbers s va word = by_store s va word (mapping_used (mapping_at s.space (vpn_of va).0) (removed_at s.removals (vpn_of va).0))

pub written_numbers : (s : Monitor) (now : Placed) (changed : Bool) → SameNumbers s (written s now changed)
written_numbers s now true = refl
written_numbers s now false = refl

pub attack_numbers : (s : Monitor) (part : List ℕ) (line : AttackLine) (now : Answer) → SameNumbers s (change_by (attack_changes s part line) now)
attack_numbers s part (attack.Write pa new) (answer_is.Wrote changed at from len) = written_numbers s (record { address = at; bytes = part }) changed
attack_numbers s part (attack.Back name) (answer_is.Wrote changed at from len) = written_numbers s (record { address = at; bytes = part }) changed
attack_numbers s part (attack.Keep name pa len) now = unchanged_numbers s now
attack_numbers s part (attack.After actor count) now = unchanged_numbers s now
attack_numbers s part line now = refl

pub progressed_numbers : (s : Monitor) (actor : ℕ) (now : Answer) → SameNumbers s (progressed s actor now)
progressed_numbers s actor answer_is.Begun = refl
progressed_numbers s actor answer_is.Ok = refl
progressed_numbers s actor (answer_is.Value value) = refl
progressed_numbers s actor (answer_is.Word word) = refl
progressed_numbers s actor (answer_is.Left count why) = refl
progressed_numbers s actor (answer_is.No cause) = refl
progressed_numbers s actor (answer_is.Wrote changed at from len) = refl
progressed_numbers s actor (answer_is.Kept at from len) = refl
