-- Why a call of the controller is refused, by its error.
use Rattle.std.specs.Prelude.{ℕ, List}
use Rattle.pl_base.specs.declared.place.Place.{Place}
use Rattle.mem_tree.specs.Checks.{AreOneDigest}
use Rattle.mem_ctl.specs.declared.broken.Broken.{Broken}
use Rattle.mem_ctl.specs.declared.broken.Broken.TheVariants as broken
use Rattle.mem_ctl.specs.declared.told.Told.{Told}
use Rattle.mem_ctl.specs.declared.told.Told.TheVariants as told
use Rattle.mem_ctl.specs.Access.{IsCollision, IsTampered}
use Rattle.mem_ctl.specs.Calls.{TakenWord, path_in}
use Rattle.mem_ctl.specs.Data.{CtlData}
use Rattle.mem_ctl.specs.Laws.{IsBroken, IsStale}
use Rattle.mem_ctl.specs.Mounting.{written}

module _ (digest_of : List ℕ → List ℕ) where
  -- an access that checks these places: its place has other bytes off chip than were written, and they have another
  -- digest than the one that is held for them, or are those that collide
  abbrev pub IsCause : List Place → CtlData → Broken → Type 0
  IsCause places x (broken.Fault place) = IsTampered x places place
  IsCause places x (broken.Collision c) = IsCollision digest_of x places c.place c.held.items c.written.items

  -- a sealed path that is told: it breaks by itself, its bytes collide with the written ones, or its root is another than the slot's
  abbrev pub IsCauseOfTelling : TakenWord → CtlData → Told → Type 0
  IsCauseOfTelling t x (told.Broken (broken.Fault place)) = IsBroken digest_of t x place
  IsCauseOfTelling t x (told.Broken (broken.Collision c)) = AreOneDigest digest_of (path_in t) (written x) c.place c.held.items c.written.items
  IsCauseOfTelling t x (told.Again taken_root root) = IsStale digest_of t x taken_root root
