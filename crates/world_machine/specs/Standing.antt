-- How a world stands to the state of the abstract monitor that its history gives.
use Rattle.std.specs.Prelude.{◌≡◌, ◌≢◌, ℕ, ◌≤◌, List, length, Option, Some, None, IsTrue}
use Rattle.std.specs.List.{All, list_any}
use Rattle.pl_base.specs.declared.place.Place.{Place}
use Rattle.mem_geom.specs.Layout.{Exists}
use Rattle.mem_geom.specs.Parts.{page_bytes}
use Rattle.mem_geom.specs.Ranges.{overlaps_place}
use Rattle.mem_ctl.specs.TreesHold.{IsKept}
use Rattle.mon_enclave.specs.Records.{enclave_at}
use Rattle.pl_history.specs.History.{NamesPart}
use Rattle.pl_history.specs.Legal.{Legal, legal_state}
use Rattle.pl_history.specs.Monitor.{Attack, Monitor}
use Rattle.world_attack.specs.Room.{HasRoom}
use Rattle.world_machine.specs.BytesAgree.{HostBytesAgree, OnlyAttacksDiffer}
use Rattle.world_machine.specs.EnclavesAgree.{EnclavesAgree}
use Rattle.world_machine.specs.LinesUnderWay.{LineUnderWay, NumbersApart, number_under_way}
use Rattle.world_machine.specs.PagesAgree.{PagesAgree}
use Rattle.world_machine.specs.RecordsAgree.{OwnersAgree, ProgressAgrees, RecordsAgree}
use Rattle.world_machine.specs.Sizes.{HasSizes}
use Rattle.world_machine.specs.TranslationsAgree.{TranslationsStand}
use Rattle.world_machine.specs.Worlds.{CollisionData, WorldData, hart_line, under_at}

-- the bytes of a page as last written
abbrev pub written_page : WorldData → ℕ → List ℕ
written_page w = page_bytes w.ctl.mirror

pub record Stands (w : WorldData) (s : Monitor) : Type 0 where
  pub owners : OwnersAgree w.owners s
  pub records : RecordsAgree (enclave_at w.enclaves) s.number
  pub progress : ProgressAgrees w.under w.answered s.progress
  pub pages : PagesAgree w.setup (enclave_at w.enclaves) s.number
  pub enclaves : EnclavesAgree w.setup (written_page w) w.owners (enclave_at w.enclaves) s.number
  pub host : HostBytesAgree w.ctl.off_chip s
  pub attacks : OnlyAttacksDiffer w.setup.zones w.ctl.off_chip w.ctl.mirror s.attacks w.owners (enclave_at w.enclaves) s.number (hart_line w) (under_at w.under)
  pub lines : (hart : ℕ) → LineUnderWay w.setup (written_page w) (enclave_at w.enclaves) s.number hart (hart_line w hart) (under_at w.under hart)
  pub apart : NumbersApart (λ hart. number_under_way (hart_line w hart) (under_at w.under hart))
  pub translations : TranslationsStand w.setup w.ctl w.tlbs w.fences (enclave_at w.enclaves) s (hart_line w) (under_at w.under)

-- an attack that changed a byte overlaps a place that there is
pub record IsAttackedPlace (zones : ℕ) (attacks : List Attack) (place : Place) : Type 0 where
  pub exists : Exists zones place
  pub attacked : IsTrue (list_any (λ (attack : Attack). overlaps_place zones attack.address attack.length place) attacks)

-- a kept collision shows two unequal byte strings of one digest, at a place that was attacked
pub record IsCollision (digest_of : List ℕ → List ℕ) (zones : ℕ) (attacks : List Attack) (c : CollisionData) : Type 0 where
  pub unequal : c.held ≢ c.written
  pub one_digest : digest_of c.held ≡ digest_of c.written
  pub few : length c.held ≤ 256
  pub as_few : length c.written ≤ 256
  pub place : IsAttackedPlace zones attacks c.place

abbrev pub CollisionStands : (List ℕ → List ℕ) → ℕ → List Attack → Option CollisionData → Type 0
CollisionStands digest_of zones attacks None = Unit {0}
CollisionStands digest_of zones attacks (Some c) = IsCollision digest_of zones attacks c

-- the state that the world's history gives
abbrev pub state_of : WorldData → Monitor
state_of w = legal_state w.setup w.history.bytes w.history.entries

-- what every world that is reached keeps
pub record Kept (digest_of : List ℕ → List ℕ) (w : WorldData) : Type 0 where
  pub sizes : HasSizes w.setup w.ctl w.owners w.enclaves w.under w.answered
  pub trees : IsKept digest_of w.ctl
  pub legal : Legal w.setup w.history.bytes w.history.entries
  pub parts : All (NamesPart w.history.bytes) w.history.entries
  pub room : HasRoom w.setup (state_of w) w.history
  pub stands : Stands w (state_of w)
  pub collision : CollisionStands digest_of w.setup.zones (state_of w).attacks w.collision
