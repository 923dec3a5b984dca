-- A small setup and a state of it, on which the definitions are tried against values worked by hand.
use Rattle.std.proofs.Common.{ℕ, ◌==◌, if◌then◌else◌, true, false, List, [], ◌∷◌, Option, Some}
use Rattle.pl_base.specs.declared.address.Va.{Va}
use Rattle.pl_base.specs.declared.number.EncNo.{EncNo}
use Rattle.pl_base.specs.declared.state.State.TheVariants as state_is
use Rattle.mon_image.specs.declared.image.Image.{Image}
use Rattle.pl_history.specs.declared.line.Line.{Line}
use Rattle.pl_history.specs.declared.line.AttackLine.{AttackLine}
use Rattle.pl_history.specs.declared.setup.ChoiceName.TheVariants.{Oldest}
use Rattle.pl_history.specs.declared.setup.SetupParts.{SetupParts}
use Rattle.pl_history.specs.Monitor.{Owner, number, Number, Monitor, free_number, first_owner}
use Rattle.mon_tables.specs.Space.{Mapping}

abbrev pub va : ℕ → Va
va address = record { 0 = address }

abbrev pub enc : ℕ → EncNo
enc e = record { 0 = e }

-- the words 93081000 1305a002 73000000: a7 = 1, a0 = 42, ECALL
abbrev pub exits_42 : Image
exits_42 = record {
  entry = 0x10000;
  pages = record { perms = record { 0 = 5 }; bytes = 0x93 ∷ 0x08 ∷ 0x10 ∷ 0 ∷ 0x13 ∷ 0x05 ∷ 0xa0 ∷ 0x02 ∷ 0x73 ∷ 0 ∷ 0 ∷ 0 ∷ [] } ∷ [];
}

-- an image of three pages
abbrev pub three_pages : Image
three_pages = record {
  entry = 0x10000;
  pages = record { perms = record { 0 = 5 }; bytes = [] } ∷ record { perms = record { 0 = 3 }; bytes = [] } ∷ record { perms = record { 0 = 1 }; bytes = [] } ∷ [];
}

-- two harts, one zone, one last-level table, four numbers, so that pages 0 to 14 are guarded; only R is left of page 21
abbrev pub small : List (List Line) → List AttackLine → SetupParts
small lines attacker = record {
  harts = 2;
  zones = 1;
  slots = 1;
  tables = 1;
  enclaves = 4;
  choice = Oldest;
  pmp = (2, record { cfg = 0; addr = 0x20005400 }) ∷ (3, record { cfg = 9; addr = 0x20005800 }) ∷ [];
  order = [];
  images = exits_42 ∷ three_pages ∷ [];
  lines = lines;
  attacker = attacker;
}

abbrev pub quiet : SetupParts
quiet = small [] []

abbrev pub map_to : ℕ → ℕ → ℕ → Mapping
map_to vpn page perms = record { vpn = vpn; page = page; perms = record { 0 = perms } }

-- number 1 is a shadow of page 30, number 2 was forked from it with the spare 31
abbrev pub some_number : ℕ → Number
some_number e =
    if e == 1 then record free_number { state = state_is.Sealed; pages = 30 ∷ [] }
    else (if e == 2 then record free_number { state = state_is.Paused; live = true; spares = 31 ∷ []; parent = Some 1 } else free_number)

abbrev pub some_owner : ℕ → Option Owner
some_owner page = if page == 30 then Some (number 1) else (if page == 31 then Some (number 2) else first_owner quiet page)

-- page p begins with the byte p and has 7 in its eighth byte; page 20 is mapped twice, and hart 1 is removing the mapping of page 22
abbrev pub state : Monitor
state = record {
  owner = some_owner;
  space = map_to 1 20 3 ∷ map_to 2 20 1 ∷ map_to 4 21 3 ∷ [];
  removals = record { hart = 1; mapping = map_to 3 22 1 } ∷ [];
  bytes = λ page. page ∷ 0 ∷ 0 ∷ 0 ∷ 0 ∷ 0 ∷ 0 ∷ 0 ∷ 7 ∷ 0 ∷ 0 ∷ 0 ∷ 0 ∷ 0 ∷ 0 ∷ 0 ∷ [];
  number = some_number;
  attacks = [];
  progress = λ actor. record { answered = 0; begun = false };
}
