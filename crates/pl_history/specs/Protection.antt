-- The sixteen protection entries of every hart (own; the form of an entry is that of the RISC-V Privileged Architecture, PMP).
use Rattle.std.specs.Prelude.{◌≡◌, ℕ, ◌+◌, ◌/◌, ◌<◌, ◌≤◌, ◌==◌, List, [], ◌∷◌, ◌++◌, map, find}
use Rattle.std.specs.List.{range_with_len}
use Rattle.std.specs.Option.{option_map_or}
use Rattle.pl_base.specs.Perms.{grants}
use Rattle.pl_base.specs.declared.access.Kind.{Kind}
use Rattle.mem_geom.specs.Layout.{page_start}
use Rattle.rv_pmp.specs.declared.rule.Rule.{Rule}
use Rattle.rv_pmp.specs.Pmp.{permits}
use Rattle.pl_history.specs.declared.setup.SetupParts.{SetupParts}
use Rattle.pl_history.specs.Rules.{guarded_of, pages_of}

-- an entry with this configuration whose register holds bits 55:2 of an address
abbrev pub rule_at : ℕ → ℕ → Rule
rule_at cfg address = record { cfg = cfg; addr = address / 4 }

-- the configurations OFF, TOR with R, and TOR with R, W and X
abbrev pub off : ℕ
off = 0

abbrev pub up_to_readable : ℕ
up_to_readable = 9

abbrev pub up_to_open : ℕ
up_to_open = 15

-- the entry that a setup has for a number; OFF with the register 0 where it has none
abbrev pub entry_of_setup : List (ℕ × Rule) → ℕ → Rule
entry_of_setup entries number = option_map_or (λ (entry : ℕ × Rule). entry.1) (find (λ (entry : ℕ × Rule). entry.0 == number) entries) (rule_at off 0)

-- Entries 0 and 1 let the guarded pages be read, and entries 13 and 14 leave the pages after them open up to the last zone's end;
-- entries 2 to 12 are the setup's; entry 15 is OFF.
abbrev pub pmp_of : SetupParts → List Rule
pmp_of setup =
    rule_at off (page_start 0) ∷ rule_at up_to_readable (page_start (guarded_of setup.tables setup.enclaves))
    ∷ (map (entry_of_setup setup.pmp) (range_with_len 2 11)
    ++ (rule_at off (page_start 0) ∷ rule_at up_to_open (page_start (pages_of setup.zones)) ∷ rule_at off 0 ∷ []))

-- the guarded pages may be read and nothing else: so each word of a table can be read, whatever the setup's entries are
abbrev pub GuardedAreRead : Type 0
GuardedAreRead = (setup : SetupParts) (page offset width : ℕ) (kind : Kind) → page < guarded_of setup.tables setup.enclaves → 0 < width → offset + width ≤ 4096
    → permits (pmp_of setup) (page_start page + offset) width kind ≡ grants (record { 0 = 1 }) kind
