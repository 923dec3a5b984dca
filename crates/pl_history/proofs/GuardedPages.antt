-- The guarded pages may be read, and nothing else.
use Rattle.std.proofs.Common.{◌≡◌, ℕ, ◌+◌, ◌*◌, ◌/◌, ◌<◌, ◌≤◌, ◌++◌, ◌&&◌, Bool, true, false, if◌then◌else◌, List, [], ◌∷◌, map, ap, ◌∙◌, arith}
use Rattle.std.specs.List.{range_with_len}
use Rattle.std.proofs.lemmas.Bool.Decides.{nat_tests}
use Rattle.pl_base.specs.Perms.{grants}
use Rattle.pl_base.specs.Span.{covers, overlaps, span}
use Rattle.pl_base.specs.declared.span.Span.{Span}
use Rattle.mem_geom.specs.Layout.{page_start}
use Rattle.rv_pmp.specs.declared.rule.Rule.{Rule}
use Rattle.rv_pmp.specs.Pmp.{permits_after}
use Rattle.pl_history.specs.Protection.{GuardedAreRead, entry_of_setup, off, rule_at, up_to_open, up_to_readable}
use Rattle.pl_history.specs.Rules.{guarded_of, pages_of}

-- an empty range meets none
nothing_there : (a : Span) → overlaps (span 0 0) a ≡ false
nothing_there a = grind (arith, nat_tests)

inside_overlaps : (start stop a b : ℕ) → start ≤ a → b ≤ stop → a < b → overlaps (span start stop) (span a b) ≡ true
inside_overlaps start stop a b from to some = grind (arith, nat_tests)

inside_covers : (start stop a b : ℕ) → start ≤ a → b ≤ stop → covers (span start stop) (span a b) ≡ true
inside_covers start stop a b from to = grind (arith, nat_tests)

pub guarded_are_read : GuardedAreRead
guarded_are_read setup page offset width kind below some fits =
    let g : ℕ = guarded_of setup.tables setup.enclaves in
    let a : Span = span (page_start page + offset) (page_start page + offset + width) in
    let readable : Rule = rule_at up_to_readable (page_start g) in
    let others : List Rule = map (entry_of_setup setup.pmp) (range_with_len 2 11) ++ (rule_at off (page_start 0) ∷ rule_at up_to_open (page_start (pages_of setup.zones)) ∷ rule_at off 0 ∷ []) in
    let first = ap (λ (b : Bool). if b then (covers (span 0 0) a && grants (record { 0 = 0 }) kind) else permits_after (page_start 0 / 4) (readable ∷ others) a kind) (nothing_there a) in
    let met : overlaps (span (4 * (page_start 0 / 4)) (4 * (page_start g / 4))) a ≡ true = inside_overlaps (4 * (page_start 0 / 4)) (4 * (page_start g / 4)) (page_start page + offset) (page_start page + offset + width) (omega arith) (omega arith) (omega arith) in
    let whole : covers (span (4 * (page_start 0 / 4)) (4 * (page_start g / 4))) a ≡ true = inside_covers (4 * (page_start 0 / 4)) (4 * (page_start g / 4)) (page_start page + offset) (page_start page + offset + width) (omega arith) (omega arith) in
    let second = ap (λ (b : Bool). if b then (covers (span (4 * (page_start 0 / 4)) (4 * (page_start g / 4))) a && grants (record { 0 = 1 }) kind) else permits_after readable.addr others a kind) met in
    first ∙ second ∙ ap (λ (b : Bool). b && grants (record { 0 = 1 }) kind) whole
