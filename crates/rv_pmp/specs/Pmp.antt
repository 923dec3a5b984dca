-- The decision of a list of rules (RISC-V Privileged Architecture, Physical Memory Protection, Priority and Matching Logic).
use Rattle.std.specs.Prelude.{ℕ, ◌+◌, ◌*◌, ◌%◌, ◌<◌, ◌≤◌, ◌≡◌, Bool, false, IsTrue, ◌&&◌, if◌then◌else◌, List, [], ◌∷◌}
use Rattle.std.specs.List.{list_all, range_with_len}
use Rattle.pl_base.specs.Perms.{grants}
use Rattle.pl_base.specs.Width.{is_width}
use Rattle.pl_base.specs.declared.access.Kind.{Kind}
use Rattle.pl_base.specs.declared.access.Kind.TheVariants.{Fetch, Load, Store}
use Rattle.mem_geom.specs.Layout.{page_start}
use Rattle.rv_pmp.specs.Rule.{perms_of, span_of}
use Rattle.pl_base.specs.Span.{span, overlaps, covers}
use Rattle.rv_pmp.specs.declared.rule.Rule.{Rule}
use Rattle.pl_base.specs.declared.span.Span.{Span}

-- The first rule that matches a byte of the access decides: it has to match every byte, and to have the bit of the kind.
-- Where none matches, the access is refused. `before` is the register of the rule before these.
abbrev pub permits_after : ℕ → List Rule → Span → Kind → Bool
permits_after before [] access kind = false
permits_after before (rule ∷ rules) access kind =
    if overlaps (span_of before rule) access
    then covers (span_of before rule) access && grants (perms_of rule) kind
    else permits_after rule.addr rules access kind

-- whether the rules let an access of `width` bytes at `pa` through
abbrev pub permits : List Rule → ℕ → ℕ → Kind → Bool
permits rules pa width kind = permits_after 0 rules (span pa (pa + width)) kind

-- each of the first so many eight-byte pieces from an address on is let through for all three kinds
unfoldable pub pieces_allowed : List Rule → ℕ → ℕ → Bool
pieces_allowed rules start count =
    list_all (λ piece. list_all (permits rules (start + 8 * piece) 8) (Fetch ∷ Load ∷ Store ∷ [])) (range_with_len 0 count)

-- the 512 pieces of a page of off-chip memory are
abbrev pub page_allowed : List Rule → ℕ → Bool
page_allowed rules page = pieces_allowed rules (page_start page) 512

-- the same as a fact: every aligned eight-byte piece of the page is let through for all three kinds
abbrev pub PageAllowed : List Rule → ℕ → Type 0
PageAllowed rules page =
    (piece : ℕ) → piece < 512 → (kind : Kind) → IsTrue (permits rules (page_start page + 8 * piece) 8 kind)

-- every aligned access inside the page is let through
abbrev pub AccessesAllowed : List Rule → ℕ → Type 0
AccessesAllowed rules page =
    (pa width : ℕ) (kind : Kind) → IsTrue (is_width width) → pa % width ≡ 0
    → page_start page ≤ pa → pa < page_start page + 4096 → IsTrue (permits rules pa width kind)
