-- The owners of all pages as a list: that of page p stands at place p.
use Rattle.std.specs.Prelude.{ℕ, ◌+◌, ◌-◌, ◌^◌, nat_lt, Bool, true, false, if◌then◌else◌, List, ◌++◌, length, map, replicate, slice_get, unwrap_or}
use Rattle.std.specs.List.{range_with_len}
use Rattle.pl_base.specs.Pages.{is_among}
use Rattle.mon_owner.specs.declared.owners.Owner.{Owner}
use Rattle.mon_owner.specs.declared.owners.Owner.TheVariants.{Guard, Host}

-- guarded pages first, and then those of the host, with no mappings
abbrev pub first_owners : ℕ → ℕ → List Owner
first_owners guard pages = replicate guard Guard ++ replicate (pages - guard) (Host 0)

-- the owner of a page; past the pool nobody's, as a guarded one
abbrev pub owner_at : List Owner → ℕ → Owner
owner_at owners page = unwrap_or (slice_get owners page) Guard

-- these pages have this owner, and each other page its own
unfoldable pub given_to : List Owner → List ℕ → Owner → List Owner
given_to owners pages to = map (λ page. if is_among pages page then to else owner_at owners page) (range_with_len 0 (length owners))

-- a page of the host, mapped or not
abbrev pub is_host : Owner → Bool
is_host (Host maps) = true
is_host _ = false

-- a host page with fewer mappings than may be counted
abbrev pub may_be_mapped : Owner → Bool
may_be_mapped (Host maps) = nat_lt maps (2 ^ 32 - 1)
may_be_mapped _ = false

-- a host page with a mapping
abbrev pub is_mapped : Owner → Bool
is_mapped (Host maps) = nat_lt 0 maps
is_mapped _ = false

abbrev pub mapped_once_more : Owner → Owner
mapped_once_more (Host maps) = Host (maps + 1)
mapped_once_more owner = owner

abbrev pub mapped_once_less : Owner → Owner
mapped_once_less (Host maps) = Host (maps - 1)
mapped_once_less owner = owner
