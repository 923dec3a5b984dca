use Rattle.std.proofs.Common.{◌≡◌, ◌-◌, length, find}
use Rattle.std.specs.List.{range_with_len}
use Rattle.mon_enclave.specs.Records.{enclave_at}
use Rattle.mon_shadow.specs.Dropping.{first_child_of, is_child_of}
use Rattle.mon_shadow.proofs.dropping.first_child.Given as goal

abbrev pub invariant-loop-child : goal.invariant-loop-child
invariant-loop-child l =
    first_child_of l.enclaves l.s.0 ≡ find (λ child. is_child_of l.s.0 (enclave_at l.enclaves child)) (range_with_len l.child (length l.enclaves - l.child))
