use Rattle.std.proofs.Common.{arith}
use Rattle.pl_io.proofs.Rooms.{hex_room}
use Rattle.pl_io.proofs.numbers.read_hex.Goals as goal

pub overflow_mul-value : goal.overflow_mul-value
overflow_mul-value c = omega (arith, hex_room c.loop-byte.value c.loop-byte.byte-index c.loop-byte.invariant.fits (omega arith))

pub overflow_add-value : goal.overflow_add-value
overflow_add-value c = omega (arith, hex_room c.loop-byte.value c.loop-byte.byte-index c.loop-byte.invariant.fits (omega arith), c.in_ok-digit.ensures.small, c.from.ensures)
