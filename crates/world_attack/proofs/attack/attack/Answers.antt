use Rattle.std.proofs.Common.{Some, ap, ◌∙◌, arith}
use Rattle.world_attack.proofs.LineLemmas.{lines_inside, backs_have_bytes}
use Rattle.world_attack.proofs.attack.attack.Goals as goal

pub write-requires-clause-inside : goal.write-requires-clause-inside
write-requires-clause-inside g c =
    rw c.as_slice.ensures ((lines_inside c.args.setup.now c.requires.rules).writes c.args.at c.in-Write.pa c.in-Write.bytes (c.requires.here ∙ ap Some c.in-Write.is)).0

pub write-requires-clause-byte_room : goal.write-requires-clause-byte_room
write-requires-clause-byte_room g c =
    let same = ((lines_inside c.args.setup.now c.requires.rules).writes c.args.at c.in-Write.pa c.in-Write.bytes (c.requires.here ∙ ap Some c.in-Write.is)).1 in
    rw c.as_slice.ensures (omega (arith, same, c.requires.byte_room))

pub keep-requires-clause-inside : goal.keep-requires-clause-inside
keep-requires-clause-inside g c =
    ((lines_inside c.args.setup.now c.requires.rules).keeps c.args.at c.in-Keep.pa c.in-Keep.len c.in-Keep.name (c.requires.here ∙ ap Some c.in-Keep.is)).0

pub keep-requires-clause-byte_room : goal.keep-requires-clause-byte_room
keep-requires-clause-byte_room g c =
    let same = ((lines_inside c.args.setup.now c.requires.rules).keeps c.args.at c.in-Keep.pa c.in-Keep.len c.in-Keep.name (c.requires.here ∙ ap Some c.in-Keep.is)).1 in
    omega (arith, same, c.requires.byte_room)

pub back-requires-clause-kept : goal.back-requires-clause-kept
back-requires-clause-kept g c =
    let here = c.requires.here ∙ ap Some c.in-Back.is in
    let it = backs_have_bytes c.args.setup.now c.args.history.now c.args.at c.in-Back.name c.requires.rules here (c.requires.kept c.in-Back.name here) in
    rw c.as_slice-in-Back.ensures (rw it.1 it.2)

pub back-requires-clause-byte_room : goal.back-requires-clause-byte_room
back-requires-clause-byte_room g c =
    let here = c.requires.here ∙ ap Some c.in-Back.is in
    let it = backs_have_bytes c.args.setup.now c.args.history.now c.args.at c.in-Back.name c.requires.rules here (c.requires.kept c.in-Back.name here) in
    rw c.as_slice-in-Back.ensures (rw it.1 (omega (arith, it.3, c.requires.byte_room)))
