use Rattle.std.proofs.Common.{◌≤◌, ◌*◌, ◌/◌, ◌∙◌, length, arith, subst, sym, ap}
use Rattle.pl_base.proofs.ListedWords.{AreWordsOf-more}
use Rattle.mem_ctl.specs.Data.{CtlData}
use Rattle.mem_ctl.specs.Start.{HasWords}
use Rattle.mem_ctl.specs.TreesHold.{IsKept}
use Rattle.mem_ctl.proofs.TreeMemory.{made-is, start_data-IsKept, start_data-words}
use Rattle.mem_ctl.proofs.ctl.Ctl.new.Goals as goal

pub write_words-requires-clause-words : goal.write_words-requires-clause-words
write_words-requires-clause-words g c =
    let many : 64 * c.args.zones ≤ length c.in_ok-off_chip.off_chip / 4096 = omega (arith, c.in_ok-off_chip.ensures.size) in
    AreWordsOf-more (64 * c.args.zones) (length c.in_ok-off_chip.off_chip / 4096) c.args.start.now many c.requires.words

pub invariant_of-result : goal.invariant_of-result
invariant_of-result g c =
    let d = g.D.Digester.digest_of in
    let law = g.met.D.Digester.digest_length in
    let many : 64 * c.args.zones ≤ length c.in_ok-off_chip.off_chip / 4096 = omega (arith, c.in_ok-off_chip.ensures.size) in
    let most : 4096 * (length c.in_ok-off_chip.off_chip / 4096) ≤ length c.write_words.new.memory = omega (arith, c.write_words.ensures.size) in
    let is = made-is d law c.args.zones c.requires.zones c.args.start.now c.write_words.new.memory (c.write_words.ensures.size ∙ c.in_ok-off_chip.ensures.size)
    (length c.in_ok-off_chip.off_chip / 4096) many most c.write_words.ensures.words
    c.args.slots c.new-2.result c.write_trees-root.new.memory c.in_ok-mirror.mirror c.write_trees-root.result c.new-2.ensures c.in_ok-mirror.ensures c.write_trees-root.ensures.bytes c.write_trees-root.ensures.root in
    subst (IsKept d) (sym is) (start_data-IsKept d law c.args.zones c.args.slots c.args.start.now c.requires.zones c.requires.slot c.requires.slots)

pub returns-clause-start : goal.returns-clause-start
returns-clause-start g c =
    let many : 64 * c.args.zones ≤ length c.in_ok-off_chip.off_chip / 4096 = omega (arith, c.in_ok-off_chip.ensures.size) in
    let most : 4096 * (length c.in_ok-off_chip.off_chip / 4096) ≤ length c.write_words.new.memory = omega (arith, c.write_words.ensures.size) in
    let is = made-is g.D.Digester.digest_of g.met.D.Digester.digest_length c.args.zones c.requires.zones c.args.start.now c.write_words.new.memory (c.write_words.ensures.size ∙ c.in_ok-off_chip.ensures.size)
    (length c.in_ok-off_chip.off_chip / 4096) many most c.write_words.ensures.words
    c.args.slots c.new-2.result c.write_trees-root.new.memory c.in_ok-mirror.mirror c.write_trees-root.result c.new-2.ensures c.in_ok-mirror.ensures c.write_trees-root.ensures.bytes c.write_trees-root.ensures.root in
    ap (λ (x : CtlData). (x, c.args.choice)) is

pub returns-clause-words : goal.returns-clause-words
returns-clause-words g c =
    let d = g.D.Digester.digest_of in
    let law = g.met.D.Digester.digest_length in
    let many : 64 * c.args.zones ≤ length c.in_ok-off_chip.off_chip / 4096 = omega (arith, c.in_ok-off_chip.ensures.size) in
    let most : 4096 * (length c.in_ok-off_chip.off_chip / 4096) ≤ length c.write_words.new.memory = omega (arith, c.write_words.ensures.size) in
    let is = made-is d law c.args.zones c.requires.zones c.args.start.now c.write_words.new.memory (c.write_words.ensures.size ∙ c.in_ok-off_chip.ensures.size)
    (length c.in_ok-off_chip.off_chip / 4096) many most c.write_words.ensures.words
    c.args.slots c.new-2.result c.write_trees-root.new.memory c.in_ok-mirror.mirror c.write_trees-root.result c.new-2.ensures c.in_ok-mirror.ensures c.write_trees-root.ensures.bytes c.write_trees-root.ensures.root in
    subst (λ (x : CtlData). HasWords (64 * c.args.zones) c.args.start.now x.mirror) (sym is) (start_data-words d law c.args.zones c.args.start.now c.requires.zones)
