use Rattle.std.proofs.Common.{ℕ, ◌+◌, ◌/◌, ◌<◌, length, take, arith, refl, subst, sym}
use Rattle.mem_ctl.specs.Start.{HasWords}
use Rattle.mem_ctl.proofs.StartWords.{words-next, words-none}
use Rattle.mem_ctl.proofs.start.write_words.Goals as goal

pub loop-i-init : goal.loop-i-init
loop-i-init c = record { stand = words-none (length c.args.memory.now / 4096) c.args.memory.now (omega arith) c.requires.zero; size = refl }

pub loop-i-preserved : goal.loop-i-preserved
loop-i-preserved c =
    let words = c.args.words.now in
    let i : ℕ = c.loop-i.i in
    let below : c.loop-i.i < length c.args.words.now = omega arith in
    record {
      stand = subst (HasWords (length c.args.memory.now / 4096) (take (c.loop-i.i + 1) c.args.words.now)) (sym c.write_word.ensures.bytes)
          (words-next words i (length c.args.memory.now / 4096) c.loop-i.memory below c.loop-i.invariant.stand c.requires.words (omega (arith, c.loop-i.invariant.size)) (0, 0, 0));
      size = omega arith;
    }
