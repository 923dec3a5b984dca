use Rattle.std.proofs.Common.{◌≡◌, ◌+◌, ◌*◌, [], ◌∷◌, ◌++◌, length, arith, ap, sym, ◌∙◌, lit<, subst}
use Rattle.pl_base.specs.ListedWords.{AreWordsOf}
use Rattle.mon_tables.specs.Tables.{start_words}
use Rattle.mon_tables.specs.Words.{pointer_word}
use Rattle.mon_tables.proofs.StartWords.{length-start_words, start_words-AreWordsOf, start_words-more}
use Rattle.mon_tables.proofs.host_tables.start_words.Goals as goal

pub push-requires-in-loop-i : goal.push-requires-in-loop-i
push-requires-in-loop-i c =
    let size : length c.loop-i.words.items ≡ c.loop-i.i + 1 = ap length c.loop-i.invariant ∙ length-start_words c.loop-i.i in
    (lit< tt, omega (arith, size))

pub loop-i-preserved : goal.loop-i-preserved
loop-i-preserved c =
    c.push-in-loop-i.ensures.items
    ∙ (ap (λ ws. ws ++ (1, 8 * c.from.result, c.pointer_word-in-loop-i.result) ∷ []) c.loop-i.invariant
    ∙ (ap (λ n. start_words c.loop-i.i ++ (1, 8 * n, c.pointer_word-in-loop-i.result) ∷ []) c.from.ensures
    ∙ (ap (λ w. start_words c.loop-i.i ++ (1, 8 * c.loop-i.i, w) ∷ []) (c.pointer_word-in-loop-i.ensures ∙ ap (λ n. pointer_word (2 + n)) c.from-in-loop-i.ensures)
    ∙ sym (start_words-more c.loop-i.i))))

pub returns-clause-words : goal.returns-clause-words
returns-clause-words c =
    let end : c.loop-i.i ≡ c.args.tables = omega arith in
    subst (AreWordsOf 2) (sym (c.loop-i.invariant ∙ ap start_words end)) (start_words-AreWordsOf c.args.tables c.requires)
