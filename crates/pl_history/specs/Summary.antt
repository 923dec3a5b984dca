-- The printed summary of a history: how many lines are answered, how many words were taken, and the exclusive or of these words.
use Rattle.std.specs.Prelude.{ℕ, Bool, true, false, List, ◌++◌, length, codes, decimal, Option, Some, None, bit_xor}
use Rattle.std.specs.List.{filter_map, fold, count_by}
use Rattle.pl_io.specs.Numbers.{hex_text}
use Rattle.pl_history.specs.declared.answer.Answer.{Answer}
use Rattle.pl_history.specs.declared.answer.Answer.TheVariants as answer_is
use Rattle.pl_history.specs.declared.answer.Entry.{Entry}
use Rattle.pl_history.specs.Text.{line_end}

-- after Begun a line is under way, and any other answer answers it
abbrev pub answers_its_line : Answer → Bool
answers_its_line answer_is.Begun = false
answers_its_line _ = true

abbrev pub word_of_answer : Answer → Option ℕ
word_of_answer (answer_is.Word word) = Some word
word_of_answer _ = None

abbrev pub answered_lines : List Entry → ℕ
answered_lines entries = count_by (λ entry. answers_its_line entry.answer) entries

abbrev pub taken_words : List Entry → List ℕ
taken_words entries = filter_map (λ entry. word_of_answer entry.answer) entries

abbrev pub exclusive_or : List ℕ → ℕ
exclusive_or words = fold bit_xor 0 words

-- three lines, each of a name and a number
abbrev pub summary_text : List Entry → List ℕ
summary_text entries =
    codes "lines " ++ (decimal (answered_lines entries) ++ (line_end ++
    (codes "words " ++ (decimal (length (taken_words entries)) ++ (line_end ++
    (codes "xor " ++ (hex_text (exclusive_or (taken_words entries)) ++ line_end)))))))
