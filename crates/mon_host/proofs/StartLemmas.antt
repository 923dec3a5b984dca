-- Memory with the start words stands for the empty space.
use Rattle.std.proofs.Common.{ℕ, ◌≡◌, ◌+◌, ◌-◌, ◌*◌, ◌/◌, ◌%◌, ◌^◌, ◌<◌, ◌≤◌, Bool, true, false, cond, List, [], ◌∷◌, map, find, All, get_or, Option, Some, ap, ◌∙◌, arith, lit<}
use Rattle.std.specs.List.{range_with_len}
use Rattle.std.specs.Option.{option_map_or}
use Rattle.std.proofs.lemmas.List.Elements.{All-cons, All-head, All-map, All-tail}
use Rattle.std.proofs.lemmas.List.FromFn.{get_or-range_with_len, length-range_with_len}
use Rattle.byteorder.specs.Endian.{little_number}
use Rattle.pl_base.specs.ListedWords.{listed_word, stands_at}
use Rattle.mem_ctl.specs.Writes.{word_at}
use Rattle.mon_tables.specs.SpaceWalks.{StartsEmpty, word_address}
use Rattle.mon_tables.specs.Tables.{start_words}
use Rattle.mon_tables.specs.Words.{pointer_word}
use Rattle.mon_host.specs.Laws.{StartsInEmptySpace, mirror_words}
use Rattle.mon_host.proofs.SpaceLemmas.{read_back}

abbrev value_of : ℕ × ℕ × ℕ → ℕ
value_of w = w.2

abbrev Fits : ℕ × ℕ × ℕ → Type 0
Fits w = w.2 < 2 ^ 64

by_test : (b : Bool) (w : ℕ × ℕ × ℕ) (later : Option (ℕ × ℕ × ℕ)) → Fits w → option_map_or value_of later 0 < 2 ^ 64 → option_map_or value_of (cond b (Some w) later) 0 < 2 ^ 64
by_test true w later fits rest = fits
by_test false w later fits rest = rest

-- a word that is found fits
found_fits : (test : ℕ × ℕ × ℕ → Bool) (words : List (ℕ × ℕ × ℕ)) → All Fits words → option_map_or value_of (find test words) 0 < 2 ^ 64
found_fits test [] fit = lit< tt
found_fits test (w ∷ words) fit = by_test (test w) w (find test words) (All-head Fits w words fit) (found_fits test words (All-tail Fits w words fit))

start_fits : (tables : ℕ) → tables ≤ 32 → All Fits (start_words tables)
start_fits tables few =
    All-cons Fits (0, 0, pointer_word 1) (map (λ i. (1, 8 * i, pointer_word (2 + i))) (range_with_len 0 tables)) (lit< tt)
    (All-map Fits (λ i. (1, 8 * i, pointer_word (2 + i))) (range_with_len 0 tables)
    (λ k d below. let at : get_or (range_with_len 0 tables) k d ≡ 0 + k = get_or-range_with_len 0 tables k d (omega (arith, length-range_with_len 0 tables)) in omega (arith, length-range_with_len 0 tables)))

pub starts_in_empty_space : StartsEmpty → StartsInEmptySpace
starts_in_empty_space empty tables x few guarded words = empty tables (mirror_words x) few (λ page k below small.
    let address : ℕ = word_address page k in
    let page_is : address / 4096 - 0x80000 ≡ page = omega arith in
    let at_is : address % 4096 ≡ 8 * k = omega arith in
    ap (λ n. word_at x.mirror n (address % 4096)) page_is ∙ ap (word_at x.mirror page) at_is ∙ ap (little_number 8) (words page k (omega arith) small)
    ∙ read_back (listed_word (start_words tables) page (8 * k)) (found_fits (stands_at page (8 * k)) (start_words tables) (start_fits tables few)))
