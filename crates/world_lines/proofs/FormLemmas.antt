-- Each line that a text gives has the form that every setup's lines have.
use Rattle.std.proofs.Common.{◌≡◌, ℕ, ◌*◌, ◌&&◌, nat_le, true, List, [], ◌∷◌, length, codes, Option, Some, None, option_and_then, Result, Ok, Err, refl, sym, ap, ◌∙◌, sum_by, arith, length-append}
use Rattle.std.specs.Str.{bytes_eq}
use Rattle.std.specs.List.{list_all, flat_map}
use Rattle.std.proofs.lemmas.Bool.Decides.{nat_tests}
use Rattle.std.proofs.lemmas.List.FromFn.{length-range_with_len}
use Rattle.std.proofs.lemmas.List.Sums.{sum_by-cons}
use Rattle.hex.specs.Hex.{decode_of}
use Rattle.hex.specs.declared.error.FromHexError.{FromHexError}
use Rattle.hex.proofs.HexLemmas.{decode_of-ok}
use Rattle.std.proofs.lemmas.Bool.{and_parts}
use Rattle.pl_base.specs.declared.perms.Perms.{Perms}
use Rattle.pl_io.specs.Numbers.{is_hex_digit, hex_value, dec_value}
use Rattle.pl_history.specs.declared.line.Line.{Line}
use Rattle.pl_history.specs.declared.line.Line.TheVariants as line
use Rattle.pl_history.specs.declared.line.AttackLine.{AttackLine}
use Rattle.pl_history.specs.declared.line.AttackLine.TheVariants as attack
use Rattle.pl_base.specs.Perms.{are_page_perms}
use Rattle.pl_history.specs.Rules.{is_within, is_page_list, is_line, is_attack_line, is_name}
use Rattle.world_lines.specs.declared.page_lists.PageRange.{PageRange}
use Rattle.world_lines.specs.Words.{parts_of, words_of}
use Rattle.world_lines.specs.Arguments.{within, small_number_of, short_of, enclave_of, budget_of, length_of, address_of, perms_of_text, decoded, bytes_of_hex, hex_bytes_of, name_of}
use Rattle.world_lines.specs.PageLists.{all_ranges, range_length, range_pages, pages_of_ranges, page_list_of}
use Rattle.world_lines.specs.Forms.{line_of_one, line_of_two, line_of_three, line_of_words, line_of, attack_line_of_one, attack_line_of_two, attack_line_of_three, attack_line_of_words, attack_line_of}
use Rattle.world_lines.proofs.Passes.{Passes, none_passes, some_passes, if_passes, guarded_passes, map_passes, both_passes, three_pass}

-- ---- arguments

pub within_passes : (low high : ℕ) (o : Option ℕ) → Passes (is_within low high) (within low high o)
within_passes low high None = none_passes (is_within low high)
within_passes low high (Some n) = guarded_passes (is_within low high) (is_within low high n) (Some n) (λ pass. some_passes (is_within low high) n pass)

at_least_1 : (text : List ℕ) (n : ℕ) → budget_of text ≡ Some n → nat_le 1 n ≡ true
at_least_1 text n is = (and_parts (nat_le 1 n) (nat_le n 0xffff_ffff) (within_passes 1 0xffff_ffff (dec_value text) n is)).0

pub perms_pass : (text : List ℕ) → Passes (λ (p : Perms). are_page_perms p) (perms_of_text text)
perms_pass text =
    let test = λ (p : Perms). are_page_perms p in
    if_passes test (bytes_eq text (codes "r")) _ _ (some_passes test (record { 0 = 1 }) refl)
    (if_passes test (bytes_eq text (codes "rw")) _ _ (some_passes test (record { 0 = 3 }) refl)
    (if_passes test (bytes_eq text (codes "rx")) _ _ (some_passes test (record { 0 = 5 }) refl)
    (if_passes test (bytes_eq text (codes "rwx")) _ _ (some_passes test (record { 0 = 7 }) refl) (none_passes test))))

length_of_ranges : (ranges : List PageRange) → length (flat_map range_pages ranges) ≡ sum_by range_length ranges
length_of_ranges [] = refl
length_of_ranges (range ∷ ranges) =
    rw (length-append (range_pages range) (flat_map range_pages ranges), length-range_with_len range.first (range_length range), length_of_ranges ranges) (sym (sum_by-cons range_length range ranges))

ranges_pass : (o : Option (List PageRange)) → Passes is_page_list (option_and_then pages_of_ranges o)
ranges_pass None = none_passes is_page_list
ranges_pass (Some ranges) =
    guarded_passes is_page_list (nat_le (sum_by range_length ranges) 512) (Some (flat_map range_pages ranges)) (λ few.
    some_passes is_page_list (flat_map range_pages ranges) (ap (λ n. nat_le n 512) (length_of_ranges ranges) ∙ few))

pages_pass : (text : List ℕ) → Passes is_page_list (page_list_of text)
pages_pass text =
    if_passes is_page_list (bytes_eq text (codes "-")) (Some []) (option_and_then pages_of_ranges (all_ranges (parts_of 44 text))) (some_passes is_page_list [] refl)
    (ranges_pass (all_ranges (parts_of 44 text)))

half : (text bytes : ℕ) → nat_le 1 text ≡ true → nat_le text 8192 ≡ true → text ≡ 2 * bytes → is_within 1 4096 bytes ≡ true
half text bytes low high is = grind (arith, nat_tests)

decoded_pass : (text : List ℕ) (r : Result (List ℕ) FromHexError) → decode_of text ≡ r → nat_le 1 (length text) ≡ true → nat_le (length text) 8192 ≡ true
    → Passes (λ (bytes : List ℕ). is_within 1 4096 (length bytes)) (decoded r)
decoded_pass text (Err e) is low high = none_passes (λ (bytes : List ℕ). is_within 1 4096 (length bytes))
decoded_pass text (Ok bytes) is low high =
    some_passes (λ (bytes : List ℕ). is_within 1 4096 (length bytes)) bytes (half (length text) (length bytes) low high (decode_of-ok text bytes is).2)

hex_bytes_pass : (text : List ℕ) → Passes (λ (bytes : List ℕ). is_within 1 4096 (length bytes)) (hex_bytes_of text)
hex_bytes_pass text =
    let test = λ (bytes : List ℕ). is_within 1 4096 (length bytes) in
    guarded_passes test (nat_le 1 (length text)) (bytes_of_hex text) (λ low.
    guarded_passes test (nat_le (length text) 8192 && list_all is_hex_digit text) (decoded (decode_of text)) (λ all.
    decoded_pass text (decode_of text) refl low (and_parts (nat_le (length text) 8192) (list_all is_hex_digit text) all).0))

name_passes : (text : List ℕ) → Passes is_name (name_of text)
name_passes text = guarded_passes is_name (is_name text) (Some text) (λ pass. some_passes is_name text pass)

-- ---- lines of a hart

one_passes : (word a : List ℕ) → Passes is_line (line_of_one word a)
unfolding line_of_one
one_passes word a =
    if_passes is_line (bytes_eq word (codes "load")) _ _ (map_passes is_line (λ va. line.Load va) (address_of a) (λ va _. refl))
    (if_passes is_line (bytes_eq word (codes "unmap")) _ _ (map_passes is_line (λ va. line.Unmap va) (address_of a) (λ va _. refl))
    (if_passes is_line (bytes_eq word (codes "take")) _ _ (map_passes is_line (λ e. line.Take e) (enclave_of a) (λ e _. refl))
    (if_passes is_line (bytes_eq word (codes "destroy")) _ _ (map_passes is_line (λ e. line.Destroy e) (enclave_of a) (λ e _. refl))
    (if_passes is_line (bytes_eq word (codes "drop")) _ _ (map_passes is_line (λ s. line.Drop s) (enclave_of a) (λ s _. refl)) (none_passes is_line)))))

two_pass : (word a b : List ℕ) → Passes is_line (line_of_two word a b)
unfolding line_of_two
two_pass word a b =
    if_passes is_line (bytes_eq word (codes "store")) _ _ (both_passes is_line (λ va w. line.Store va w) (address_of a) (hex_value b) (λ va w _. refl))
    (if_passes is_line (bytes_eq word (codes "grant")) _ _ (both_passes is_line (λ e page. line.Grant e page) (enclave_of a) (small_number_of b) (λ e page _. refl))
    (if_passes is_line (bytes_eq word (codes "run")) _ _ (both_passes is_line (λ e budget. line.Run e budget) (enclave_of a) (budget_of b) (λ e budget is. at_least_1 b budget is))
    (if_passes is_line (bytes_eq word (codes "resume")) _ _ (both_passes is_line (λ e budget. line.Resume e budget) (enclave_of a) (budget_of b) (λ e budget is. at_least_1 b budget is))
    (if_passes is_line (bytes_eq word (codes "send")) _ _ (both_passes is_line (λ e w. line.Send e w) (enclave_of a) (hex_value b) (λ e w _. refl))
    (if_passes is_line (bytes_eq word (codes "after")) _ _ (both_passes is_line (λ j k. line.After j k) (short_of a) (small_number_of b) (λ j k _. refl)) (none_passes is_line))))))

three_passes : (word a b c : List ℕ) → Passes is_line (line_of_three word a b c)
unfolding line_of_three
three_passes word a b c =
    if_passes is_line (bytes_eq word (codes "map")) _ _
    (three_pass is_line (λ va page perms. line.Map va page perms) (address_of a) (small_number_of b) (perms_of_text c) (λ va page perms _ is. perms_pass c perms is))
    (if_passes is_line (bytes_eq word (codes "create")) _ _
    (three_pass is_line (λ e image pages. line.Create e image pages) (enclave_of a) (short_of b) (page_list_of c) (λ e image pages _ is. pages_pass c pages is))
    (if_passes is_line (bytes_eq word (codes "shadow")) _ _
    (three_pass is_line (λ e image pages. line.Shadow e image pages) (enclave_of a) (short_of b) (page_list_of c) (λ e image pages _ is. pages_pass c pages is))
    (if_passes is_line (bytes_eq word (codes "fork")) _ _
    (three_pass is_line (λ s e pages. line.Fork s e pages) (enclave_of a) (enclave_of b) (page_list_of c) (λ s e pages _ is. pages_pass c pages is)) (none_passes is_line))))

words_pass : (words : List (List ℕ)) → Passes is_line (line_of_words words)
words_pass [] = none_passes is_line
words_pass (word ∷ []) = none_passes is_line
words_pass (word ∷ a ∷ []) = one_passes word a
words_pass (word ∷ a ∷ b ∷ []) = two_pass word a b
words_pass (word ∷ a ∷ b ∷ c ∷ []) = three_passes word a b c
words_pass (word ∷ a ∷ b ∷ c ∷ d ∷ more) = none_passes is_line

pub line_has_form : (text : List ℕ) (found : Line) → line_of text ≡ Some found → is_line found ≡ true
unfolding line_of
line_has_form text = words_pass (words_of text)

-- ---- lines of the attacker

attack_one_passes : (word a : List ℕ) → Passes is_attack_line (attack_line_of_one word a)
attack_one_passes word a =
    if_passes is_attack_line (bytes_eq word (codes "back")) _ _ (map_passes is_attack_line (λ name. attack.Back name) (name_of a) (λ name is. name_passes a name is)) (none_passes is_attack_line)

attack_two_pass : (word a b : List ℕ) → Passes is_attack_line (attack_line_of_two word a b)
attack_two_pass word a b =
    if_passes is_attack_line (bytes_eq word (codes "after")) _ _ (both_passes is_attack_line (λ j k. attack.After j k) (short_of a) (small_number_of b) (λ j k _. refl))
    (if_passes is_attack_line (bytes_eq word (codes "write")) _ _
    (both_passes is_attack_line (λ pa bytes. attack.Write pa bytes) (hex_value a) (hex_bytes_of b) (λ pa bytes is. hex_bytes_pass b bytes is)) (none_passes is_attack_line))

attack_three_pass : (word a b c : List ℕ) → Passes is_attack_line (attack_line_of_three word a b c)
attack_three_pass word a b c =
    if_passes is_attack_line (bytes_eq word (codes "keep")) _ _
    (three_pass is_attack_line (λ name pa len. attack.Keep name pa len) (name_of a) (hex_value b) (length_of c) (λ name pa len is_name_of is_length.
    rw (name_passes a name is_name_of, within_passes 1 4096 (dec_value c) len is_length) refl)) (none_passes is_attack_line)

attack_words_pass : (words : List (List ℕ)) → Passes is_attack_line (attack_line_of_words words)
attack_words_pass [] = none_passes is_attack_line
attack_words_pass (word ∷ []) = none_passes is_attack_line
attack_words_pass (word ∷ a ∷ []) = attack_one_passes word a
attack_words_pass (word ∷ a ∷ b ∷ []) = attack_two_pass word a b
attack_words_pass (word ∷ a ∷ b ∷ c ∷ []) = attack_three_pass word a b c
attack_words_pass (word ∷ a ∷ b ∷ c ∷ d ∷ more) = none_passes is_attack_line

pub attack_line_has_form : (text : List ℕ) (found : AttackLine) → attack_line_of text ≡ Some found → is_attack_line found ≡ true
unfolding attack_line_of
attack_line_has_form text = attack_words_pass (words_of text)
