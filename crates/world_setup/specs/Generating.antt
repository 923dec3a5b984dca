-- The setup of the generated load, by its number: four harts, each with four enclave numbers that sum the words sent to them.
use Rattle.std.specs.Prelude.{ℕ, zero, suc, ◌+◌, ◌*◌, ◌/◌, ◌%◌, ◌^◌, ◌==◌, List, [], ◌∷◌, ◌++◌, map, if◌then◌else◌}
use Rattle.std.specs.List.{range_with_len}
use Rattle.pl_base.specs.declared.number.EncNo.{EncNo}
use Rattle.mon_image.specs.declared.page.ImagePage.{ImagePage}
use Rattle.mon_image.specs.declared.image.Image.{Image}
use Rattle.pl_history.specs.declared.line.Line.{Line}
use Rattle.pl_history.specs.declared.line.Line.TheVariants as line
use Rattle.pl_history.specs.declared.setup.ChoiceName.TheVariants as choice_is
use Rattle.pl_history.specs.declared.setup.SetupParts.{SetupParts}
use Rattle.world_setup.specs.Images.{page_of_bytes}

-- the lists of the numbers below `count`, one after the other
unfoldable pub joined : {A : Type 0} → (ℕ → List A) → ℕ → List A
joined part zero = []
joined part (suc count) = joined part count ++ part count

-- ---- the words

-- a hart's state before its next word
unfoldable pub next_state : ℕ → ℕ
next_state state = (state * 6364136223846793005 + 1442695040888963407) % 2 ^ 64

-- the state so many words later
unfoldable pub state_after : ℕ → ℕ → ℕ
state_after state zero = state
state_after state (suc words) = next_state (state_after state words)

-- the word with a number, from 0, of those that are drawn from a state on
abbrev pub word_from : ℕ → ℕ → ℕ
word_from state number = state_after state (number + 1) / 2 ^ 32

-- ---- the lines of a hart

-- the enclave numbers of a hart, in their order
abbrev pub number_of : ℕ → ℕ → EncNo
number_of hart i = record { 0 = hart + 4 * i }

-- a number's first page; the second is the next
abbrev pub first_page : ℕ → ℕ
first_page e = 64 * (1 + e % 3) + 2 * e

abbrev pub creation : EncNo → Line
creation e = line.Create e 0 (first_page e.0 ∷ (first_page e.0 + 1) ∷ [])

-- the first round begins each number's run, and the others go on with it
abbrev pub entering : ℕ → EncNo → Line
entering round e = if round == 0 then line.Run e 1000 else line.Resume e 1000

-- eight words, from a state on
abbrev pub sends : EncNo → ℕ → List Line
sends e state = joined (λ k. line.Send e (word_from state k) ∷ []) 8

abbrev pub takes : EncNo → List Line
takes e = joined (λ k. line.Take e ∷ []) 8

-- a number's lines in a round
unfoldable pub number_round : ℕ → EncNo → ℕ → List Line
number_round round e state = sends e state ++ (entering round e ∷ takes e)

-- a round of a hart: its four numbers, each with the next eight words
unfoldable pub round_lines : ℕ → ℕ → ℕ → List Line
round_lines hart round state = joined (λ i. number_round round (number_of hart i) (state_after state (8 * i))) 4

-- the rounds of a hart, each with the next 32 words
unfoldable pub rounds_lines : ℕ → ℕ → List Line
rounds_lines hart state = joined (λ round. round_lines hart round (state_after state (32 * round))) 25

abbrev pub creations : ℕ → List Line
creations hart = joined (λ i. creation (number_of hart i) ∷ []) 4

abbrev pub destructions : ℕ → List Line
destructions hart = joined (λ i. line.Destroy (number_of hart i) ∷ []) 4

-- the state of a hart before its first word
abbrev pub first_state : ℕ → ℕ → ℕ
first_state n hart = n * 8 + hart

unfoldable pub hart_script : ℕ → ℕ → List Line
hart_script n hart = creations hart ++ (rounds_lines hart (first_state n hart) ++ destructions hart)

abbrev pub scripts_of : ℕ → List (List Line)
scripts_of n = map (hart_script n) (range_with_len 0 4)

-- ---- the image

-- RECV into x10; LD x8, -8(x2); ADD x8, x8, x10; SD x8, -8(x2); ADDI x10, x8, 0; SEND; and back to the first word
abbrev pub code : List ℕ
code =
    0x93 ∷ 0x08 ∷ 0x20 ∷ 0x00 ∷ 0x73 ∷ 0x00 ∷ 0x00 ∷ 0x00 ∷ 0x03 ∷ 0x34 ∷ 0x81 ∷ 0xff ∷ 0x33 ∷ 0x04 ∷ 0xa4 ∷ 0x00 ∷ 0x23 ∷ 0x3c ∷ 0x81 ∷ 0xfe ∷ 0x13 ∷ 0x05 ∷ 0x04 ∷ 0x00 ∷ 0x93 ∷ 0x08 ∷ 0x30
    ∷ 0x00 ∷ 0x73 ∷ 0x00 ∷ 0x00 ∷ 0x00 ∷ 0x6f ∷ 0xf0 ∷ 0x1f ∷ 0xfe ∷ []

-- a page that begins with these bytes and is then zero
unfoldable pub page_with : ℕ → List ℕ → ImagePage
page_with perms bytes = record { perms = record { 0 = perms }; bytes = page_of_bytes bytes }

-- a page to read and run, and one to read and write
abbrev pub summing_image : Image
summing_image = record { entry = 0x10000; pages = page_with 5 code ∷ page_with 3 [] ∷ [] }

-- ---- all of it

abbrev pub generated : ℕ → SetupParts
generated n = record {
  harts = 4;
  zones = 4;
  slots = 2;
  tables = 1;
  enclaves = 16;
  choice = choice_is.Oldest;
  pmp = [];
  order = [];
  images = summing_image ∷ [];
  lines = scripts_of n;
  attacker = [];
}
