-- Lines of words are read again once they are printed.
use Rattle.std.proofs.Common.{◌≡◌, ℕ, zero, suc, ◌+◌, ◌<◌, ◌≤◌, ◌==◌, ◌&&◌, not, nat_le, nat_lt, Bool, true, false, if◌then◌else◌, List, [], ◌∷◌, ◌++◌, length, map, flat_map, filter, codes, refl, ap, sym, subst, ◌∙◌, arith, append_assoc}
use Rattle.std.proofs.lemmas.Bool.{and_from, and_parts}
use Rattle.std.proofs.lemmas.Bool.Decides.{nat_tests}
use Rattle.std.proofs.lemmas.List.{length-append, length-map}
use Rattle.std.proofs.lemmas.List.Folds.{list_all-append}
use Rattle.std.proofs.lemmas.List.Splits.{slice_split_none, slice_split_at}
use Rattle.std.specs.Char.{is_ascii_graphic}
use Rattle.std.specs.List.{All, list_all, slice_split}
use Rattle.scenario.specs.{numbers_from, printed_line, spaced}
use Rattle.files.specs.{IsWithinLimits, begins_with, is_blank, is_said, is_short, lines, onto, said_numbers, said_words, words_of}

-- a byte or more, all of them printable and none a blank
abbrev pub is_word : List ℕ → Bool
is_word word = nat_lt 0 (length word) && list_all is_ascii_graphic word

-- whether there is a byte
abbrev has_byte : List ℕ → Bool
has_byte word = not (length word == 0)

-- in printable bytes there is no blank
no_blank : (word : List ℕ) → list_all is_ascii_graphic word ≡ true → All (λ b. is_blank b ≡ false) word
no_blank [] h k d within = absurd (omega arith)
no_blank (b ∷ bs) h zero d within = let first : is_ascii_graphic b ≡ true = grind (arith, nat_tests) in grind (arith, nat_tests)
no_blank (b ∷ bs) h (suc k) d within = let rest : list_all is_ascii_graphic bs ≡ true = grind (arith, nat_tests) in no_blank bs rest k d (omega arith)

-- the two halves of a word's test
some_of : (word : List ℕ) → is_word word ≡ true → 0 < length word
some_of word h = grind (arith, nat_tests)

printable_of : (word : List ℕ) → is_word word ≡ true → list_all is_ascii_graphic word ≡ true
printable_of word h = grind (arith, nat_tests)

-- a part that has a byte stays
kept : (word : List ℕ) (parts : List (List ℕ)) → 0 < length word → filter has_byte (word ∷ parts) ≡ word ∷ filter has_byte parts
kept word parts some = let is : not (length word == 0) ≡ true = grind (arith, nat_tests) in ap (λ t. if t then word ∷ filter has_byte parts else filter has_byte parts) is

-- Words with spaces between them are these words.
pub words_of_spaced : (ws : List (List ℕ)) → list_all is_word ws ≡ true → words_of (spaced ws) ≡ ws
words_of_spaced [] all = refl
words_of_spaced (w ∷ []) all =
    let word = (and_parts (is_word w) (list_all is_word []) all).0 in
    ap (filter has_byte) (slice_split_none is_blank w (no_blank w (printable_of w word))) ∙ kept w [] (some_of w word)
words_of_spaced (w ∷ v ∷ vs) all =
    let word = (and_parts (is_word w) (list_all is_word (v ∷ vs)) all).0 in
    ap (filter has_byte) (slice_split_at is_blank w 32 (spaced (v ∷ vs)) (no_blank w (printable_of w word)) refl)
    ∙ kept w (slice_split is_blank (spaced (v ∷ vs))) (some_of w word)
    ∙ ap (λ more. w ∷ more) (words_of_spaced (v ∷ vs) (and_parts (is_word w) (list_all is_word (v ∷ vs)) all).1)

-- no byte of a line's end
abbrev is_inner : ℕ → Bool
is_inner b = not (b == 10) && not (b == 13)

-- a line without such bytes
inner_line : (line rest : List ℕ) → list_all is_inner line ≡ true → lines (line ++ 10 ∷ rest) ≡ line ∷ lines rest
inner_line [] rest h = refl
inner_line (b ∷ bs) rest h =
    let feeds : (b == 10) ≡ false = grind (arith, nat_tests) in
    let returns : (b == 13) ≡ false = grind (arith, nat_tests) in
    let more : list_all is_inner bs ≡ true = grind (arith, nat_tests) in
    ap (λ s. if s then [] ∷ lines (bs ++ 10 ∷ rest) else if (b == 13) && begins_with 10 (bs ++ 10 ∷ rest) then lines (bs ++ 10 ∷ rest) else onto b (lines (bs ++ 10 ∷ rest))) feeds
    ∙ ap (λ s. if s && begins_with 10 (bs ++ 10 ∷ rest) then lines (bs ++ 10 ∷ rest) else onto b (lines (bs ++ 10 ∷ rest))) returns
    ∙ ap (onto b) (inner_line bs rest more)

-- printable bytes do not belong to a line's end
inner_word : (word : List ℕ) → list_all is_ascii_graphic word ≡ true → list_all is_inner word ≡ true
inner_word [] h = refl
inner_word (b ∷ bs) h =
    let first : is_ascii_graphic b ≡ true = grind (arith, nat_tests) in
    let rest : list_all is_ascii_graphic bs ≡ true = grind (arith, nat_tests) in
    let inner : is_inner b ≡ true = grind (arith, nat_tests) in
    ap (λ t. t && list_all is_inner bs) inner ∙ inner_word bs rest

-- words with spaces between them have no byte of a line's end
inner_spaced : (ws : List (List ℕ)) → list_all is_word ws ≡ true → list_all is_inner (spaced ws) ≡ true
inner_spaced [] all = refl
inner_spaced (w ∷ []) all = inner_word w (printable_of w ((and_parts (is_word w) (list_all is_word []) all).0))
inner_spaced (w ∷ v ∷ vs) all =
    list_all-append is_inner w (32 ∷ spaced (v ∷ vs))
    ∙ ap (λ t. t && list_all is_inner (32 ∷ spaced (v ∷ vs))) (inner_word w (printable_of w (and_parts (is_word w) (list_all is_word (v ∷ vs)) all).0))
    ∙ inner_spaced (v ∷ vs) (and_parts (is_word w) (list_all is_word (v ∷ vs)) all).1

-- the number of bytes of words, each with a space
abbrev pub size : List (List ℕ) → ℕ
size [] = 0
size (w ∷ ws) = length w + (1 + size ws)

pub length-spaced : (ws : List (List ℕ)) → length (spaced ws) ≤ size ws
length-spaced [] = omega arith
length-spaced (w ∷ []) = omega arith
length-spaced (w ∷ v ∷ vs) = let more : length (spaced (v ∷ vs)) ≤ size (v ∷ vs) = length-spaced (v ∷ vs) in let all : length (w ++ 32 ∷ spaced (v ∷ vs)) ≡ length w + length (32 ∷ spaced (v ∷ vs)) = length-append w (32 ∷ spaced (v ∷ vs)) in omega (arith, more, all)

-- a line of words that a file may have: it is not skipped, and it is not too long
pub record IsLine (ws : List (List ℕ)) : Type 0 where
  pub words : list_all is_word ws ≡ true
  pub said : is_said ws ≡ true
  pub short : size ws ≤ 128

-- a line that can be printed, as a test
abbrev pub is_printable : List (List ℕ) → Bool
is_printable ws = list_all is_word ws && (is_said ws && nat_le (size ws) 128)

pub printable_line : (ws : List (List ℕ)) → IsLine ws → is_printable ws ≡ true
printable_line ws is =
    let short : size ws ≤ 128 = is.short in
    and_from (list_all is_word ws) (is_said ws && nat_le (size ws) 128) is.words (and_from (is_said ws) (nat_le (size ws) 128) is.said (grind (arith, nat_tests)))

line_printable : (ws : List (List ℕ)) → is_printable ws ≡ true → IsLine ws
line_printable ws is =
    let parts = and_parts (list_all is_word ws) (is_said ws && nat_le (size ws) 128) is in
    let others = and_parts (is_said ws) (nat_le (size ws) 128) parts.1 in
    let short : nat_le (size ws) 128 ≡ true = others.1 in
    record { words = parts.0; said = others.0; short = grind (arith, nat_tests) }

-- printed words make these lines
pub lines_of_words : (all : List (List (List ℕ))) → list_all (list_all is_word) all ≡ true → lines (flat_map printed_line all) ≡ map spaced all
lines_of_words [] h = refl
lines_of_words (ws ∷ more) h =
    let parts = and_parts (list_all is_word ws) (list_all (list_all is_word) more) h in
    ap lines (append_assoc (spaced ws) (codes "\n") (flat_map printed_line more))
    ∙ inner_line (spaced ws) (flat_map printed_line more) (inner_spaced ws parts.0)
    ∙ ap (λ ls. spaced ws ∷ ls) (lines_of_words more parts.1)

-- printable lines are of words
pub printable_words : (all : List (List (List ℕ))) → list_all is_printable all ≡ true → list_all (list_all is_word) all ≡ true
printable_words [] h = refl
printable_words (ws ∷ more) h =
    let parts = and_parts (is_printable ws) (list_all is_printable more) h in
    and_from (list_all is_word ws) (list_all (list_all is_word) more) (line_printable ws parts.0).words (printable_words more parts.1)

-- the lines of a text of printed lines are these lines
lines_of_printed : (all : List (List (List ℕ))) → list_all is_printable all ≡ true → lines (flat_map printed_line all) ≡ map spaced all
lines_of_printed all h = lines_of_words all (printable_words all h)

-- no printed line is too long
short_lines : (all : List (List (List ℕ))) → list_all is_printable all ≡ true → list_all is_short (map spaced all) ≡ true
short_lines [] h = refl
short_lines (ws ∷ more) h =
    let parts = and_parts (is_printable ws) (list_all is_printable more) h in
    let within : length (spaced ws) ≤ size ws = length-spaced ws in
    let short : size ws ≤ 128 = (line_printable ws parts.0).short in
    let test : is_short (spaced ws) ≡ true = grind (arith, nat_tests) in
    and_from (is_short (spaced ws)) (list_all is_short (map spaced more)) test (short_lines more parts.1)

-- no printed line is skipped
said_lines : (all : List (List (List ℕ))) → list_all is_printable all ≡ true → filter is_said (map words_of (map spaced all)) ≡ all
said_lines [] h = refl
said_lines (ws ∷ more) h =
    let parts = and_parts (is_printable ws) (list_all is_printable more) h in
    let is = line_printable ws parts.0 in
    ap (λ w. filter is_said (w ∷ map words_of (map spaced more))) (words_of_spaced ws is.words)
    ∙ ap (λ t. if t then ws ∷ filter is_said (map words_of (map spaced more)) else filter is_said (map words_of (map spaced more))) is.said
    ∙ ap (λ ls. ws ∷ ls) (said_lines more parts.1)

-- Printed lines are within the limits, if they are few, and their words are these lines.
pub printed_limits : (all : List (List (List ℕ))) → list_all is_printable all ≡ true → length all ≤ 4096 → IsWithinLimits (flat_map printed_line all)
printed_limits all h few =
    let are = lines_of_printed all h in
    record {
      few = subst (λ n. n ≤ 4096) (sym (ap length are ∙ length-map all spaced)) few;
      short = ap (list_all is_short) are ∙ short_lines all h;
    }

pub printed_said : (all : List (List (List ℕ))) → list_all is_printable all ≡ true → said_words (flat_map printed_line all) ≡ all
printed_said all h = ap (λ ls. filter is_said (map words_of ls)) (lines_of_printed all h) ∙ said_lines all h

-- They have one number after the other.
one_by_one : (n : ℕ) (all : List (List (List ℕ))) → list_all is_printable all ≡ true → said_numbers n (map spaced all) ≡ numbers_from n (length all)
one_by_one n [] h = refl
one_by_one n (ws ∷ more) h =
    let parts = and_parts (is_printable ws) (list_all is_printable more) h in
    let is = line_printable ws parts.0 in
    ap (λ w. if is_said w then n ∷ said_numbers (n + 1) (map spaced more) else said_numbers (n + 1) (map spaced more)) (words_of_spaced ws is.words)
    ∙ ap (λ t. if t then n ∷ said_numbers (n + 1) (map spaced more) else said_numbers (n + 1) (map spaced more)) is.said
    ∙ ap (λ ns. n ∷ ns) (one_by_one (n + 1) more parts.1)

pub printed_one_by_one : (all : List (List (List ℕ))) → list_all is_printable all ≡ true → said_numbers 1 (lines (flat_map printed_line all)) ≡ numbers_from 1 (length all)
printed_one_by_one all h = ap (said_numbers 1) (lines_of_printed all h) ∙ one_by_one 1 all h
