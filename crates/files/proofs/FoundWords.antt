-- The words of a line, one after the other.
use Rattle.std.proofs.Common.{◌≡◌, ℕ, ◌+◌, ◌<◌, ◌≤◌, ◌==◌, not, nat_lt, Bool, true, false, cond, List, [], ◌∷◌, ◌++◌, length, filter, Option, Some, None, refl, ap, sym, ◌∙◌, append_assoc, append-nil, arith}
use Rattle.std.proofs.lemmas.Bool.Decides.{nat_tests}
use Rattle.std.proofs.lemmas.List.{length-drop, map-append, take_all, drop_all}
use Rattle.std.proofs.lemmas.List.Splits.{slice_split_none, slice_split_first}
use Rattle.std.proofs.lemmas.List.Sums.{fails_before_first, prefix_len-le-length}
use Rattle.std.specs.Borrow.{Bor}
use Rattle.std.specs.List.{after_first, before_first, position, position_or_len, slice_split}
use Rattle.std.specs.Option.{unwrap_or}
use Rattle.files.specs.{is_blank, texts, words_of}

-- the position of the first blank, or the number of bytes if there is no blank
pub place_or_all : (line : List ℕ) (place : Option ℕ) → place ≡ position is_blank line → unwrap_or place (length line) ≡ position_or_len is_blank line
place_or_all line place found = ap (λ o. unwrap_or o (length line)) found ∙ by (nat_lt (position_or_len is_blank line) (length line)) refl
  where
    by : (b : Bool) → nat_lt (position_or_len is_blank line) (length line) ≡ b → unwrap_or (cond b (Some (position_or_len is_blank line)) None) (length line) ≡ position_or_len is_blank line
    by true within = refl
    by false within =
        let all : length line ≤ position_or_len is_blank line = grind (arith, nat_tests) in
        omega (arith, all, prefix_len-le-length (λ b. not (is_blank b)) line)

-- a word has a byte
abbrev has_byte : List ℕ → Bool
has_byte word = not (length word == 0)

-- a line with a blank is cut at the first blank
cut : (line : List ℕ) → position_or_len is_blank line < length line → words_of line ≡ filter has_byte (before_first is_blank line ∷ []) ++ words_of (after_first is_blank line)
cut line within = ap (filter has_byte) (slice_split_first is_blank line 0 within) ∙ onto (has_byte (before_first is_blank line))
  where
    onto : (b : Bool) → cond b (before_first is_blank line ∷ words_of (after_first is_blank line)) (words_of (after_first is_blank line)) ≡ cond b (before_first is_blank line ∷ []) [] ++ words_of (after_first is_blank line)
    onto true = refl
    onto false = refl

-- a line without a blank is one word, unless it is empty
uncut : (line : List ℕ) → length line ≤ position_or_len is_blank line → words_of line ≡ filter has_byte (before_first is_blank line ∷ []) ++ words_of (after_first is_blank line)
uncut line all =
    let one : slice_split is_blank line ≡ line ∷ [] = slice_split_none is_blank line (λ j d below. fails_before_first is_blank line j d (omega (arith, all, below))) in
    let none : after_first is_blank line ≡ [] = drop_all (position_or_len is_blank line + 1) line (omega (arith, all)) in
    ap (filter has_byte) one
    ∙ sym (append-nil (filter has_byte (line ∷ [])))
    ∙ ap (λ word. filter has_byte (word ∷ []) ++ []) (sym (take_all (position_or_len is_blank line) line all))
    ∙ ap (λ rest. filter has_byte (before_first is_blank line ∷ []) ++ words_of rest) (sym none)

-- the words are the first part, unless it is empty, and the words after it
words_cut : (line : List ℕ) → words_of line ≡ filter has_byte (before_first is_blank line ∷ []) ++ words_of (after_first is_blank line)
words_cut line = by (nat_lt (position_or_len is_blank line) (length line)) refl
  where
    by : (b : Bool) → nat_lt (position_or_len is_blank line) (length line) ≡ b → words_of line ≡ filter has_byte (before_first is_blank line ∷ []) ++ words_of (after_first is_blank line)
    by true within = cut line (grind (arith, nat_tests))
    by false within = uncut line (grind (arith, nat_tests))

-- a part with a byte is one word more,
pub one_more : (found : List (Bor (List ℕ))) (word : Bor (List ℕ)) (line : List ℕ) → word.now ≡ before_first is_blank line → has_byte word.now ≡ true → texts (found ++ word ∷ []) ++ words_of (after_first is_blank line) ≡ texts found ++ words_of line
one_more found word line first some =
    ap (λ ws. ws ++ words_of (after_first is_blank line)) (map-append (λ (w : Bor (List ℕ)). w.now) found (word ∷ []))
    ∙ append_assoc (texts found) (word.now ∷ []) (words_of (after_first is_blank line))
    ∙ ap (λ ws. texts found ++ (ws ++ words_of (after_first is_blank line))) (sym (kept word.now some))
    ∙ ap (λ w. texts found ++ (filter has_byte (w ∷ []) ++ words_of (after_first is_blank line))) first
    ∙ ap (λ ws. texts found ++ ws) (sym (words_cut line))
  where
    kept : (w : List ℕ) → has_byte w ≡ true → filter has_byte (w ∷ []) ≡ w ∷ []
    kept w some = ap (λ b. cond b (w ∷ []) []) some

-- an empty part is not a word
pub none_more : (word line : List ℕ) → word ≡ before_first is_blank line → has_byte word ≡ false → words_of (after_first is_blank line) ≡ words_of line
none_more word line first none =
    sym (words_cut line ∙ ap (λ w. filter has_byte (w ∷ []) ++ words_of (after_first is_blank line)) (sym first) ∙ ap (λ b. cond b (word ∷ []) [] ++ words_of (after_first is_blank line)) none)

-- fewer bytes remain after it
pub fewer_remaining : (line rest : List ℕ) → false ≡ (length line == 0) → rest ≡ after_first is_blank line → length rest < length line
fewer_remaining [] rest some is = absurd (cc)
fewer_remaining (b ∷ bs) rest some is =
    let remaining = length-drop (position_or_len is_blank (b ∷ bs) + 1) (b ∷ bs) in
    omega (arith, remaining, ap length is)
