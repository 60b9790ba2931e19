-- Words that are cut at the first sign.
use Rattle.std.proofs.Common.{◌≡◌, ℕ, ◌+◌, ◌-◌, ◌<◌, ◌≤◌, nat_lt, Bool, true, false, cond, List, [], ◌∷◌, length, map, take, drop, Some, None, refl, ap, sym, ◌∙◌, arith}
use Rattle.std.proofs.lemmas.Bool.Decides.{nat_tests}
use Rattle.std.proofs.lemmas.List.{take_rest}
use Rattle.std.proofs.lemmas.List.Splits.{slice_split_none, slice_split_first}
use Rattle.std.proofs.lemmas.List.Sums.{fails_before_first}
use Rattle.std.specs.Borrow.{Bor}
use Rattle.std.specs.List.{slice_split, onto_first, position, position_or_len}
use Rattle.files.specs.{texts}
use Rattle.trace_file.specs.{is_sign, parts_of}

-- words, without their addresses
abbrev is_signed : Bor (List ℕ) → Bool
is_signed w = is_sign w.now

-- cut at the first sign,
cut : (ws : List (Bor (List ℕ))) (k : ℕ) → position is_signed ws ≡ Some k → slice_split is_signed ws ≡ take k ws ∷ slice_split is_signed (drop (k + 1) ws)
cut [] k at = absurd (cc)
cut (w ∷ ws) k at = by (nat_lt (position_or_len is_signed (w ∷ ws)) (length (w ∷ ws))) refl at
  where
    by : (b : Bool) → nat_lt (position_or_len is_signed (w ∷ ws)) (length (w ∷ ws)) ≡ b → cond b (Some (position_or_len is_signed (w ∷ ws))) None ≡ Some k → slice_split is_signed (w ∷ ws) ≡ take k (w ∷ ws) ∷ slice_split is_signed (drop (k + 1) (w ∷ ws))
    by true within at =
        let here : position_or_len is_signed (w ∷ ws) ≡ k = cc in
        let first : position_or_len is_signed (w ∷ ws) < length (w ∷ ws) = grind (arith, nat_tests) in
        slice_split_first is_signed (w ∷ ws) w first ∙ ap (λ j. take j (w ∷ ws) ∷ slice_split is_signed (drop (j + 1) (w ∷ ws))) here
    by false within at = absurd (cc)

-- or whole, if there is no sign
uncut : (ws : List (Bor (List ℕ))) → position is_signed ws ≡ None → slice_split is_signed ws ≡ ws ∷ []
uncut ws at = by (nat_lt (position_or_len is_signed ws) (length ws)) refl at
  where
    by : (b : Bool) → nat_lt (position_or_len is_signed ws) (length ws) ≡ b → cond b (Some (position_or_len is_signed ws)) None ≡ None → slice_split is_signed ws ≡ ws ∷ []
    by true within at = absurd (cc)
    by false within at =
        let all : length ws ≤ position_or_len is_signed ws = grind (arith, nat_tests) in
        slice_split_none is_signed ws (λ j d below. fails_before_first is_signed ws j d (omega (arith, all, below)))

texts_onto : (w : Bor (List ℕ)) (parts : List (List (Bor (List ℕ)))) → map texts (onto_first w parts) ≡ onto_first w.now (map texts parts)
texts_onto w [] = refl
texts_onto w (part ∷ parts) = refl

texts_split : (ws : List (Bor (List ℕ))) → parts_of (texts ws) ≡ map texts (slice_split is_signed ws)
texts_split [] = refl
texts_split (w ∷ ws) = by (is_sign w.now) (texts_split ws)
  where
    by : (b : Bool) → parts_of (texts ws) ≡ map texts (slice_split is_signed ws) → cond b ([] ∷ parts_of (texts ws)) (onto_first w.now (parts_of (texts ws))) ≡ map texts (cond b ([] ∷ slice_split is_signed ws) (onto_first w (slice_split is_signed ws)))
    by true rest = ap (λ ps. [] ∷ ps) rest
    by false rest = ap (onto_first w.now) rest ∙ sym (texts_onto w (slice_split is_signed ws))

-- The parts of words begin with the words before the first sign, and end with the parts of the words after it.
pub words_cut : (ws : List (Bor (List ℕ))) (k : ℕ) → position (λ w. is_sign w.now) ws ≡ Some k → parts_of (texts ws) ≡ texts (take k ws) ∷ parts_of (texts (take (length ws - (k + 1)) (drop (k + 1) ws)))
words_cut ws k at =
    texts_split ws
    ∙ ap (map texts) (cut ws k at)
    ∙ ap (λ ps. texts (take k ws) ∷ ps) (sym (texts_split (drop (k + 1) ws)))
    ∙ ap (λ vs. texts (take k ws) ∷ parts_of (texts vs)) (sym (take_rest ws (k + 1)))

-- Words without a sign are one part.
pub words_uncut : (ws : List (Bor (List ℕ))) → position (λ w. is_sign w.now) ws ≡ None → parts_of (texts ws) ≡ texts ws ∷ []
words_uncut ws at = texts_split ws ∙ ap (map texts) (uncut ws at)
