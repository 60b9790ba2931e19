-- Lists that are cut at the first element that passes a test.
use Rattle.std.proofs.Common.{◌≡◌, ℕ, ◌+◌, ◌-◌, ◌<◌, ◌≤◌, ◌==◌, nat_lt, Bool, true, false, cond, List, [], ◌∷◌, length, map, take, drop, Some, None, refl, ap, sym, ◌∙◌, arith}
use Rattle.std.proofs.lemmas.Bool.Decides.{nat_tests}
use Rattle.std.proofs.lemmas.List.{take_rest}
use Rattle.std.proofs.lemmas.List.Splits.{slice_split_none, slice_split_first}
use Rattle.std.proofs.lemmas.List.Sums.{fails_before_first}
use Rattle.std.specs.Borrow.{Bor}
use Rattle.std.specs.List.{slice_split, onto_first, position, position_or_len}
use Rattle.files.specs.{texts}
use Rattle.record_file.specs.{dotted, is_sign, parts_of}

-- cut at the first such element,
cut : {X : Type 0} (p : X → Bool) (xs : List X) (k : ℕ) → position p xs ≡ Some k → slice_split p xs ≡ take k xs ∷ slice_split p (drop (k + 1) xs)
cut p [] k at = absurd (cc)
cut {X} p (x ∷ xs) k at = by (nat_lt (position_or_len p (x ∷ xs)) (length (x ∷ xs))) refl at
  where
    by : (b : Bool) → nat_lt (position_or_len p (x ∷ xs)) (length (x ∷ xs)) ≡ b → cond b (Some (position_or_len p (x ∷ xs))) None ≡ Some k → slice_split p (x ∷ xs) ≡ take k (x ∷ xs) ∷ slice_split p (drop (k + 1) (x ∷ xs))
    by true within at =
        let here : position_or_len p (x ∷ xs) ≡ k = cc in
        let first : position_or_len p (x ∷ xs) < length (x ∷ xs) = grind (arith, nat_tests) in
        slice_split_first p (x ∷ xs) x first ∙ ap (λ j. take j (x ∷ xs) ∷ slice_split p (drop (j + 1) (x ∷ xs))) here
    by false within at = absurd (cc)

-- a list without such an element is one part
uncut : {X : Type 0} (p : X → Bool) (xs : List X) → position p xs ≡ None → slice_split p xs ≡ xs ∷ []
uncut {X} p xs at = by (nat_lt (position_or_len p xs) (length xs)) refl at
  where
    by : (b : Bool) → nat_lt (position_or_len p xs) (length xs) ≡ b → cond b (Some (position_or_len p xs)) None ≡ None → slice_split p xs ≡ xs ∷ []
    by true within at = absurd (cc)
    by false within at =
        let all : length xs ≤ position_or_len p xs = grind (arith, nat_tests) in
        slice_split_none p xs (λ j d below. fails_before_first p xs j d (omega (arith, all, below)))

-- the bytes of a word
pub bytes_cut : (bs : List ℕ) (k : ℕ) → position (λ b. b == 46) bs ≡ Some k → dotted bs ≡ take k bs ∷ dotted (take (length bs - (k + 1)) (drop (k + 1) bs))
bytes_cut bs k at = cut (λ b. b == 46) bs k at ∙ ap (λ cs. take k bs ∷ dotted cs) (sym (take_rest bs (k + 1)))

pub bytes_uncut : (bs : List ℕ) → position (λ b. b == 46) bs ≡ None → dotted bs ≡ bs ∷ []
bytes_uncut bs at = uncut (λ b. b == 46) bs at

-- words, as lists of bytes
abbrev is_signed : Bor (List ℕ) → Bool
is_signed w = is_sign w.now

texts_onto : (w : Bor (List ℕ)) (parts : List (List (Bor (List ℕ)))) → map texts (onto_first w parts) ≡ onto_first w.now (map texts parts)
texts_onto w [] = refl
texts_onto w (part ∷ parts) = refl

texts_split : (ws : List (Bor (List ℕ))) → parts_of (texts ws) ≡ map texts (slice_split is_signed ws)
texts_split [] = refl
texts_split (w ∷ ws) = by (is_sign w.now) (texts_split ws)
  where
    by : (b : Bool) → parts_of (texts ws) ≡ map texts (slice_split is_signed ws) → cond b ([] ∷ parts_of (texts ws)) (onto_first w.now (parts_of (texts ws))) ≡ map texts (cond b ([] ∷ slice_split is_signed ws) (onto_first w (slice_split is_signed ws)))
    by true rest = ap (λ ps. [] ∷ ps) rest
    by false rest = ap (onto_first w.now) rest ∙ sym (texts_onto w (slice_split is_signed ws))

pub words_cut : (ws : List (Bor (List ℕ))) (k : ℕ) → position (λ w. is_sign w.now) ws ≡ Some k → parts_of (texts ws) ≡ texts (take k ws) ∷ parts_of (texts (take (length ws - (k + 1)) (drop (k + 1) ws)))
words_cut ws k at =
    texts_split ws
    ∙ ap (map texts) (cut is_signed ws k at)
    ∙ ap (λ ps. texts (take k ws) ∷ ps) (sym (texts_split (drop (k + 1) ws)))
    ∙ ap (λ vs. texts (take k ws) ∷ parts_of (texts vs)) (sym (take_rest ws (k + 1)))

pub words_uncut : (ws : List (Bor (List ℕ))) → position (λ w. is_sign w.now) ws ≡ None → parts_of (texts ws) ≡ texts ws ∷ []
words_uncut ws at = texts_split ws ∙ ap (map texts) (uncut is_signed ws at)
