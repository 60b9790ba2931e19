-- The parts of a line between its signs.
use Rattle.std.proofs.Common.{◌≡◌, ℕ, zero, suc, ◌<◌, not, Bool, true, false, cond, List, [], ◌∷◌, ◌++◌, length, map, flat_map, codes, refl, ap, sym, ◌∙◌, arith, append-nil}
use Rattle.std.proofs.lemmas.Bool.{and_parts}
use Rattle.std.proofs.lemmas.List.Splits.{slice_split_none, slice_split_at}
use Rattle.std.proofs.lemmas.Slice.Eq.{bytes_eq-Decides}
use Rattle.std.specs.List.{All, list_all, onto_first}
use Rattle.model.specs.{Mark}
use Rattle.record_file.specs.{is_sign, mark_words, parts_of, signed_words}

-- a part after its sign
abbrev pub signed : List (List ℕ) → List (List ℕ)
signed part = codes ":" ∷ part

-- the words of some parts, with the signs between them
abbrev pub joined : List (List (List ℕ)) → List (List ℕ)
joined [] = []
joined (part ∷ parts) = part ++ flat_map signed parts

-- one more word at the front
joined_onto : (w : List ℕ) (parts : List (List (List ℕ))) → joined (onto_first w parts) ≡ w ∷ joined parts
joined_onto w [] = refl
joined_onto w (part ∷ parts) = refl

-- a word at the front is in a part
some_onto : (w : List ℕ) (parts : List (List (List ℕ))) → 0 < length (onto_first w parts)
some_onto w [] = omega arith
some_onto w (part ∷ parts) = omega arith

-- there is a part
some_part : (ws : List (List ℕ)) → 0 < length (parts_of ws)
some_part [] = omega arith
some_part (w ∷ ws) = by (is_sign w)
  where
    by : (b : Bool) → 0 < length (cond b ([] ∷ parts_of ws) (onto_first w (parts_of ws)))
    by true = omega arith
    by false = some_onto w (parts_of ws)

-- a sign at the front
joined_behind : (parts : List (List (List ℕ))) → 0 < length parts → flat_map signed parts ≡ codes ":" ∷ joined parts
joined_behind [] some = absurd (omega (arith, some))
joined_behind (part ∷ parts) some = refl

-- Words are their parts, with the signs between them.
pub joined_parts : (ws : List (List ℕ)) → joined (parts_of ws) ≡ ws
joined_parts [] = refl
joined_parts (w ∷ ws) = by (is_sign w) refl (joined_parts ws)
  where
    by : (b : Bool) → is_sign w ≡ b → joined (parts_of ws) ≡ ws → joined (cond b ([] ∷ parts_of ws) (onto_first w (parts_of ws))) ≡ w ∷ ws
    by true is rest =
        joined_behind (parts_of ws) (some_part ws)
        ∙ ap (λ v. v ∷ joined (parts_of ws)) (sym ((bytes_eq-Decides w (codes ":")).0 is))
        ∙ ap (λ vs. w ∷ vs) rest
    by false is rest = joined_onto w (parts_of ws) ∙ ap (λ vs. w ∷ vs) rest

-- words among which there is no sign
abbrev pub has_no_sign : List (List ℕ) → Bool
has_no_sign = list_all (λ w. not (is_sign w))

none_is_sign : (ws : List (List ℕ)) → has_no_sign ws ≡ true → All (λ w. is_sign w ≡ false) ws
none_is_sign [] none k d within = absurd (omega arith)
none_is_sign (w ∷ ws) none zero d within = by (is_sign w) refl (and_parts (not (is_sign w)) (has_no_sign ws) none).0
  where
    by : (b : Bool) → is_sign w ≡ b → not b ≡ true → is_sign w ≡ false
    by true is other = absurd (cc)
    by false is other = is
none_is_sign (w ∷ ws) none (suc k) d within = none_is_sign ws (and_parts (not (is_sign w)) (has_no_sign ws) none).1 k d (omega arith)

-- The parts of words and of signed marks are these words, and the words of each mark.
pub parts_of_signed : (ws : List (List ℕ)) (marks : List Mark) → has_no_sign ws ≡ true → list_all (λ m. has_no_sign (mark_words m)) marks ≡ true → parts_of (ws ++ flat_map signed_words marks) ≡ ws ∷ map mark_words marks
parts_of_signed ws [] none all = ap parts_of (append-nil ws) ∙ slice_split_none is_sign ws (none_is_sign ws none)
parts_of_signed ws (m ∷ marks) none all =
    let parts = and_parts (has_no_sign (mark_words m)) (list_all (λ m. has_no_sign (mark_words m)) marks) all in
    slice_split_at is_sign ws (codes ":") (mark_words m ++ flat_map signed_words marks) (none_is_sign ws none) refl
    ∙ ap (λ more. ws ∷ more) (parts_of_signed (mark_words m) marks parts.0 parts.1)
