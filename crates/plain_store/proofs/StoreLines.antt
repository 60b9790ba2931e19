-- A store in words, pair by pair.
use Rattle.std.proofs.Common.{◌≡◌, ℕ, ◌+◌, ◌≤◌, length, List, [], ◌∷◌, ◌++◌, None, Some, drop, ap, sym, refl, ◌∙◌, slice_get, append_assoc, flat_map, codes}
use Rattle.std.proofs.lemmas.List.{append-nil, drop_all}
use Rattle.plain_store.specs.{Pair, Value, next_pair, pair_text, store_words, value_text}
use Rattle.plain_store.proofs.OpeningPairs.{drop-next}

-- no pairs
pub no_pairs : (pairs : List Pair) → slice_get pairs 0 ≡ None → codes "empty" ≡ store_words pairs
no_pairs [] none = refl
no_pairs (pair ∷ pairs) none = absurd (cc)

-- the first pair, and those after it
pub first_pair : (pairs : List Pair) (pair : Pair) → slice_get pairs 0 ≡ Some pair → pair_text pair ++ flat_map next_pair (drop 1 pairs) ≡ store_words pairs
first_pair [] pair at = absurd (cc)
first_pair (first ∷ pairs) pair at = let same : pair ≡ first = cc in ap (λ p. pair_text p ++ flat_map next_pair pairs) same

-- a text and the pairs from an index on, one pair later
pub pairs_more : (reported : List ℕ) (pairs : List Pair) (k : ℕ) (p : Pair) → slice_get pairs k ≡ Some p → (reported ++ next_pair p) ++ flat_map next_pair (drop (k + 1) pairs) ≡ reported ++ flat_map next_pair (drop k pairs)
pairs_more reported pairs k p at = append_assoc reported _ _ ∙ ap (λ ps. reported ++ flat_map next_pair ps) (sym (drop-next pairs k p at))

-- a text after which no pair remains
pub all_reported : (reported : List ℕ) (pairs : List Pair) (k : ℕ) → length pairs ≤ k → reported ++ flat_map next_pair (drop k pairs) ≡ reported
all_reported reported pairs k past = rw (drop_all k pairs past) (append-nil reported)

-- the text of a pair, as `format!` puts it together
pub pair_text_is : (name : List ℕ) (value : Value) → name ++ (codes "=" ++ value_text value) ≡ pair_text (name, value)
pair_text_is name value = simp append_assoc

-- a pair after others, as it is added
pub pair_added : (reported : List ℕ) (p : Pair) → (reported ++ codes " ") ++ pair_text p ≡ reported ++ next_pair p
pair_added reported p = append_assoc reported (codes " ") (pair_text p)
