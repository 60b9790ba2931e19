-- One more of a range, and the lines of processes, one after the other.
use Rattle.std.proofs.Common.{◌≡◌, ℕ, zero, suc, ◌+◌, List, [], ◌∷◌, ◌++◌, flat_map, ap, sym, ◌∙◌, arith, append-nil, append_assoc}
use Rattle.std.specs.List.{range_with_len}
use Rattle.std.proofs.lemmas.Grind.{flat_map-append}

range_next : (a n : ℕ) → range_with_len a (suc n) ≡ range_with_len a n ++ (a + n) ∷ []
range_next a zero = let same : a ≡ a + 0 = omega arith in ap (λ k. k ∷ []) same
range_next a (suc n) =
    let same : a + 1 + n ≡ a + suc n = omega arith in
    ap (λ l. a ∷ l) (range_next (a + 1) n ∙ ap (λ k. range_with_len (a + 1) n ++ k ∷ []) same)

pub range_more : (k : ℕ) → range_with_len 0 (k + 1) ≡ range_with_len 0 k ++ k ∷ []
range_more k =
    let next : k + 1 ≡ suc k = omega arith in
    let here : 0 + k ≡ k = omega arith in
    ap (λ n. range_with_len 0 n) next ∙ range_next 0 k ∙ ap (λ n. range_with_len 0 k ++ n ∷ []) here

-- the lines of each
pub lines_more : (f : ℕ → List ℕ) (k : ℕ) → flat_map f (range_with_len 0 (k + 1)) ≡ flat_map f (range_with_len 0 k) ++ f k
lines_more f k =
    ap (flat_map f) (range_more k) ∙ flat_map-append f (range_with_len 0 k) (k ∷ [])
    ∙ ap (λ l. flat_map f (range_with_len 0 k) ++ l) (append-nil (f k))

-- the lines of the first k are a prefix of those of all
pub lines_front : (f : ℕ → List ℕ) (k n : ℕ) → (more : List ℕ) × (flat_map f (range_with_len 0 (k + n)) ≡ flat_map f (range_with_len 0 k) ++ more)
lines_front f k zero = let same : k + 0 ≡ k = omega arith in ([], ap (λ n. flat_map f (range_with_len 0 n)) same ∙ sym (append-nil (flat_map f (range_with_len 0 k))))
lines_front f k (suc n) =
    let before : (more : List ℕ) × (flat_map f (range_with_len 0 (k + n)) ≡ flat_map f (range_with_len 0 k) ++ more) = lines_front f k n in
    let next : k + suc n ≡ k + n + 1 = omega arith in
    (before.0 ++ f (k + n), ap (λ n. flat_map f (range_with_len 0 n)) next ∙ lines_more f (k + n) ∙ ap (λ l. l ++ f (k + n)) before.1 ∙ append_assoc (flat_map f (range_with_len 0 k)) before.0 (f (k + n)))
