-- At most two values of a set.
use Rattle.std.proofs.Common.{◌≡◌, ℕ, zero, suc, ◌+◌, ◌-◌, ◌<◌, ◌≤◌, Bool, true, false, cond, List, [], ◌∷◌, ◌++◌, length, refl, sym, ap, ◌∙◌, subst, arith, add-one, append-nil, length-append}
use Rattle.std.specs.List.{filter, range_with_len}
use Rattle.std.proofs.lemmas.Bool.{lt-leb}
use Rattle.std.proofs.lemmas.List.Elements.{filter-append}
use Rattle.trace_memory.specs.{if_few}

range-more : (a n : ℕ) → range_with_len a (n + 1) ≡ range_with_len a n ++ (a + n) ∷ []
range-more a zero = let same : a ≡ a + zero = omega arith in ap (λ k. k ∷ []) same
range-more a (suc n) =
    let count : suc n + 1 ≡ suc (n + 1) = omega arith in
    let last : a + 1 + n ≡ a + suc n = omega arith in
    ap (range_with_len a) count ∙ ap (λ l. a ∷ l) (range-more (a + 1) n) ∙ ap (λ k. a ∷ (range_with_len (a + 1) n ++ k ∷ [])) last

-- one number more
pub filter-more : (test : ℕ → Bool) (n : ℕ) → filter test (range_with_len 0 (n + 1)) ≡ filter test (range_with_len 0 n) ++ cond (test n) (n ∷ []) []
filter-more test n =
    let same : 0 + n ≡ n = omega arith in
    ap (filter test) (range-more 0 n) ∙ filter-append test (range_with_len 0 n) ((0 + n) ∷ []) ∙ ap (λ k. filter test (range_with_len 0 n) ++ filter test (k ∷ [])) same

-- more numbers leave no fewer
grows : (test : ℕ → Bool) (n k : ℕ) → length (filter test (range_with_len 0 n)) ≤ length (filter test (range_with_len 0 (n + k)))
grows test n zero = let same : n ≡ n + zero = omega arith in subst (λ m. length (filter test (range_with_len 0 n)) ≤ length (filter test (range_with_len 0 m))) same (omega arith)
grows test n (suc k) =
    let same : n + k + 1 ≡ n + suc k = omega arith in
    let before = grows test n k in
    let more = length-append (filter test (range_with_len 0 (n + k))) (cond (test (n + k)) ((n + k) ∷ []) []) in
    let now : length (filter test (range_with_len 0 (n + k + 1))) ≡ length (filter test (range_with_len 0 (n + k)) ++ cond (test (n + k)) ((n + k) ∷ []) []) = ap (λ l. length l) (filter-more test (n + k)) in
    subst (λ m. length (filter test (range_with_len 0 n)) ≤ length (filter test (range_with_len 0 m))) same (omega (arith, before, more, now))

-- a third value is one too many
pub three-found : (test : ℕ → Bool) (n m a b : ℕ) → n < m → test n ≡ true → filter test (range_with_len 0 n) ≡ a ∷ b ∷ [] → [] ≡ if_few (filter test (range_with_len 0 m))
three-found test n m a b below here found =
    let third : filter test (range_with_len 0 (n + 1)) ≡ a ∷ b ∷ n ∷ [] = filter-more test n ∙ (λ i. found i ++ cond (here i) (n ∷ []) []) in
    let most : n + 1 + (m - (n + 1)) ≡ m = omega arith in
    let all : length (filter test (range_with_len 0 (n + 1))) ≤ length (filter test (range_with_len 0 m)) =
    subst (λ j. length (filter test (range_with_len 0 (n + 1))) ≤ length (filter test (range_with_len 0 j))) most (grows test (n + 1) (m - (n + 1))) in
    let three : length (filter test (range_with_len 0 (n + 1))) ≡ 3 = ap (λ l. length l) third in
    let many : 2 < length (filter test (range_with_len 0 m)) = omega (arith, all, three) in
    ap (λ b. cond b (filter test (range_with_len 0 m)) []) (sym (lt-leb (length (filter test (range_with_len 0 m))) 2 many))

-- a value more is found, or none
pub one-more : (test : ℕ → Bool) (n : ℕ) (found : List ℕ) → test n ≡ true → filter test (range_with_len 0 n) ≡ found → filter test (range_with_len 0 (n + 1)) ≡ found ++ n ∷ []
one-more test n found here was = filter-more test n ∙ (λ i. was i ++ cond (here i) (n ∷ []) [])

pub none-more : (test : ℕ → Bool) (n : ℕ) (found : List ℕ) → test n ≡ false → filter test (range_with_len 0 n) ≡ found → filter test (range_with_len 0 (n + 1)) ≡ found
none-more test n found here was = filter-more test n ∙ (λ i. was i ++ cond (here i) (n ∷ []) []) ∙ append-nil found

-- tests that agree below a number
pub filter-agree : (t u : ℕ → Bool) (n : ℕ) → ((k : ℕ) → k < n → t k ≡ u k) → filter t (range_with_len 0 n) ≡ filter u (range_with_len 0 n)
filter-agree t u zero same = refl
filter-agree t u (suc n) same =
    ap (λ k. filter t (range_with_len 0 k)) (sym (add-one n))
    ∙ filter-more t n
    ∙ (λ i. filter-agree t u n (λ k below. same k (omega arith)) i ++ cond (same n (omega arith) i) (n ∷ []) [])
    ∙ sym (filter-more u n)
    ∙ ap (λ k. filter u (range_with_len 0 k)) (add-one n)
