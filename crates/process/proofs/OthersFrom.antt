-- The other processes, one after another.
use Rattle.std.proofs.Common.{◌≡◌, ◌≢◌, ℕ, zero, suc, ◌+◌, ◌-◌, ◌<◌, ◌≤◌, ◌==◌, nat_lt, Bool, true, false, cond, not, List, [], ◌∷◌, get_or, filter, Option, None, Some, refl, sym, ap, ◌∙◌, arith, eqb-true, inl, inr}
use Rattle.std.proofs.lemmas.Bool.{cases_eq, cases_lt, cond-false, eq-eqb, le-ltb, lt-ltb, ne_eqb}
use Rattle.std.proofs.lemmas.Bool.Decides.{nat_tests}
use Rattle.std.specs.List.{range_with_len}
use Rattle.process.specs.{first_other, other_numbered, others_below, others_from}

-- m processes from k on, without p
abbrev others_in : ℕ → ℕ → ℕ → List ℕ
others_in p k m = filter (λ j. not (j == p)) (range_with_len k m)

-- the first of some, and those after it
abbrev pub listed : ℕ → ℕ → Option ℕ → List ℕ
listed n p None = []
listed n p (Some j) = j ∷ others_from n p (j + 1)

-- after the last one there is none
past-all : (n p k : ℕ) → n ≤ k → first_other n p k ≡ None
past-all n p k past = by (k == p)
  where
    by : (b : Bool) → cond (nat_lt (cond b (k + 1) k) n) (Some (cond b (k + 1) k)) None ≡ None
    by true = cond-false (nat_lt (k + 1) n) _ _ (le-ltb (k + 1) n (omega arith))
    by false = cond-false (nat_lt k n) _ _ (le-ltb k n past)

-- they are the first one and those after it
others-next : (n p m k : ℕ) → k + m ≡ n → others_in p k m ≡ listed n p (first_other n p k)
others-next n p zero k all = sym (ap (listed n p) (past-all n p k (omega arith)))
others-next n p (suc m) k all = by (k == p) refl
  where
    -- k is p itself: the next one is the first
    own : (m : ℕ) → (k == p) ≡ true → k + suc m ≡ n → others_in p (k + 1) m ≡ listed n p (cond (nat_lt (k + 1) n) (Some (k + 1)) None)
    own zero e all = sym (ap (λ b. listed n p (cond b (Some (k + 1)) None)) (le-ltb (k + 1) n (omega arith)))
    own (suc m) e all =
        let is : k ≡ p = eqb-true k p e in
        let more : ((k + 1) == p) ≡ false = grind (arith, nat_tests) in
        let remaining : n - (k + 1 + 1) ≡ m = omega arith in
        ap (λ b. cond (not b) ((k + 1) ∷ others_in p (k + 1 + 1) m) (others_in p (k + 1 + 1) m)) more
        ∙ ap (λ i. (k + 1) ∷ others_in p (k + 1 + 1) i) (sym remaining)
        ∙ sym (ap (λ b. listed n p (cond b (Some (k + 1)) None)) (lt-ltb (k + 1) n (omega arith)))

    by : (b : Bool) → (k == p) ≡ b → cond (not b) (k ∷ others_in p (k + 1) m) (others_in p (k + 1) m) ≡ listed n p (cond (nat_lt (cond b (k + 1) k) n) (Some (cond b (k + 1) k)) None)
    by true e = own m e all
    by false e =
        let remaining : n - (k + 1) ≡ m = omega arith in
        ap (λ i. k ∷ others_in p (k + 1) i) (sym remaining) ∙ sym (ap (λ b. listed n p (cond b (Some k) None)) (lt-ltb k n (omega arith)))

pub others-from : (n p k : ℕ) → k ≤ n → others_from n p k ≡ listed n p (first_other n p k)
others-from n p k within = others-next n p (n - k) k (omega arith)

-- the first one exists, is not p, and has this number of others below it
first-at : (n p k j other : ℕ) → cond (nat_lt other n) (Some other) None ≡ Some j → (other < n) × (other ≡ j)
first-at n p k j other e = elim (cases_lt other n) [
  | inl below ↦ (below, (let f : Some other ≡ Some j = ap (λ b. cond b (Some other) None) (sym (lt-ltb other n below)) ∙ e in cc))
  | inr past ↦ (let f : None ≡ Some j = ap (λ b. cond b (Some other) None) (sym (le-ltb other n past)) ∙ e in absurd (cc))
]

first-none : (n other : ℕ) → cond (nat_lt other n) (Some other) None ≡ None → n ≤ other
first-none n other e = elim (cases_lt other n) [
  | inl below ↦ (let f : Some other ≡ None = ap (λ b. cond b (Some other) None) (sym (lt-ltb other n below)) ∙ e in absurd (cc))
  | inr past ↦ past
]

below-at : (p j : ℕ) → j ≤ p → others_below p j ≡ j
below-at p j at = ap (λ b. cond b (j - 1) j) (le-ltb p j at)

pub below-past : (p j : ℕ) → p < j → others_below p j ≡ j - 1
below-past p j past = ap (λ b. cond b (j - 1) j) (lt-ltb p j past)

pub below-some : (n p k j : ℕ) → first_other n p k ≡ Some j → (j < n) × (j ≢ p) × (others_below p j ≡ others_below p k)
below-some n p k j e = elim (cases_eq k p) [
  | inl own ↦
      let f : cond (nat_lt (k + 1) n) (Some (k + 1)) None ≡ Some j = ap (λ b. cond (nat_lt (cond b (k + 1) k) n) (Some (cond b (k + 1) k)) None) (sym (eq-eqb k p own)) ∙ e in
      let at = first-at n p k j (k + 1) f in
      (omega (arith, at.0, at.1), (λ same. omega (arith, same, at.1, own)), omega (arith, below-past p j (omega (arith, at.1, own)), below-at p k (omega (arith, own)), at.1))
  | inr other ↦
      let f : cond (nat_lt k n) (Some k) None ≡ Some j = ap (λ b. cond (nat_lt (cond b (k + 1) k) n) (Some (cond b (k + 1) k)) None) (sym (ne_eqb k p other)) ∙ e in
      let at = first-at n p k j k f in
      (omega (arith, at.0, at.1), (λ same. other (omega (arith, same, at.1))), ap (others_below p) (sym at.1))
]

-- if there is none, all others are below
pub below-none : (n p k : ℕ) → first_other n p k ≡ None → p < n → k ≤ n → others_below p k + 1 ≡ n
below-none n p k e inside within = elim (cases_eq k p) [
  | inl own ↦
      let f : cond (nat_lt (k + 1) n) (Some (k + 1)) None ≡ None = ap (λ b. cond (nat_lt (cond b (k + 1) k) n) (Some (cond b (k + 1) k)) None) (sym (eq-eqb k p own)) ∙ e in
      let past = first-none n (k + 1) f in
      omega (arith, past, below-at p k (omega (arith, own)), own)
  | inr other ↦
      let f : cond (nat_lt k n) (Some k) None ≡ None = ap (λ b. cond (nat_lt (cond b (k + 1) k) n) (Some (cond b (k + 1) k)) None) (sym (ne_eqb k p other)) ∙ e in
      let past = first-none n k f in
      omega (arith, past, below-past p k (omega (arith, past)))
]

-- if p is below k, the element at index i is k + i
past-own : (p k m i : ℕ) → p < k → i < m → get_or (others_in p k m) i 0 ≡ k + i
past-own p k zero i past inside = absurd (omega arith)
past-own p k (suc m) i past inside = ap (λ b. get_or (cond (not b) (k ∷ others_in p (k + 1) m) (others_in p (k + 1) m)) i 0) (ne_eqb k p (omega arith)) ∙ by i inside (λ j below. past-own p (k + 1) m j (omega arith) below)
  where
    by : (i : ℕ) → i < suc m → ((j : ℕ) → j < m → get_or (others_in p (k + 1) m) j 0 ≡ k + 1 + j) → get_or (k ∷ others_in p (k + 1) m) i 0 ≡ k + i
    by zero inside rest = omega arith
    by (suc i) inside rest = omega (arith, rest i (omega arith))

numbered-below : (p k : ℕ) → k < p → other_numbered p k ≡ k
numbered-below p k below = ap (λ b. cond b k (k + 1)) (lt-ltb k p below)

numbered-past : (p k : ℕ) → p ≤ k → other_numbered p k ≡ k + 1
numbered-past p k past = ap (λ b. cond b k (k + 1)) (le-ltb k p past)

before-own : (p k m i : ℕ) → k ≤ p → p < k + m → i + 1 < m → get_or (others_in p k m) i 0 ≡ other_numbered p (k + i)
before-own p k zero i at within inside = absurd (omega arith)
before-own p k (suc m) i at within inside = elim (cases_eq k p) [
  | inl own ↦
      ap (λ b. get_or (cond (not b) (k ∷ others_in p (k + 1) m) (others_in p (k + 1) m)) i 0) (eq-eqb k p own)
      ∙ omega (arith, past-own p (k + 1) m i (omega arith) (omega arith), numbered-past p (k + i) (omega arith))
  | inr other ↦
      ap (λ b. get_or (cond (not b) (k ∷ others_in p (k + 1) m) (others_in p (k + 1) m)) i 0) (ne_eqb k p other) ∙ by i (omega (arith, other)) inside (λ j below. before-own p (k + 1) m j (omega (arith, other)) (omega arith) below)
]
  where
    by : (i : ℕ) → k < p → i + 1 < suc m → ((j : ℕ) → j + 1 < m → get_or (others_in p (k + 1) m) j 0 ≡ other_numbered p (k + 1 + j)) → get_or (k ∷ others_in p (k + 1) m) i 0 ≡ other_numbered p (k + i)
    by zero above inside rest =
        let here : k + 0 ≡ k = omega arith in
        sym (ap (other_numbered p) here ∙ numbered-below p k above)
    by (suc i) above inside rest =
        let here : k + suc i ≡ k + 1 + i = omega arith in
        rest i (omega arith) ∙ ap (other_numbered p) (sym here)

-- one of them by its number
pub other-at : (n p i : ℕ) → p < n → i + 1 < n → get_or (filter (λ j. not (j == p)) (range_with_len 0 n)) i 0 ≡ other_numbered p i
other-at n p i inside there = before-own p 0 n i (omega arith) (omega arith) there ∙ ap (other_numbered p) (let e : 0 + i ≡ i = omega arith in e)
