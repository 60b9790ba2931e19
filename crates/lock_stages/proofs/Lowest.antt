-- The lowest number for which a test holds.
use Rattle.std.proofs.Common.{◌≡◌, ℕ, zero, suc, ◌+◌, ◌<◌, Bool, true, false, ◌&&◌, cond, ◌⊎◌, ◌≢◌, inl, inr, Option, None, Some, is_some, refl, sym, ap, ◌∙◌, arith, add-one, true≢false}
use Rattle.std.proofs.lemmas.Bool.{cases_eq}
use Rattle.model.specs.{first_of}
use Rattle.lock_stages.specs.{lowest_below}

-- none below the next one
pub lowest_none : (n : ℕ) (test : ℕ → Bool) → lowest_below n test ≡ None → test n ≡ false → lowest_below (n + 1) test ≡ None
lowest_none n test none here =
    ap (λ k. lowest_below k test) (add-one n)
    ∙ ap (λ o. first_of o (cond (test n) (Some n) None)) none
    ∙ ap (λ b. first_of None (cond b (Some n) None)) here

-- the first one there is
pub lowest_found : (n k : ℕ) (test : ℕ → Bool) → lowest_below k test ≡ None → test k ≡ true → k < n → lowest_below n test ≡ Some k
lowest_found zero k test none here below = absurd (omega arith)
lowest_found (suc n) k test none here below = go (dec n k) (lowest_found n k test none here)
  where
    dec : (n k : ℕ) → (n ≡ k) ⊎ (n ≢ k)
    dec n k = cases_eq n k

    go : (n ≡ k) ⊎ (n ≢ k) → (k < n → lowest_below n test ≡ Some k) → first_of (lowest_below n test) (cond (test n) (Some n) None) ≡ Some k
    go (inl same) more =
        ap (λ o. first_of o (cond (test n) (Some n) None)) (ap (λ j. lowest_below j test) same ∙ none)
        ∙ ap (λ b. first_of None (cond b (Some n) None)) (ap test same ∙ here)
        ∙ ap Some same
    go (inr apart) more = ap (λ o. first_of o (cond (test n) (Some n) None)) (more (omega arith))

-- it is below
pub lowest_within : (n : ℕ) (test : ℕ → Bool) (k : ℕ) → lowest_below n test ≡ Some k → k < n
lowest_within zero test k is = absurd (let both : None ≡ Some k = is in cc)
lowest_within (suc n) test k is = go (lowest_below n test) refl (lowest_within n test k) (test n) is
  where
    go : (o : Option ℕ) → lowest_below n test ≡ o → (lowest_below n test ≡ Some k → k < n) → (b : Bool) → first_of (lowest_below n test) (cond b (Some n) None) ≡ Some k → k < suc n
    go None h before true is = let both : Some n ≡ Some k = ap (λ o. first_of o (Some n)) (sym h) ∙ is in let same : n ≡ k = cc in omega (arith, same)
    go None h before false is = absurd (let both : None ≡ Some k = ap (λ o. first_of o None) (sym h) ∙ is in cc)
    go (Some j) h before b is =
        let both : Some j ≡ Some k = ap (λ o. first_of o (cond b (Some n) None)) (sym h) ∙ is in
        let below : k < n = before (h ∙ both) in omega (arith, below)

-- the same test has the same lowest number
pub lowest_agree : (n : ℕ) (t u : ℕ → Bool) → ((q : ℕ) → t q ≡ u q) → lowest_below n t ≡ lowest_below n u
lowest_agree zero t u same = refl
lowest_agree (suc n) t u same = λ i. first_of (lowest_agree n t u same i) (cond (same n i) (Some n) None)

-- There is none.

pub unsome : {A : Type 0} (o : Option A) → is_some o ≡ false → o ≡ None
unsome None h = refl
unsome (Some x) h = absurd (true≢false h)

first_nothing : (o more : Option ℕ) → first_of o more ≡ None → (o ≡ None) × (more ≡ None)
first_nothing None more h = (refl, h)
first_nothing (Some k) more h = absurd (let both : Some k ≡ None = h in cc)

none_there : (n : ℕ) (b : Bool) → cond b (Some n) None ≡ None → b ≡ false
none_there n true h = absurd (let both : Some n ≡ None = h in cc)
none_there n false h = refl

pub none_below : (n : ℕ) (test : ℕ → Bool) → lowest_below n test ≡ None → (k : ℕ) → k < n → test k ≡ false
none_below zero test none k below = absurd (omega arith)
none_below (suc n) test none k below =
    let parts = first_nothing (lowest_below n test) (cond (test n) (Some n) None) none in
    go (cases_eq k n) (none_below n test parts.0 k) (none_there n (test n) parts.1)
  where
    go : (k ≡ n) ⊎ (k ≢ n) → (k < n → test k ≡ false) → test n ≡ false → test k ≡ false
    go (inl same) more here = ap test same ∙ here
    go (inr apart) more here = more (omega arith)

pub and_false : (a b : Bool) → (a && b) ≡ false → a ≡ true → b ≡ false
and_false true b h is = h
and_false false b h is = absurd (true≢false (sym is))
