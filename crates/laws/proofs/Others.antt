-- The others of a process, in their order: each process except itself, once.
use Rattle.std.proofs.Common.{◌≡◌, ◌≢◌, ℕ, zero, suc, ◌+◌, ◌<◌, ◌≤◌, ◌==◌, Bool, true, false, cond, List, [], ◌∷◌, ◌++◌, refl, sym, ap, subst, ◌∙◌, arith, inl, inr}
use Rattle.std.proofs.lemmas.Bool.{false≢true, cases_eq, eqb-false, ne_eqb, not-true}
use Rattle.std.specs.Prelude.{not, filter}
use Rattle.std.specs.List.{range_with_len, AllByRecursion}
use Rattle.plain_store.specs.{Setup}
use Rattle.model.specs.{others}

-- a property of the numbers of a range that pass a test is a property of each such number
each_kept : (P : ℕ → Type 0) (test : ℕ → Bool) (from n : ℕ) → AllByRecursion P (filter test (range_with_len from n)) → (j : ℕ) → from ≤ j → j < from + n → test j ≡ true → P j
each_kept P test from zero h j low high passes = absurd (omega arith)
each_kept P test from (suc n) h j low high passes = go (test from) refl h (λ rest ne. each_kept P test (from + 1) n rest j (omega arith) (omega arith) passes)
  where
    go : (b : Bool) → test from ≡ b → AllByRecursion P (cond b (from ∷ filter test (range_with_len (from + 1) n)) (filter test (range_with_len (from + 1) n)))
        → (AllByRecursion P (filter test (range_with_len (from + 1) n)) → j ≢ from → P j) → P j
    go true e h rest = elim (cases_eq j from) [ inl is ↦ subst P (sym is) h.0 | inr ne ↦ rest h.1 ne ]
    go false e h rest = rest h (λ is. false≢true (sym e ∙ ap test (sym is) ∙ passes))

-- the converse for ranges
all_kept : (P : ℕ → Type 0) (test : ℕ → Bool) (from n : ℕ) → ((j : ℕ) → from ≤ j → j < from + n → test j ≡ true → P j) → AllByRecursion P (filter test (range_with_len from n))
all_kept P test from zero h = tt
all_kept P test from (suc n) h = go (test from) refl (all_kept P test (from + 1) n (λ j low high passes. h j (omega arith) (omega arith) passes))
  where
    go : (b : Bool) → test from ≡ b → AllByRecursion P (filter test (range_with_len (from + 1) n)) → AllByRecursion P (cond b (from ∷ filter test (range_with_len (from + 1) n)) (filter test (range_with_len (from + 1) n)))
    go true e rest = (h from (omega arith) (omega arith) e, rest)
    go false e rest = rest

-- a property of the others is a property of each process except p
pub each_other : (s : Setup) (p : ℕ) (P : ℕ → Type 0) → AllByRecursion P (others s p) → (j : ℕ) → j < s.processes → j ≢ p → P j
each_other s p P h j below ne = each_kept P (λ j. not (j == p)) 0 s.processes h j (omega arith) (omega arith) (ap not (ne_eqb j p ne))

-- the converse for the others
pub all_others : (s : Setup) (p : ℕ) (P : ℕ → Type 0) → ((j : ℕ) → j < s.processes → j ≢ p → P j) → AllByRecursion P (others s p)
all_others s p P h = all_kept P (λ j. not (j == p)) 0 s.processes (λ j low high passes. h j (omega arith) (eqb-false j p (not-true (j == p) passes)))

-- a property of all elements is a property of one
pub all_at : (P : ℕ → Type 0) (xs : List ℕ) (y : ℕ) (ys : List ℕ) → AllByRecursion P (xs ++ y ∷ ys) → P y
all_at P [] y ys h = h.0
all_at P (x ∷ xs) y ys h = all_at P xs y ys h.1

-- each is below all that follow
abbrev Rises : List ℕ → Type 0
Rises [] = Unit {0}
Rises (x ∷ xs) = AllByRecursion (λ y. x < y) xs × Rises xs

kept_rise : (test : ℕ → Bool) (from n : ℕ) → Rises (filter test (range_with_len from n))
kept_rise test from zero = tt
kept_rise test from (suc n) = go (test from) (kept_rise test (from + 1) n)
  where
    go : (b : Bool) → Rises (filter test (range_with_len (from + 1) n)) → Rises (cond b (from ∷ filter test (range_with_len (from + 1) n)) (filter test (range_with_len (from + 1) n)))
    go true rest = (all_kept (λ y. from < y) test (from + 1) n (λ j low high passes. omega arith), rest)
    go false rest = rest

below_one : (xs : List ℕ) (y : ℕ) (ys : List ℕ) → Rises (xs ++ y ∷ ys) → AllByRecursion (λ x. x < y) xs
below_one [] y ys h = tt
below_one (x ∷ xs) y ys h = (all_at (λ y. x < y) xs y ys h.0, below_one xs y ys h.1)

-- the others that come before one of them are lower
pub others_before : (s : Setup) (p : ℕ) (done : List ℕ) (j : ℕ) (js : List ℕ) → others s p ≡ done ++ j ∷ js → AllByRecursion (λ i. i < j) done
others_before s p done j js all = below_one done j js (subst Rises all (kept_rise (λ j. not (j == p)) 0 s.processes))
