-- How the look-backs over a call go on with an entry.
use Rattle.std.proofs.Common.{◌≡◌, ℕ, suc, ◌≤◌, ◌==◌, Bool, true, false, cond, [], ◌∷◌, Option, None, Some, length, refl, eq-eqb, arith}
use Rattle.model.specs.{Entry, Past, calls_in, first_of, has, is_called, number_in_call, own}
use Rattle.calls.specs.{count_in_call, first_if, first_in_call, more_if, over_call}

-- the number of an entry, where a test holds
abbrev pub if_there : Bool → ℕ → Option ℕ
if_there b n = elim b as (λ _. Option ℕ) [ true ↦ Some n | false ↦ None ]

pub first_none : (o : Option ℕ) → first_of o None ≡ o
first_none None = refl
first_none (Some k) = refl

-- Numbers of entries.

pub number-mine : (p : ℕ) (test : Entry → Bool) (e : Entry) (past : Past) → e.process ≡ p → has is_called e ≡ false → (b : Bool) → test e ≡ b →
    number_in_call p test (e ∷ past) ≡ first_of (number_in_call p test past) (if_there b (length past))
number-mine p test e past h called b is = rw (eq-eqb e.process p h, called, is, number_in_call) refl

pub number-called : (p : ℕ) (test : Entry → Bool) (e : Entry) (past : Past) → e.process ≡ p → has is_called e ≡ true → number_in_call p test (e ∷ past) ≡ None
number-called p test e past h called = rw (eq-eqb e.process p h, called, number_in_call) refl

pub number-other : (p : ℕ) (test : Entry → Bool) (e : Entry) (past : Past) → (e.process == p) ≡ false → number_in_call p test (e ∷ past) ≡ number_in_call p test past
number-other p test e past h = rw (h, number_in_call) refl

-- Folds over a call's entries.

pub over-mine : {A : Type 0} (p : ℕ) (start : A) (with : Past → Entry → A → A) (e : Entry) (past : Past) → e.process ≡ p → has is_called e ≡ false →
    over_call p start with (e ∷ past) ≡ with past e (over_call p start with past)
over-mine p start with e past h called = rw (eq-eqb e.process p h, called, over_call) refl

pub over-called : {A : Type 0} (p : ℕ) (start : A) (with : Past → Entry → A → A) (e : Entry) (past : Past) → e.process ≡ p → has is_called e ≡ true →
    over_call p start with (e ∷ past) ≡ start
over-called p start with e past h called = rw (eq-eqb e.process p h, called, over_call) refl

pub over-other : {A : Type 0} (p : ℕ) (start : A) (with : Past → Entry → A → A) (e : Entry) (past : Past) → (e.process == p) ≡ false →
    over_call p start with (e ∷ past) ≡ over_call p start with past
over-other p start with e past h = rw (h, over_call) refl

-- The first of them that passes a test.

abbrev first_passing : (Past → Entry → Bool) → Past → Entry → Option ℕ → Option ℕ
first_passing test before e first = first_if (test before e) (length before) first

pub first-mine : (p : ℕ) (test : Past → Entry → Bool) (e : Entry) (past : Past) → e.process ≡ p → has is_called e ≡ false →
    first_in_call p test (e ∷ past) ≡ first_if (test past e) (length past) (first_in_call p test past)
first-mine p test e past h called = over-mine {A = Option ℕ} p None (first_passing test) e past h called

pub first-called : (p : ℕ) (test : Past → Entry → Bool) (e : Entry) (past : Past) → e.process ≡ p → has is_called e ≡ true → first_in_call p test (e ∷ past) ≡ None
first-called p test e past h called = over-called {A = Option ℕ} p None (first_passing test) e past h called

pub first-other : (p : ℕ) (test : Past → Entry → Bool) (e : Entry) (past : Past) → (e.process == p) ≡ false → first_in_call p test (e ∷ past) ≡ first_in_call p test past
first-other p test e past h = over-other {A = Option ℕ} p None (first_passing test) e past h

-- Counts are no more than the entries.

more_few : (b : Bool) (n m : ℕ) → n ≤ m → more_if b n ≤ suc m
more_few true n m h = omega arith
more_few false n m h = omega arith

pub count-few : (p : ℕ) (test : Past → Entry → Bool) (past : Past) → count_in_call p test past ≤ length past
count-few p test [] = omega arith
count-few p test (e ∷ past) = by (e.process == p) (has is_called e) (count-few p test past)
  where
    by : (mine called : Bool) → count_in_call p test past ≤ length past →
        (elim mine as (λ _. ℕ) [
          | false ↦ count_in_call p test past
          | true ↦ elim called as (λ _. ℕ) [ true ↦ 0 | false ↦ more_if (test past e) (count_in_call p test past) ]
        ]) ≤ suc (length past)
    by false called h = omega arith
    by true true h = omega arith
    by true false h = more_few (test past e) (count_in_call p test past) (length past) h

pub calls-few : (p : ℕ) (past : Past) → calls_in (own p past) ≤ length past
calls-few p [] = omega arith
calls-few p (e ∷ past) = by (e.process == p) (calls-few p past)
  where
    one : (called : Bool) → calls_in (own p past) ≤ length past → (elim called as (λ _. ℕ) [ true ↦ suc (calls_in (own p past)) | false ↦ calls_in (own p past) ]) ≤ suc (length past)
    one true h = omega arith
    one false h = omega arith

    by : (mine : Bool) → calls_in (own p past) ≤ length past → calls_in (cond mine (e ∷ own p past) (own p past)) ≤ suc (length past)
    by true h = one (has is_called e) h
    by false h = omega arith
