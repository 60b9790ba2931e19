-- The loops of a runner: while a test holds, and over a range of processes.
use Rattle.std.proofs.Common.{◌≡◌, ℕ, zero, suc, ◌+◌, ◌-◌, ◌<◌, ◌≤◌, ◌||◌, Bool, true, false, cond, List, [], ◌∷◌, ◌++◌, fold, slice_index_or, refl, ap, sym, subst, ◌∙◌, arith}
use Rattle.std.proofs.lemmas.Bool.{or_from}
use Rattle.std.proofs.lemmas.List.Folds.{list_any-append, list_any_at}
use Rattle.std.proofs.lemmas.List.FromFn.{get_or-range_with_len, length-range_with_len}
use Rattle.std.proofs.lemmas.List.Sums.{fold-append}
use Rattle.std.specs.List.{list_any, range_with_len}
use Rattle.plain_store.specs.{Setup}
use Rattle.model.specs.{Event}
use Rattle.model.specs.declared.events.Event.TheVariants.{Step}
use Rattle.sweeper.specs.{Follows, OfRun, RunnerState, RunsBy, as_long_as}

-- some of the loop is done: the rest leads from the present run to the run to which the whole loop leads from the first one
pub record Going (test : List Event → Bool) (on : List Event → List Event) (most : ℕ) (events : List Event) (r : RunnerState) (remaining : ℕ) : Type 0 where
  pub now : List Event
  pub follows : Follows r now
  pub whole : as_long_as test on remaining now ≡ as_long_as test on most events

-- one more iteration
again : (test : List Event → Bool) (on : List Event → List Event) (remaining : ℕ) (now : List Event) → 0 < remaining → test now ≡ true → as_long_as test on remaining now ≡ as_long_as test on (remaining - 1) (on now)
again test on zero now some holds = absurd (omega (arith, some))
again test on (suc n) now some holds =
    let less : n ≡ suc n - 1 = omega arith in
    ap (λ b. cond b (as_long_as test on n (on now)) now) holds ∙ ap (λ n. as_long_as test on n (on now)) less

-- the test fails
pub ended : (test : List Event → Bool) (on : List Event → List Event) (remaining : ℕ) (now : List Event) → test now ≡ false → as_long_as test on remaining now ≡ now
ended test on zero now fails = refl
ended test on (suc n) now fails = ap (λ b. cond b (as_long_as test on n (on now)) now) fails

-- first at most m times, and then at most n times
pub as_long_more : (test : List Event → Bool) (on : List Event → List Event) (m n : ℕ) (now : List Event) → as_long_as test on (m + n) now ≡ as_long_as test on n (as_long_as test on m now)
as_long_more test on zero n now = let none : 0 + n ≡ n = omega arith in ap (λ n. as_long_as test on n now) none
as_long_more test on (suc m) n now =
    let all : suc m + n ≡ suc (m + n) = omega arith in
    ap (λ n. as_long_as test on n now) all ∙ by (as_long_more test on m n (on now)) (test now) refl
  where
    by : as_long_as test on (m + n) (on now) ≡ as_long_as test on n (as_long_as test on m (on now)) → (b : Bool) → test now ≡ b →
        cond b (as_long_as test on (m + n) (on now)) now ≡ as_long_as test on n (cond b (as_long_as test on m (on now)) now)
    by more true holds = more
    by more false fails = sym (ended test on n now fails)

-- related runs stay related, if the test is equal for them and the function keeps the relation
pub related_repeated : (Related : List Event → List Event → Type 0) (test : List Event → Bool) (on : List Event → List Event) → ((x y : List Event) → Related x y → test x ≡ test y) → ((x y : List Event) → Related x y → Related (on x) (on y)) →
    (n : ℕ) (x y : List Event) → Related x y → Related (as_long_as test on n x) (as_long_as test on n y)
related_repeated Related test on asks kept zero x y same = same
related_repeated Related test on asks kept (suc n) x y same = by (test x) (test y) (asks x y same) (related_repeated Related test on asks kept n (on x) (on y) (kept x y same))
  where
    by : (b c : Bool) → b ≡ c → Related (as_long_as test on n (on x)) (as_long_as test on n (on y)) → Related (cond b (as_long_as test on n (on x)) x) (cond c (as_long_as test on n (on y)) y)
    by true true h more = more
    by true false h more = cc
    by false true h more = cc
    by false false h more = same

-- the loop of a runner of this setup, which computes whether the test holds
module _ (test : Setup → List Event → Bool) (on : Setup → List Event → List Event) (s : Setup) (most : ℕ) (events : List Event) (r : RunnerState) (remaining : ℕ) (same : r.core.setup ≡ s) where
  asked : (reported b : Bool) → OfRun r (λ s now. reported ≡ test s now) → reported ≡ b → (now : List Event) → Follows r now → test s now ≡ b
  asked reported b asks is now here = sym (asks now here ∙ ap (λ s. test s now) same) ∙ is

  pub going_on : (new : RunnerState) (reported : Bool) → 0 < remaining → OfRun r (λ s now. reported ≡ test s now) → reported ≡ true → RunsBy r new on → Going (test s) (on s) most events r remaining → Going (test s) (on s) most events new (remaining - 1)
  going_on new reported some asks holds makes g = record {
    now = on s g.now;
    follows = subst (λ s. Follows new (on s g.now)) same (makes g.now g.follows);
    whole = sym (again (test s) (on s) remaining g.now some (asked reported true asks holds g.now g.follows)) ∙ g.whole;
  }

  -- it makes several iterations at once, while the test holds
  pub going_by : (new : RunnerState) (by : ℕ) → by ≤ remaining → RunsBy r new (λ s. as_long_as (test s) (on s) by) → Going (test s) (on s) most events r remaining → Going (test s) (on s) most events new (remaining - by)
  going_by new by few makes g = record {
    now = as_long_as (test s) (on s) by g.now;
    follows = subst (λ s. Follows new (as_long_as (test s) (on s) by g.now)) same (makes g.now g.follows);
    whole =
        let all : by + (remaining - by) ≡ remaining = omega (arith, few) in
        sym (as_long_more (test s) (on s) by (remaining - by) g.now) ∙ ap (λ n. as_long_as (test s) (on s) n g.now) all ∙ g.whole;
  }

  pub going_ended : (reported : Bool) → OfRun r (λ s now. reported ≡ test s now) → reported ≡ false → Going (test s) (on s) most events r remaining → Follows r (as_long_as (test s) (on s) most events)
  going_ended reported asks fails g = subst (Follows r) (sym (ended (test s) (on s) remaining g.now (asked reported false asks fails g.now g.follows)) ∙ g.whole) g.follows

  pub going_over : remaining ≡ 0 → Going (test s) (on s) most events r remaining → Follows r (as_long_as (test s) (on s) most events)
  going_over none g = subst (Follows r) (sym (ap (λ n. as_long_as (test s) (on s) n g.now) none) ∙ g.whole) g.follows

-- Over a range.

-- one number more
more_from : (a n j : ℕ) → a + n ≡ j → range_with_len a (suc n) ≡ range_with_len a n ++ j ∷ []
more_from a zero j is = let here : a ≡ j = omega (arith, is) in ap (λ x. x ∷ []) here
more_from a (suc n) j is = ap (λ l. a ∷ l) (more_from (a + 1) n j (omega (arith, is)))

range_more : (k : ℕ) → range_with_len 0 (k + 1) ≡ range_with_len 0 k ++ k ∷ []
range_more k = let on : k + 1 ≡ suc k = omega arith in ap (range_with_len 0) on ∙ more_from 0 k k (omega arith)

-- no process of the range passes the test, and one more does not either
pub none_more : (f : ℕ → Bool) (k : ℕ) → list_any f (range_with_len 0 k) ≡ false → f k ≡ false → list_any f (range_with_len 0 (k + 1)) ≡ false
none_more f k none here =
    ap (list_any f) (range_more k) ∙ list_any-append f (range_with_len 0 k) (k ∷ []) ∙ or_from (list_any f (range_with_len 0 k)) (f k || false) none (or_from (f k) false here refl)

-- one process of the range passes the test
pub any_here : (f : ℕ → Bool) (k n : ℕ) → k < n → f k ≡ true → list_any f (range_with_len 0 n) ≡ true
any_here f k n below passes =
    let start : 0 + k ≡ k = omega arith in
    let at : slice_index_or (range_with_len 0 n) k 0 ≡ k = get_or-range_with_len 0 n k 0 below ∙ start in
    let long = length-range_with_len 0 n in
    list_any_at f (range_with_len 0 n) k 0 (omega (arith, long, below)) (ap f at ∙ passes)

-- a step of each process of the range, and of one more
pub round_more : (v : Bool) (k : ℕ) (events : List Event) → Step k v ∷ fold (λ events p. Step p v ∷ events) events (range_with_len 0 k) ≡ fold (λ events p. Step p v ∷ events) events (range_with_len 0 (k + 1))
round_more v k events =
    sym (ap (fold (λ events p. Step p v ∷ events) events) (range_more k) ∙ fold-append (λ events p. Step p v ∷ events) events (range_with_len 0 k) (k ∷ []))
