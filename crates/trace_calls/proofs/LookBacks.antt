-- How the look-backs over a call continue with an entry.
use Rattle.std.proofs.Common.{◌≡◌, ℕ, suc, ◌+◌, ◌≤◌, ◌==◌, Bool, true, false, not, ◌&&◌, [], ◌∷◌, Option, None, length, refl, eq-eqb, arith}
use Rattle.calls.specs.{first_if, more_if}
use Rattle.trace.specs.{TraceEntry, TracePast}
use Rattle.trace_engine.specs.trace_judge.lock_stages.{is_call}
use Rattle.trace_calls.specs.Calls.{called_at, calls_of, count_in_call, first_in_call, has, is_answer, is_calling, over_call}

-- an entry of another process

pub calling-other : (p : ℕ) (e : TraceEntry) (past : TracePast) → (e.process == p) ≡ false → is_calling p (e ∷ past) ≡ is_calling p past
calling-other p e past h = rw (h, is_calling) refl

pub calls-other : (p : ℕ) (e : TraceEntry) (past : TracePast) → (e.process == p) ≡ false → calls_of p (e ∷ past) ≡ calls_of p past
calls-other p e past h = rw (h, calls_of) refl

pub at-other : (p : ℕ) (e : TraceEntry) (past : TracePast) → (e.process == p) ≡ false → called_at p (e ∷ past) ≡ called_at p past
at-other p e past h = rw (h, called_at) refl

over-other : {A : Type 0} (p : ℕ) (start : A) (with : TracePast → TraceEntry → A → A) (e : TraceEntry) (past : TracePast) → (e.process == p) ≡ false →
    over_call p start with (e ∷ past) ≡ over_call p start with past
over-other p start with e past h = rw (h, over_call) refl

-- an entry that begins a call

pub calling-called : (p : ℕ) (e : TraceEntry) (past : TracePast) → e.process ≡ p → has is_call e ≡ true → is_calling p (e ∷ past) ≡ true
calling-called p e past h some = rw (eq-eqb e.process p h, some, is_calling) refl

pub calls-called : (p : ℕ) (e : TraceEntry) (past : TracePast) → e.process ≡ p → has is_call e ≡ true → calls_of p (e ∷ past) ≡ calls_of p past + 1
calls-called p e past h some = rw (eq-eqb e.process p h, some, calls_of) refl

pub at-called : (p : ℕ) (e : TraceEntry) (past : TracePast) → e.process ≡ p → has is_call e ≡ true → called_at p (e ∷ past) ≡ length past
at-called p e past h some = rw (eq-eqb e.process p h, some, called_at) refl

over-called : {A : Type 0} (p : ℕ) (start : A) (with : TracePast → TraceEntry → A → A) (e : TraceEntry) (past : TracePast) → e.process ≡ p → has is_call e ≡ true →
    over_call p start with (e ∷ past) ≡ start
over-called p start with e past h some = rw (eq-eqb e.process p h, some, over_call) refl

-- another entry of the process

pub calling-mine : (p : ℕ) (e : TraceEntry) (past : TracePast) → e.process ≡ p → has is_call e ≡ false → is_calling p (e ∷ past) ≡ (is_calling p past && not (has is_answer e))
calling-mine p e past h none = rw (eq-eqb e.process p h, none, is_calling) refl

pub calls-mine : (p : ℕ) (e : TraceEntry) (past : TracePast) → e.process ≡ p → has is_call e ≡ false → calls_of p (e ∷ past) ≡ calls_of p past
calls-mine p e past h none = rw (eq-eqb e.process p h, none, calls_of) refl

pub at-mine : (p : ℕ) (e : TraceEntry) (past : TracePast) → e.process ≡ p → has is_call e ≡ false → called_at p (e ∷ past) ≡ called_at p past
at-mine p e past h none = rw (eq-eqb e.process p h, none, called_at) refl

over-mine : {A : Type 0} (p : ℕ) (start : A) (with : TracePast → TraceEntry → A → A) (e : TraceEntry) (past : TracePast) → e.process ≡ p → has is_call e ≡ false →
    over_call p start with (e ∷ past) ≡ with past e (over_call p start with past)
over-mine p start with e past h none = rw (eq-eqb e.process p h, none, over_call) refl

-- Counts, and first entries.

abbrev counting : (TracePast → TraceEntry → Bool) → TracePast → TraceEntry → ℕ → ℕ
counting test before e n = more_if (test before e) n

abbrev first_passing : (TraceEntry → Bool) → TracePast → TraceEntry → Option ℕ → Option ℕ
first_passing test before e found = first_if (test e) (length before) found

pub count-other : (p : ℕ) (test : TracePast → TraceEntry → Bool) (e : TraceEntry) (past : TracePast) → (e.process == p) ≡ false → count_in_call p test (e ∷ past) ≡ count_in_call p test past
count-other p test e past h = over-other {A = ℕ} p 0 (counting test) e past h

pub count-called : (p : ℕ) (test : TracePast → TraceEntry → Bool) (e : TraceEntry) (past : TracePast) → e.process ≡ p → has is_call e ≡ true → count_in_call p test (e ∷ past) ≡ 0
count-called p test e past h some = over-called {A = ℕ} p 0 (counting test) e past h some

pub count-mine : (p : ℕ) (test : TracePast → TraceEntry → Bool) (e : TraceEntry) (past : TracePast) → e.process ≡ p → has is_call e ≡ false →
    count_in_call p test (e ∷ past) ≡ more_if (test past e) (count_in_call p test past)
count-mine p test e past h none = over-mine {A = ℕ} p 0 (counting test) e past h none

pub first-other : (p : ℕ) (test : TraceEntry → Bool) (e : TraceEntry) (past : TracePast) → (e.process == p) ≡ false → first_in_call p test (e ∷ past) ≡ first_in_call p test past
first-other p test e past h = over-other {A = Option ℕ} p None (first_passing test) e past h

pub first-called : (p : ℕ) (test : TraceEntry → Bool) (e : TraceEntry) (past : TracePast) → e.process ≡ p → has is_call e ≡ true → first_in_call p test (e ∷ past) ≡ None
first-called p test e past h some = over-called {A = Option ℕ} p None (first_passing test) e past h some

pub first-mine : (p : ℕ) (test : TraceEntry → Bool) (e : TraceEntry) (past : TracePast) → e.process ≡ p → has is_call e ≡ false →
    first_in_call p test (e ∷ past) ≡ first_if (test e) (length past) (first_in_call p test past)
first-mine p test e past h none = over-mine {A = Option ℕ} p None (first_passing test) e past h none

-- No count exceeds the number of entries.

more_few : (b : Bool) (n m : ℕ) → n ≤ m → more_if b n ≤ suc m
more_few true n m h = omega arith
more_few false n m h = omega arith

pub count-few : (p : ℕ) (test : TracePast → TraceEntry → Bool) (past : TracePast) → count_in_call p test past ≤ length past
count-few p test [] = omega arith
count-few p test (e ∷ past) = by (e.process == p) (has is_call e) (count-few p test past)
  where
    by : (mine called : Bool) → count_in_call p test past ≤ length past →
        (elim mine as (λ _. ℕ) [
          | false ↦ count_in_call p test past
          | true ↦ elim called as (λ _. ℕ) [ true ↦ 0 | false ↦ more_if (test past e) (count_in_call p test past) ]
        ]) ≤ suc (length past)
    by false called h = omega arith
    by true true h = omega arith
    by true false h = more_few (test past e) (count_in_call p test past) (length past) h

pub calls-few : (p : ℕ) (past : TracePast) → calls_of p past ≤ length past
calls-few p [] = omega arith
calls-few p (e ∷ past) = by (e.process == p) (has is_call e) (calls-few p past)
  where
    by : (mine called : Bool) → calls_of p past ≤ length past →
        (elim mine as (λ _. ℕ) [
          | false ↦ calls_of p past
          | true ↦ elim called as (λ _. ℕ) [ true ↦ calls_of p past + 1 | false ↦ calls_of p past ]
        ]) ≤ suc (length past)
    by false called h = omega arith
    by true true h = omega (arith, h)
    by true false h = omega arith
