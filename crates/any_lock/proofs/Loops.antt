-- The rest of a list in a loop, and the refusals of marks and accesses.
use Rattle.std.proofs.Common.{◌≡◌, ℕ, suc, ◌+◌, ◌<◌, ◌≤◌, Bool, true, false, List, [], ◌∷◌, ◌++◌, Option, None, Some, length, get_or, drop, refl, sym, ap, ◌∙◌, add-one, drop-cons}
use Rattle.std.proofs.lemmas.List.{drop_all}
use Rattle.plain_store.specs.{Setup}
use Rattle.model.specs.{Mark}
use Rattle.any_lock.specs.{MarkRefusal, ProcessView, first_that, mark_refusal, marked, refusal_on}

-- the rest of a list is its first item, followed by a shorter rest
pub dropped_more : {A : Type 0} (xs : List A) (i : ℕ) (x : A) → i < length xs → x ≡ get_or xs i x → drop i xs ≡ x ∷ drop (i + 1) xs
dropped_more xs i x within is = drop-cons xs i x within ∙ ap (λ y. y ∷ drop (suc i) xs) (sym is) ∙ ap (λ k. x ∷ drop k xs) (sym (add-one i))

-- the rest after the last item is empty
pub dropped_all : {A : Type 0} (xs : List A) (i : ℕ) → length xs ≤ i → drop i xs ≡ []
dropped_all xs i past = drop_all i xs past

-- the refusal of the first mark, or of a later one
pub refused_here : (s : Setup) (entry : ℕ) (k : ProcessView) (m : Mark) (marks : List Mark) (r : MarkRefusal) → mark_refusal k m ≡ Some r → refusal_on s entry k (m ∷ marks) ≡ Some r
refused_here s entry k m marks r h = ap (λ o. elim o as (λ _. Option MarkRefusal) [ Some q ↦ Some q | None ↦ refusal_on s entry (marked s entry k m) marks ]) h

pub refused_later : (s : Setup) (entry : ℕ) (k : ProcessView) (m : Mark) (marks : List Mark) → mark_refusal k m ≡ None → refusal_on s entry k (m ∷ marks) ≡ refusal_on s entry (marked s entry k m) marks
refused_later s entry k m marks h = ap (λ o. elim o as (λ _. Option MarkRefusal) [ Some q ↦ Some q | None ↦ refusal_on s entry (marked s entry k m) marks ]) h

-- the first of two tables that refuses
pub first_of_two : {R : Type 0} (rows more : List (Bool × R)) → first_that (rows ++ more) ≡ elim (first_that rows) as (λ _. Option R) [ Some r ↦ Some r | None ↦ first_that more ]
first_of_two [] more = refl
first_of_two ((true, r) ∷ rows) more = refl
first_of_two ((false, r) ∷ rows) more = first_of_two rows more
