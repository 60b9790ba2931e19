-- An entry with an access and no mark.
use Rattle.std.proofs.Common.{◌≡◌, ℕ, ◌<◌, false, List, [], ◌∷◌, Some, length, get_or, slice_get, refl, sym, ap, ◌∙◌, arith}
use Rattle.std.proofs.lemmas.Option.{slice_get-get_or, slice_get_within}
use Rattle.std.specs.List.{list_any}
use Rattle.model.specs.{Access, Entry, Mark, Past}
use Rattle.any_lock.specs.{LockRunState, Knows, ProcessView, accessed, is_taken, process_view}
use Rattle.any_lock.proofs.Going.{kept_with, knows_on}
use Rattle.any_lock.proofs.Steps.{bare, process_view-access}

-- an access changes the state of its process alone
pub unmarked_on : (k : LockRunState) (past : Past) (e : Entry) (a : Access) (before : ProcessView) → e.process < k.setup.processes → e.access ≡ Some a → e.marks ≡ [] → slice_get k.process_views e.process ≡ Some before → Knows k past →
    Knows (kept_with k e.process before (accessed k.entries before a) false) (e ∷ past)
unmarked_on k past e a before below acc none there knows =
    knows_on k past e before (accessed k.entries before a) false below there (ap (list_any is_taken) none) same_view knows
  where
    is : e ≡ bare e.process (Some a)
    is = λ i. record { process = e.process; access = acc i; marks = none i }

    was : before ≡ process_view k.setup e.process past
    was = let both : Some before ≡ Some (process_view k.setup e.process past) = sym there ∙ knows.process_views e.process below in cc

    same_view : accessed k.entries before a ≡ process_view k.setup e.process (e ∷ past)
    same_view = (λ i. accessed (knows.entries i) (was i) a) ∙ sym (process_view-access k.setup e.process (Some a) past) ∙ ap (λ (x : Entry). process_view k.setup e.process (x ∷ past)) (sym is)

-- a list of length below 1 is empty
pub no_marks : (ms : List Mark) → length ms < 1 → ms ≡ []
no_marks [] few = refl
no_marks (m ∷ ms) few = absurd (omega (arith, few))

-- the item at an index, looked up in two ways
pub given_at : (xs : List ProcessView) (i : ℕ) (x k : ProcessView) → slice_get xs i ≡ Some k → get_or xs i x ≡ k
given_at xs i x k is = let both : Some (get_or xs i x) ≡ Some k = sym (slice_get-get_or xs i x (slice_get_within xs i k is)) ∙ is in cc
