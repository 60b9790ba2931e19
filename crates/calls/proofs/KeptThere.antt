-- The state at a process's index is that of the process.
use Rattle.std.proofs.Common.{◌≡◌, ℕ, List, Some, get_or, slice_get, sym, ◌∙◌}
use Rattle.std.proofs.lemmas.Option.{slice_get-get_or, slice_get_within}
use Rattle.calls.specs.{CallState, TableState}

-- the item at an index, looked up in two ways
given_at : (xs : List CallState) (i : ℕ) (x k : CallState) → slice_get xs i ≡ Some k → get_or xs i x ≡ k
given_at xs i x k is = let both : Some (get_or xs i x) ≡ Some k = sym (slice_get-get_or xs i x (slice_get_within xs i k is)) ∙ is in cc

pub kept_there : (t now : TableState) (i p : ℕ) (x k : CallState) → t ≡ now → i ≡ p → x ≡ get_or t.call_states i x → slice_get now.call_states p ≡ Some k → x ≡ k
kept_there t now i p x k is same read there = read ∙ given_at t.call_states i x k ((λ j. slice_get (is j).call_states (same j)) ∙ there)
