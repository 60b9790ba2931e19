use Rattle.std.proofs.Common.{◌≡◌, ℕ, suc, ◌≤◌, Some, drop, filter, length}
use Rattle.std.specs.List.{slice_get}
use Rattle.plain_store.specs.{callers_of, changes}
use Rattle.call_check.specs.{AreFew, AreNotedFrom, Call, all_calls, calls_at, changes_of}
use Rattle.model.specs.{lists_of}
use Rattle.call_check.proofs.notes.note_place.Given as goal

-- the calls with the place are noted from the present one on
abbrev pub invariant-chain : goal.invariant-chain
invariant-chain l = record {
  within : l.calls ≤ length (all_calls (lists_of l.lists));
  size : length l.notes.items ≡ length l.fn.notes.items;
  last : (j : ℕ) (call : Call) → l.calls ≡ suc j → slice_get (all_calls (lists_of l.lists)) j ≡ Some call → call.placed.place ≡ Some l.place;
  found : l.found ≡ changes_of (filter (λ (call : Call). changes l.store call.placed.command) (calls_at (drop l.calls (all_calls (lists_of l.lists))) l.place));
  notes : AreFew l.setup (all_calls (lists_of l.lists)) → length l.store.numbers ≡ callers_of l.setup → AreNotedFrom l.setup (all_calls (lists_of l.lists)) l.place l.calls l.store l.fn.notes.items l.notes.items;
}

abbrev pub decreases-chain : goal.decreases-chain
decreases-chain l = l.calls
