use Rattle.std.proofs.Common.{◌≡◌, Some, length}
use Rattle.call_check.specs.{AreFew, AreNotedBelow, all_calls, store_at}
use Rattle.model.specs.{lists_of}
use Rattle.call_check.proofs.notes.CallNotes.follow.Given as goal

-- so far there is one change at each place, and its calls are noted
abbrev pub invariant-loop-place : goal.invariant-loop-place
invariant-loop-place l = record {
  size : length l.notes.items ≡ length (all_calls (lists_of l.lists));
  last : AreFew l.setup (all_calls (lists_of l.lists)) → store_at l.setup (all_calls (lists_of l.lists)) l.place ≡ Some l.store;
  notes : AreFew l.setup (all_calls (lists_of l.lists)) → AreNotedBelow l.setup (all_calls (lists_of l.lists)) l.place l.notes.items;
}
