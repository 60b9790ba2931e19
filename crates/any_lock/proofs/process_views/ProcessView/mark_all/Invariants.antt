use Rattle.std.proofs.Common.{◌≡◌, drop}
use Rattle.any_lock.specs.{marked_all, refusal_on}
use Rattle.any_lock.proofs.process_views.ProcessView.mark_all.Given as goal

-- the refusal and the state, from the present mark on
abbrev pub invariant-loop-mark : goal.invariant-loop-mark
invariant-loop-mark l = record {
  refused : refusal_on l.setup l.entry l.fn.self l.marks ≡ refusal_on l.setup l.entry l.self (drop l.mark-index l.marks);
  marked : marked_all l.setup l.entry l.fn.self l.marks ≡ marked_all l.setup l.entry l.self (drop l.mark-index l.marks);
}
