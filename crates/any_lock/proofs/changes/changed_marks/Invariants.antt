use Rattle.std.proofs.Common.{◌≡◌, ◌++◌, map, drop}
use Rattle.any_lock.specs.{mark_with}
use Rattle.any_lock.proofs.changes.changed_marks.Given as goal

-- the marks so far, and the remaining marks
abbrev pub invariant-loop-mark : goal.invariant-loop-mark
invariant-loop-mark l = l.with.items ++ map (mark_with l.change) (drop l.mark-index l.marks) ≡ map (mark_with l.change) l.marks
