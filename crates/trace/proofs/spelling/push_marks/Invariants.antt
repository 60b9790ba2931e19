use Rattle.std.proofs.Common.{◌≡◌, ◌++◌, drop}
use Rattle.trace.specs.{marks_text}
use Rattle.trace.proofs.spelling.push_marks.Given as goal

-- what is written, and the marks from the present one on
abbrev pub invariant-marks : goal.invariant-marks
invariant-marks l = l.text.items ++ marks_text (drop l.mark-index l.marks) ≡ l.fn.text.items ++ marks_text l.marks
