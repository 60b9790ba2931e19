use Rattle.std.proofs.Common.{◌≡◌, ◌++◌, drop, flat_map}
use Rattle.record_file.specs.{behind_spaces, signed_words}
use Rattle.record_file.proofs.printing.push_marks.Given as goal

-- the line so far and the marks to come are the whole line
abbrev pub invariant-loop-mark : goal.invariant-loop-mark
invariant-loop-mark l = l.line.items ++ behind_spaces (flat_map signed_words (drop l.mark-index l.marks)) ≡ l.fn.line.items ++ behind_spaces (flat_map signed_words l.marks)
