use Rattle.std.proofs.Common.{◌≡◌, ℕ, ◌≤◌, List, [], ◌∷◌, length, Result, Ok}
use Rattle.files.specs.{FaultKind, words_of}
use Rattle.trace.specs.{LockMark}
use Rattle.trace_file.specs.{marks_read, parts_of}
use Rattle.trace_file.proofs.LineWords.{AreRead}
use Rattle.trace_file.proofs.lines.marks_in.Given as goal

-- reading the marks that remain has the outcome of reading all
abbrev pub invariant-marks : goal.invariant-marks
invariant-marks l = record {
  room : 4 ≤ l.marks.capacity;
  read : (parts : List (List (List ℕ))) (all : Result (List LockMark) FaultKind) → parts_of (words_of l.rest) ≡ [] ∷ parts → marks_read (length l.marks.items) parts (Ok l.marks.items) ≡ all → AreRead (words_of l.line) all;
}

abbrev pub decreases-marks : goal.decreases-marks
decreases-marks l = length l.rest
