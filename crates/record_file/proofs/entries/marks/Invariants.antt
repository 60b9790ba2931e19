use Rattle.std.specs.Prelude.{◌≡◌, ◌+◌, ◌≤◌, ℕ, length, IfOk, Option, Some, None, List, [], Ok}
use Rattle.std.specs.Borrow.{Bor}
use Rattle.record_file.specs.{marks_read, parts_behind}
use Rattle.record_file.proofs.entries.marks.Given as goal

-- the number of words after the sign, and one more for the sign
abbrev pub words_remaining : {A : Type 0} → Option (Bor (List A)) → ℕ
words_remaining None = 0
words_remaining (Some words) = 1 + length words.now

-- reading the remaining marks gives the result of reading all marks
abbrev pub invariant-marks : goal.invariant-marks
invariant-marks l = record {
  read : marks_read l.number (parts_behind l.remaining) l.marks ≡ marks_read 0 (parts_behind l.signed) (Ok []);
  few : IfOk l.marks (λ marks. length marks ≤ l.number);
  within : l.number + words_remaining l.remaining ≤ words_remaining l.signed;
}

abbrev pub decreases-marks : goal.decreases-marks
decreases-marks l = words_remaining l.remaining
