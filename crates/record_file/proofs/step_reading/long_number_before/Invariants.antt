use Rattle.std.proofs.Common.{◌≡◌, ◌++◌, length}
use Rattle.std.specs.Fmt.{decimal}
use Rattle.record_file.proofs.step_reading.long_number_before.Given as goal

-- the number so far, and the remaining bytes
abbrev pub invariant-digits : goal.invariant-digits
invariant-digits l = l.bytes ≡ decimal l.number ++ l.rest

abbrev pub decreases-digits : goal.decreases-digits
decreases-digits l = length l.rest
