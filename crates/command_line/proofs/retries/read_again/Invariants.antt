use Rattle.std.proofs.Common.{◌≡◌, length}
use Rattle.std.specs.Io.KnownBytes.{Keeps}
use Rattle.command_line.proofs.retries.read_again.Given as goal

-- a read that failed took nothing
abbrev pub invariant-loop : goal.invariant-loop
invariant-loop g l = (length l.buffer ≡ length l.initial.buffer) × Keeps (g.R.Read.remaining l.initial.reader) (g.R.Read.remaining l.reader)
