use Rattle.std.specs.Io.KnownBytes.{Keeps}
use Rattle.command_line.proofs.retries.write_again.Given as goal

-- a write that failed has taken no bytes
abbrev pub invariant-loop : goal.invariant-loop
invariant-loop g l = Keeps (g.W.Write.contents l.initial.writer) (g.W.Write.contents l.writer)
