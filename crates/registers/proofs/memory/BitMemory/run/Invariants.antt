use Rattle.std.proofs.Common.{◌-◌, ◌<◌}
use Rattle.registers.proofs.Runs.{HasRun}
use Rattle.registers.proofs.memory.BitMemory.run.Given as goal

abbrev pub invariant-steps : goal.invariant-steps
invariant-steps l = (l.made < l.steps) × HasRun l.made l.overlapped (l.initial.cursor, l.initial.self, l.initial.flicks) (l.cursor, l.self, l.flicks)

abbrev pub decreases-steps : goal.decreases-steps
decreases-steps l = l.steps - l.made
