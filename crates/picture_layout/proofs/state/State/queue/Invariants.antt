use Rattle.std.proofs.Common.{◌≡◌}
use Rattle.picture_layout.specs.{line_of_first}
use Rattle.picture_layout.proofs.state.State.queue.Given as goal

-- the queue of the processes before the present one
abbrev pub invariant-loop-process : goal.invariant-loop-process
invariant-loop-process l = l.queue.items ≡ line_of_first l.self l.process
