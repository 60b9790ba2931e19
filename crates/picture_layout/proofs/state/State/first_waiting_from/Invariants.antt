use Rattle.std.proofs.Common.{◌≡◌, drop}
use Rattle.picture_layout.specs.{first_waiting}
use Rattle.picture_layout.proofs.state.State.first_waiting_from.Given as goal

-- no process before the present one waits
abbrev pub invariant-loop-place : goal.invariant-loop-place
invariant-loop-place l = first_waiting l.self.stages (drop l.from l.queue) ≡ first_waiting l.self.stages (drop l.place l.queue)
