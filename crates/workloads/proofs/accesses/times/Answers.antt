use Rattle.std.proofs.Common.{false}
use Rattle.register_drive.proofs.Steps.{new_written, new_idle}
use Rattle.workloads.proofs.accesses.times.Goals as goal

pub timed-requires-clause-written : goal.timed-requires-clause-written
timed-requires-clause-written g c = (λ _. false, new_written 1728 16 _ c.in_ok-register.ensures.register)

pub timed-requires-clause-idle : goal.timed-requires-clause-idle
timed-requires-clause-idle g c = new_idle 1728 16 _ 0 c.in_ok-register.ensures.register
