use Rattle.std.proofs.Common.{refl}
use Rattle.board.proofs.Drives.{same_on}
use Rattle.race.proofs.workers.Worker.pass.Goals as goal

pub returns-clause-same : goal.returns-clause-same
returns-clause-same g c = same_on c.args.port.now c.fail.new.self c.take_down.new.port c.fail.ensures.same c.take_down.ensures.same

pub returns-clause-fault : goal.returns-clause-fault
returns-clause-fault g c = (refl, cc)
