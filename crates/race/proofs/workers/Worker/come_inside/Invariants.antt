use Rattle.race.proofs.Calling.{IsOnItsWay}
use Rattle.race.proofs.workers.Worker.come_inside.Given as goal

abbrev pub invariant-loop : goal.invariant-loop
invariant-loop g l = IsOnItsWay l.self.board.now l.fn.port l.port
