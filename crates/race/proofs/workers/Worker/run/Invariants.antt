use Rattle.std.specs.Prelude.{take}
use Rattle.race.specs.{HasMade}
use Rattle.race.proofs.workers.Worker.run.Given as goal

abbrev pub invariant-loop-command : goal.invariant-loop-command
invariant-loop-command g l = HasMade l.self.board.now l.self.number (take l.command-index l.plan) l.port
