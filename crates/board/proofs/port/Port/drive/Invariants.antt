use Rattle.board.specs.{IsOf}
use Rattle.board.proofs.Drives.{IsDriven}
use Rattle.board.proofs.port.Port.drive.Given as goal

abbrev pub invariant-loop-made : goal.invariant-loop-made
invariant-loop-made l = record {
  board : IsOf l.board l.self;
  driven : IsDriven l.fn.self l.fn.flicks l.made l.self l.flicks;
}
