use Rattle.std.proofs.Common.{sym}
use Rattle.std.proofs.lemmas.Bool.{ltb-true}
use Rattle.workloads.proofs.PortsOf.{port_is_of}
use Rattle.workloads.proofs.boards.alone.Goals as goal

pub timed_alone-requires : goal.timed_alone-requires
timed_alone-requires g c = port_is_of c.in_ok-board.board c.in_ok-board.ports.items c.in_ok-board.ensures.ports 0 _ (ltb-true 0 _ (sym c.in-Some.ensures.item.0)) c.in-Some.ensures.value
