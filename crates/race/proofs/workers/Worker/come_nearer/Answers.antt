use Rattle.board.proofs.Drives.{same_on}
use Rattle.race.proofs.Calling.{comes_to_answer, goes_on_its_way, is_inside, sets_out}
use Rattle.race.proofs.workers.Worker.come_nearer.Goals as goal

pub loop-init : goal.loop-init
loop-init g c = sets_out c.args.self.now.board.now c.args.port.now c.requires.board c.requires.calling

pub returns-in_default : goal.returns-in_default
returns-in_default g c = record {
  same = same_on c.args.port.now c.loop.port c.drive.new.self c.loop.invariant.same c.drive.ensures.same;
  comes = comes_to_answer c.args.self.now.board.now c.args.port.now c.loop.port c.drive.new.self _ c.loop.flicks c.drive.new.flicks c.drive.result c.loop.invariant c.drive.ensures.drives c.in_default.not-Turns;
}

pub returns-then-eq-clause-comes : goal.returns-then-eq-clause-comes
returns-then-eq-clause-comes g c =
    is_inside c.args.self.now.board.now c.args.port.now c.drive.new.self
    (goes_on_its_way c.args.self.now.board.now c.args.port.now c.loop.port c.drive.new.self _ c.loop.flicks c.drive.new.flicks c.drive.result c.loop.invariant c.drive.ensures.same c.drive.ensures.drives c.in-Turns.is)

pub loop-preserved : goal.loop-preserved
loop-preserved g c = goes_on_its_way c.args.self.now.board.now c.args.port.now c.loop.port c.drive.new.self _ c.loop.flicks c.drive.new.flicks c.drive.result c.loop.invariant c.drive.ensures.same c.drive.ensures.drives c.in-Turns.is
