use Rattle.board.proofs.Drives.{same_on}
use Rattle.race.proofs.Calling.{comes_to_answer, goes_on_its_way, sets_out}
use Rattle.race.proofs.workers.Worker.finish.Goals as goal

pub loop-init : goal.loop-init
loop-init g c = sets_out c.args.self.now.board.now c.args.port.now c.requires.board c.requires.calling

pub loop-preserved : goal.loop-preserved
loop-preserved g c = goes_on_its_way c.args.self.now.board.now c.args.port.now c.loop.port c.drive.new.self _ c.loop.flicks c.drive.new.flicks c.drive.result c.loop.invariant c.drive.ensures.same c.drive.ensures.drives c.in-Turns.is

pub returns-in_default : goal.returns-in_default
returns-in_default g c = record {
  same = same_on c.args.port.now c.loop.port c.drive.new.self c.loop.invariant.same c.drive.ensures.same;
  answered = comes_to_answer c.args.self.now.board.now c.args.port.now c.loop.port c.drive.new.self _ c.loop.flicks c.drive.new.flicks c.drive.result c.loop.invariant c.drive.ensures.drives c.in_default.not-Turns;
}
