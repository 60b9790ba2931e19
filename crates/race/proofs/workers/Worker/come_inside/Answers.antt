use Rattle.board.proofs.Drives.{same_on}
use Rattle.race.proofs.Calling.{comes_there, sets_out, still_on_its_way}
use Rattle.race.proofs.workers.Worker.come_inside.Goals as goal

pub loop-init : goal.loop-init
loop-init g c = sets_out c.args.self.now.board.now c.args.port.now c.requires.board c.requires.calling

pub loop-preserved : goal.loop-preserved
loop-preserved g c = still_on_its_way c.args.self.now.board.now c.args.port.now c.loop.port c.come_nearer.new.port c.loop.invariant c.in_default.ensures.same c.in_default.ensures.comes

pub returns-in-Some-come_nearer-clause-same : goal.returns-in-Some-come_nearer-clause-same
returns-in-Some-come_nearer-clause-same g c = same_on c.args.port.now c.loop.port c.come_nearer.new.port c.loop.invariant.same c.come_nearer.ensures.same

pub returns-in-Some-come_nearer-clause-comes : goal.returns-in-Some-come_nearer-clause-comes
returns-in-Some-come_nearer-clause-comes g c = comes_there c.args.self.now.board.now c.args.port.now c.loop.port c.come_nearer.new.port c.in-Some-come_nearer.reached c.loop.invariant c.in-Some-come_nearer.ensures.comes
