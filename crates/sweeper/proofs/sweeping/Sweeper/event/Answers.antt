use Rattle.std.proofs.Common.{arith}
use Rattle.sweeper.proofs.Counting.{cut_on, refused_on, room_for_first, room_for_second, room_on, unfailing_on}
use Rattle.sweeper.proofs.Dues.{few_due}
use Rattle.sweeper.proofs.sweeping.Sweeper.event.Goals as goal

pub make-requires : goal.make-requires
make-requires c =
    let room = c.requires.room in
    let due = few_due c.args.self.now.walker room.before room.swept.follows in
    let few = room.few_events in
    omega (arith, due, few)

pub returns-then-not-make : goal.returns-then-not-make
returns-then-not-make c =
    let on = refused_on c.args.calls.now c.args.event.now c.args.self.now c.make.new.self c.make.result c.make.ensures.follows c.make.ensures.setup c.make.ensures.accepted c.if-not-make.true in
    record { swept = on; room = room_on c.args.calls.now c.args.event.now c.args.self.now _ on }

pub returns-then-not-accepts : goal.returns-then-not-accepts
returns-then-not-accepts c =
    let on =
    unfailing_on c.args.calls.now c.args.event.now c.args.self.now c.make.new.self c.make.result c.make.ensures.follows c.make.ensures.setup c.make.ensures.accepted c.process-process.result c.accepts.result
    c.if-not-make.false c.process-process.ensures c.accepts.ensures c.if-not-accepts.true in
    record { swept = on; room = room_on c.args.calls.now c.args.event.now c.args.self.now _ on }

pub run-requires : goal.run-requires
run-requires c = room_for_first c.args.calls.now c.args.event.now c.args.self.now c.make.new.self c.make.result c.make.ensures.follows c.make.ensures.setup c.make.ensures.accepted c.requires.room

pub run-requires-2 : goal.run-requires-2
run-requires-2 c =
    room_for_second c.args.calls.now c.args.event.now c.args.self.now c.make.new.self c.make.result c.make.ensures.follows c.make.ensures.setup c.make.ensures.accepted c.run.new.self c.process-process.result c.process-process.ensures c.run.ensures c.requires.room

pub returns : goal.returns
returns c =
    let on =
    cut_on c.args.calls.now c.args.event.now c.args.self.now c.make.new.self c.make.result c.make.ensures.follows c.make.ensures.setup c.make.ensures.accepted c.run.new.self c.run-2.new.self c.process-process.result c.accepts.result
    c.if-not-make.false c.process-process.ensures c.accepts.ensures c.if-not-accepts.false c.run.ensures c.run-2.ensures in
    record { swept = on; room = room_on c.args.calls.now c.args.event.now c.args.self.now c.run-2.new.self on }
