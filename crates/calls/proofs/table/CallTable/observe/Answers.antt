use Rattle.calls.proofs.Observed.{Observes, observes_entry}
use Rattle.calls.proofs.table.CallTable.observe.Goals as goal

pub returns-clause-ended : goal.returns-clause-ended
returns-clause-ended c = λ past e p a m h turn.
    let all : Observes c.args.self.now c.go_on.new.self c.args.process c.args.known.now c.args.access.now c.args.marks.now c.go_on.result =
    observes_entry c.args.self.now c.go_on.new.self c.args.process c.args.known.now c.args.access.now c.args.marks.now c.go_on.result c.go_on.ensures.setup c.go_on.ensures.count c.requires c.go_on.ensures.step in
    (all past e p a m h turn).1

pub returns-clause-observed : goal.returns-clause-observed
returns-clause-observed c = λ past e p a m h turn.
    let all : Observes c.args.self.now c.go_on.new.self c.args.process c.args.known.now c.args.access.now c.args.marks.now c.go_on.result =
    observes_entry c.args.self.now c.go_on.new.self c.args.process c.args.known.now c.args.access.now c.args.marks.now c.go_on.result c.go_on.ensures.setup c.go_on.ensures.count c.requires c.go_on.ensures.step in
    (all past e p a m h turn).0
