use Rattle.std.proofs.Common.{sym, ◌∙◌}
use Rattle.calls.proofs.Observed.{observes_by}
use Rattle.calls.proofs.Passing.{others_alone, reads_alone}
use Rattle.calls.proofs.table.CallTable.pass.Goals as goal

pub returns-then-is_of_read-clause-observed : goal.returns-then-is_of_read-clause-observed
returns-then-is_of_read-clause-observed c =
    let on = c.pass_on.ensures in
    let reads = sym c.is_of_read.ensures ∙ c.if-is_of_read.true in
    observes_by c.args.self.now c.pass_on.new.self c.args.process c.args.steps c.args.newest c.reads_among.result 0 c.args.overlapped c.requires.nonzero c.requires.room c.reads_among.ensures
    (sym (reads_alone c.args.steps c.args.newest reads)) on.setup on.count on.passed

pub returns-else-is_of_read-clause-observed : goal.returns-else-is_of_read-clause-observed
returns-else-is_of_read-clause-observed c =
    let on = c.pass_on-else-is_of_read.ensures in
    let others = sym c.is_of_read.ensures ∙ c.if-is_of_read.false in
    observes_by c.args.self.now c.pass_on-else-is_of_read.new.self c.args.process c.args.steps c.args.newest 0 c.writes_among.result c.args.overlapped c.requires.nonzero c.requires.room
    (sym (others_alone c.args.steps c.args.newest others)) c.writes_among.ensures on.setup on.count on.passed
