use Rattle.command_line.proofs.opened.reports_now.Goals as goal

pub returns-then-branch-clause-reported : goal.returns-then-branch-clause-reported
returns-then-branch-clause-reported c is rest = c.in_ok-is_reported.ensures.reported c.if-branch.true rest
