use Rattle.std.proofs.Common.{◌∙◌}
use Rattle.any_lock.proofs.Unmarked.{no_marks}
use Rattle.any_lock.proofs.lock_run.LockRun.observe.Goals as goal

pub returns-in-empty-clause-knows : goal.returns-in-empty-clause-knows
returns-in-empty-clause-knows c = λ past e p a m knows. c.observe_unmarked.ensures.knows past e p a (m ∙ no_marks c.args.marks.now c.in-empty.len_below) knows
