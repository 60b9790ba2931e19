use Rattle.judge.proofs.Mays.{only_steps_keep, steps_keep}
use Rattle.judge.proofs.laws_of_reasons.only_steps_keep_all_laws.Goals as goal

pub returns-clause-keep : goal.returns-clause-keep
returns-clause-keep x = steps_keep

pub returns-clause-only : goal.returns-clause-only
returns-clause-only x = only_steps_keep
