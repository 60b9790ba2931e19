use Rattle.judge.proofs.Good.{good_keeps}
use Rattle.judge.proofs.GoodIsGood.{doorways_are_one, good_is_good}
use Rattle.judge.proofs.common_laws.good_records_keep_laws_of_any_lock.Goals as goal

pub returns-clause-good : goal.returns-clause-good
returns-clause-good c = good_is_good

pub returns-clause-doorways : goal.returns-clause-doorways
returns-clause-doorways c = doorways_are_one

pub returns-clause-laws : goal.returns-clause-laws
returns-clause-laws c = good_keeps
