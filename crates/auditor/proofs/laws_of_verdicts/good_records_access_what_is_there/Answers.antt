use Rattle.auditor.proofs.Whole.{there_of}
use Rattle.auditor.proofs.laws_of_verdicts.good_records_access_what_is_there.Goals as goal

pub returns : goal.returns
returns x = there_of
