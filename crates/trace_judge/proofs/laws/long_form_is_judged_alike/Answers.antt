use Rattle.trace_judge.proofs.LongForms.{long-form-same}
use Rattle.trace_judge.proofs.laws.long_form_is_judged_alike.Goals as goal

pub returns : goal.returns
returns c = long-form-same
