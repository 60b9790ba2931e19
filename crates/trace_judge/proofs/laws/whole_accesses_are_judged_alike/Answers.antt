use Rattle.trace_judge.proofs.Whole.{verdict-same}
use Rattle.trace_judge.proofs.WholeReasons.{reasons-same}
use Rattle.trace_judge.proofs.laws.whole_accesses_are_judged_alike.Goals as goal

pub returns : goal.returns
returns c = λ s past m other good whole. record {
  verdict = verdict-same s m other past whole;
  reasons = λ judged e l r. reasons-same s m other past good whole judged e l r;
}
