-- A failure cuts a call or a withdrawal at its place.
use Rattle.model.proofs.CutRecords.{running-cut, withdrawn-cut, rest-cut, call-bit, commit-pending, withdrawal-bit}
use Rattle.model.proofs.Width.{is_good}
use Rattle.model.proofs.laws.failures_cut_at_the_place.Goals as goal

pub returns : goal.returns
returns x = record {
  call = λ s h events p command b run. running-cut s (is_good s h) events p command b run;
  withdrawal = λ s h events p b st. withdrawn-cut s (is_good s h) events p b st;
  rest = λ s h events p st. rest-cut s (is_good s h) events p st;
  call_bit = λ s h events p command t b run torn. call-bit s (is_good s h) events p command t b run torn;
  commit_bit = λ s h events p command t b run torn f. commit-pending s (is_good s h) events p command t b run torn f;
  withdrawal_bit = λ c h flicks t torn. withdrawal-bit c (is_good c.setup h) flicks t torn;
}
