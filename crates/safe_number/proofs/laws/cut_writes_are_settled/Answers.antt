use Rattle.safe_number.proofs.IntervalSteps.{cut-between, settling-start, torn-start, torn-inside, settling-can, settling-on, settled-stays, settling-end, cut-settled}
use Rattle.safe_number.proofs.laws.cut_writes_are_settled.Goals as goal

pub returns : goal.returns
returns c = record { cut = cut-between; begins = settling-start; is_new = torn-start; inside = torn-inside; may_go_on = settling-can; goes_on = settling-on; value_stays = settled-stays; ends = settling-end; settled = cut-settled }
