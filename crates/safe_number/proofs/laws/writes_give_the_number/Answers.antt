use Rattle.safe_number.proofs.IntervalSteps.{writing-interval}
use Rattle.safe_number.proofs.WrittenSteps.{writing-start, writing-can, writing-on, writing-end}
use Rattle.safe_number.proofs.laws.writes_give_the_number.Goals as goal

pub returns : goal.returns
returns c = record { begins = writing-start; may_go_on = writing-can; goes_on = writing-on; over_interval = writing-interval; ends = writing-end }
