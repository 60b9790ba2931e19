use Rattle.safe_number.proofs.IntervalSteps.{undisturbed-interval, written-interval}
use Rattle.safe_number.proofs.WrittenSteps.{undisturbed-start, undisturbed-on, undisturbed-apart}
use Rattle.safe_number.proofs.laws.undisturbed_reads_give_the_number.Goals as goal

pub returns : goal.returns
returns c = record { begins = undisturbed-start; goes_on = undisturbed-on; apart = undisturbed-apart; over_interval = undisturbed-interval; written = written-interval }
