use Rattle.safe_number.proofs.WrittenSteps.{reading-start, reading-on, reading-apart}
use Rattle.safe_number.proofs.laws.reads_take_turns.Goals as goal

pub returns : goal.returns
returns c = record { begins = reading-start; goes_on = reading-on; apart = reading-apart }
