use Rattle.reader_copies.proofs.Writing.{partly_written-start, partly_written-carry, partly_written-end, partly_written-cut}
use Rattle.reader_copies.proofs.Steps.{write_can, write_on}
use Rattle.reader_copies.proofs.laws.writes_reach_all_copies.Goals as goal

pub returns : goal.returns
returns c = record { begins = partly_written-start; may_go_on = write_can; goes_on = write_on; carries = partly_written-carry; ends = partly_written-end; cut_between_bits = partly_written-cut }
