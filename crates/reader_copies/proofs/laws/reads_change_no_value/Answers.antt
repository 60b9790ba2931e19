use Rattle.reader_copies.proofs.Writing.{read-keeps, drop-keeps, drops-keep, call-keeps, written-kept, partly_written-kept, partly_settled-kept}
use Rattle.reader_copies.proofs.laws.reads_change_no_value.Goals as goal

pub returns : goal.returns
returns c = record { read = read-keeps; dropped = drop-keeps; all_dropped = drops-keep; read_call = call-keeps; written = written-kept; partly_written = partly_written-kept; partly_settled = partly_settled-kept }
