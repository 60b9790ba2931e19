use Rattle.trace_accesses.proofs.WaveFacts.{waves-written}
use Rattle.trace_accesses.proofs.rows.written_cells_have_waves.Goals as goal

pub returns : goal.returns
returns c = waves-written
