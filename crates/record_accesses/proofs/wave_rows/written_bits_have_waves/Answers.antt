use Rattle.record_accesses.proofs.RowFacts.{waves-written}
use Rattle.record_accesses.proofs.wave_rows.written_bits_have_waves.Goals as goal

pub returns : goal.returns
returns c = waves-written
