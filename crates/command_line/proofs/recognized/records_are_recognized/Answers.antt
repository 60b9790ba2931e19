use Rattle.command_line.proofs.Recognizing.{recognizes_records}
use Rattle.command_line.proofs.recognized.records_are_recognized.Goals as goal

pub returns : goal.returns
returns c = recognizes_records
