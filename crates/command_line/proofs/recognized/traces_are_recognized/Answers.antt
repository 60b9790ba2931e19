use Rattle.command_line.proofs.RecognizingTraces.{recognizes_traces}
use Rattle.command_line.proofs.recognized.traces_are_recognized.Goals as goal

pub returns : goal.returns
returns c = recognizes_traces
