use Rattle.command_line.proofs.AnyFile.{runs_each_file}
use Rattle.command_line.proofs.words.each_file_runs.Goals as goal

pub returns : goal.returns
returns c = runs_each_file
