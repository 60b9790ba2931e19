use Rattle.command_line.proofs.Recognizing.{leaves_scenarios}
use Rattle.command_line.proofs.recognized.scenarios_have_another_first_word.Goals as goal

pub returns : goal.returns
returns c = leaves_scenarios
