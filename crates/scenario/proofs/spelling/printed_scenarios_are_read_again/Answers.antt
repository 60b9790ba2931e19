use Rattle.scenario.proofs.Printout.{script_again}
use Rattle.scenario.proofs.spelling.printed_scenarios_are_read_again.Goals as goal

pub returns : goal.returns
returns c = script_again
