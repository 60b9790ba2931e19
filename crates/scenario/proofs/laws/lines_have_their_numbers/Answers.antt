use Rattle.scenario.proofs.LineNumbers.{lines_numbered}
use Rattle.scenario.proofs.PrintedNumbers.{printed_numbered}
use Rattle.scenario.proofs.laws.lines_have_their_numbers.Goals as goal

pub returns-clause-read : goal.returns-clause-read
returns-clause-read c = lines_numbered

pub returns-clause-printed : goal.returns-clause-printed
returns-clause-printed c = printed_numbered
