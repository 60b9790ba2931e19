use Rattle.scenario.proofs.LineSpelled.{line_said}
use Rattle.scenario.proofs.ReadBack.{spelled_line_is_read}
use Rattle.scenario.proofs.spelling.lines_are_spelled_in_one_way.Goals as goal

pub returns : goal.returns
returns c = λ version name words line.
    ((λ read. let is = line_said version name words line read in (is.words, is.good, is.allowed)), λ says. spelled_line_is_read version name words line says.0 says.1 says.2)
