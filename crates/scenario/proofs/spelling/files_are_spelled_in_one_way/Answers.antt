use Rattle.scenario.proofs.BitsSaid.{bits_said, says_bits_read}
use Rattle.scenario.proofs.Printout.{says_read}
use Rattle.scenario.proofs.TextSaid.{script_said}
use Rattle.scenario.proofs.spelling.files_are_spelled_in_one_way.Goals as goal

pub returns-clause-scenarios : goal.returns-clause-scenarios
returns-clause-scenarios c = λ text s. (script_said text s, says_read text s)

pub returns-clause-bits : goal.returns-clause-bits
returns-clause-bits c = λ text lines. (bits_said text lines, says_bits_read text lines)
