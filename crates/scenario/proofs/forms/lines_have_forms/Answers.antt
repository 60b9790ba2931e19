use Rattle.scenario.proofs.FileForms.{bit_line_has_form, line_has_form}
use Rattle.scenario.proofs.forms.lines_have_forms.Goals as goal

pub returns-clause-scenarios : goal.returns-clause-scenarios
returns-clause-scenarios c = line_has_form

pub returns-clause-bits : goal.returns-clause-bits
returns-clause-bits c = bit_line_has_form
