use Rattle.trace_file.proofs.HeadForms.{head_has_form}
use Rattle.trace_file.proofs.MoveForms.{mark_has_form, move_has_form}
use Rattle.trace_file.proofs.forms.lines_have_forms.Goals as goal

pub returns-clause-moves : goal.returns-clause-moves
returns-clause-moves c = move_has_form

pub returns-clause-marks : goal.returns-clause-marks
returns-clause-marks c = mark_has_form

pub returns-clause-heads : goal.returns-clause-heads
returns-clause-heads c = head_has_form
