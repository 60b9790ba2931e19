use Rattle.record_file.proofs.AccessForms.{access_has_form, head_has_form}
use Rattle.record_file.proofs.MarkForms.{mark_has_form}
use Rattle.record_file.proofs.forms.entries_have_forms.Goals as goal

pub returns-clause-marks : goal.returns-clause-marks
returns-clause-marks c = mark_has_form

pub returns-clause-accesses : goal.returns-clause-accesses
returns-clause-accesses c = access_has_form

pub returns-clause-heads : goal.returns-clause-heads
returns-clause-heads c = head_has_form
