use Rattle.std.proofs.Common.{ℕ, List, ap, ◌∙◌}
use Rattle.picture.specs.{page_front}
use Rattle.picture.specs.declared.subjects.Subject.TheVariants as subject
use Rattle.draw.proofs.Written.{if_ok_then}
use Rattle.draw.proofs.records.around.PictureForm.head.Goals as goal

pub returns-clause-draws : goal.returns-clause-draws
returns-clause-draws c =
    if_ok_then c.page_head.result (λ (markup : List ℕ) is. is ∙ ap (λ (l : List ℕ). page_front subject.Record c.args.setup.now l c.args.shows) (c.as_slice.ensures.value ∙ c.in_ok-printed.ensures)) c.page_head.ensures.draws
