use Rattle.std.proofs.Common.{◌≡◌, false, is_some, sym, ap, ◌∙◌}
use Rattle.process.specs.{ProcessState, stepped}
use Rattle.bakery.specs.Sections.{goes_on, is_going, marks_reported, progress_on}
use Rattle.bakery.proofs.SectionSteps.{reported, reported-is}
use Rattle.bakery.proofs.section.Section.advance.Goals as goal

pub returns : goal.returns
returns c =
    let now : ProcessState = c.args.self.now in
    let then = c.advance-reported.ensures.process ∙ ap (λ (x : ProcessState). stepped x false c.args.value) c.self.view_is in
    let t = reported now false c.args.value c.requires.going in
    let progress : c.at.result ≡ progress_on now (stepped now false c.args.value) =
    c.at.ensures ∙ reported-is now c.self.inside.place _ false c.args.value c.self.view_is then c.changes_read-changes.ensures c.answer.ensures (c.is_some.ensures ∙ ap is_some c.pending.ensures) in
    record {
      section = then;
      progress = progress ∙ ap (progress_on now) (sym then);
      marks = ap marks_reported progress ∙ t.marks;
      going = ap is_going then ∙ t.going ∙ sym (ap goes_on progress);
    }
