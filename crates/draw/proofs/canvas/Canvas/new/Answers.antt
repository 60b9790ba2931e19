use Rattle.std.proofs.Common.{ℕ, List, [], ap, ◌∙◌}
use Rattle.model.specs.plain_store.{Contents}
use Rattle.picture.specs.{windowed}
use Rattle.picture.specs.declared.subjects.Subject.TheVariants.{Run}
use Rattle.draw.specs.{words_by}
use Rattle.draw.proofs.canvas.Canvas.new.Goals as goal

pub returns-clause-kept : goal.returns-clause-kept
returns-clause-kept c = λ is.
    let page = c.in_ok-page.ensures in
    let words = c.as_slice.ensures.value ∙ c.in_ok-opening.ensures ∙ ap (λ (store : Contents). words_by store.pairs) is.store in
    λ i. record {
      window = page.window i;
      lines = page.lines i;
      page = (page.page ∙ ap (λ (words : List ℕ). windowed (record { form = c.args.form; subject = Run; processes = c.args.setup.now.processes; opening = words; window = c.args.window }) []) words) i;
    }
