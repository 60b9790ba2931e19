use Rattle.std.proofs.Common.{◌≡◌, ap, sym, subst, ◌∙◌}
use Rattle.model.specs.plain_store.{Setup}
use Rattle.judge.specs.record_file.{Progress}
use Rattle.draw.specs.{DrawsPast, EndsAsked}
use Rattle.draw.proofs.Sheeted.{draws_of, same_some}
use Rattle.draw.proofs.records.sheet.RecordPicture.end.Goals as goal

pub returns-clause-drawn : goal.returns-clause-drawn
returns-clause-drawn g c = λ p past first some corresponds.
    let t = c.args.self.now in
    let found : Progress = c.in-Some.reader in
    let same : found ≡ p = same_some t.reader found p c.in-Some.is some in
    let bands = c.in_ok-bands.bands in
    let first_setup : c.setup.result.now ≡ p.head.setup = c.setup.ensures.value ∙ ap (λ (q : Progress). q.head.setup) same in (
      c.setup-2.ensures.value ∙ ap (λ (q : Progress). q.head.setup) same,
      subst (λ (s : Setup). EndsAsked t.options t.form s past c.args.reported.now bands.shows bands.opening.items bands.height first (g.W.Sink.taken c.end.new.output)) first_setup
          (c.in_ok-bands.ensures.drawn past first (subst (λ (s : Setup). DrawsPast t.options t.form t.entries s past first (g.W.Sink.taken c.args.output.now)) (sym first_setup)
          (draws_of t.options t.form t.entries.drawing t.entries.stored.items p past first (g.W.Sink.taken c.args.output.now) corresponds.draws))),
    )
