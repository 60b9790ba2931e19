use Rattle.picture.specs.declared.page.Form.TheVariants as form
use Rattle.draw.specs.{DrawsAsked, DrawsBandsOf}
use Rattle.draw.proofs.Whole.{judged_all}
use Rattle.draw.proofs.records.engines.judged_page.Goals as goal

pub returns : goal.returns
returns g c =
    let options = c.args.options in
    let first = g.W.Sink.taken c.args.output.now in (
      judged_all g.H.Judging.Keeps g.H.EntryObserver.Reports c.in_ok-drawn.status (DrawsBandsOf options form.Page c.in_ok-drawn.drawn first (g.W.Sink.taken c.judge_bands.new.output)) (λ said reported. DrawsAsked options form.Page said reported first (g.W.Sink.taken c.end_page.new.output))
          (λ said reported bands. c.in_ok-end_page.ensures.drawn options said reported first bands) (g.R.Source.to_come c.args.input.now) c.in_ok-drawn.ensures.drawn,
      c.in_ok-drawn.ensures.end,
    )
