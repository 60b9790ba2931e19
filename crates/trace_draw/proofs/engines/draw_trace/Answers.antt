use Rattle.picture.specs.declared.page.Form.TheVariants as form
use Rattle.trace_draw.specs.{DrawsTraceSaid, EndsTrace}
use Rattle.trace_draw.proofs.Ends.{all_reported}
use Rattle.trace_draw.proofs.engines.draw_trace.Goals as goal

pub returns : goal.returns
returns g c =
    let first = g.W.Sink.taken c.args.output.now in (
      all_reported c.args.judged (λ s shown reported. EndsTrace form.Page c.args.options c.in_ok-drawn.drawn s shown reported first (g.W.Sink.taken c.draw_bands.new.output)) (λ s shown reported. DrawsTraceSaid form.Page c.args.options s shown reported first (g.W.Sink.taken c.end_page.new.output)) c.in_ok-drawn.drawn.status
          (λ s shown reported ends. c.in_ok-end_page.ensures.drawn c.args.options s shown reported first ends) (g.R.Source.to_come c.args.input.now) c.in_ok-drawn.ensures.drawn,
      c.in_ok-drawn.ensures.end,
    )
