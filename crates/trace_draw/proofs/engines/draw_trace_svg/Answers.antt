use Rattle.std.proofs.Common.{List, ℕ, [], Some, IfSome, subst, sym}
use Rattle.picture.specs.declared.page.Form.TheVariants as form
use Rattle.trace_draw.specs.{DrawsAllBands, DrawsTraceSaid, EndsTrace, TraceView}
use Rattle.trace_draw.proofs.Ends.{all_reported}
use Rattle.trace_draw.proofs.engines.draw_trace_svg.Goals as goal

pub returns-in-Ok : goal.returns-in-Ok
returns-in-Ok g c =
    let all = g.R.Source.to_come c.args.input.now in
    let bytes : List ℕ = c.draw_bands.new.output.bytes.items in
    let d = c.in-Ok.drawn in
    let view : TraceView = record { alloc = c.args.alloc; form = form.Picture 34; judged = c.args.judged; options = c.args.options } in
    let drawn = subst (λ (was : List ℕ). IfSome all (DrawsAllBands view d (Some was) (Some bytes))) c.new-bands.ensures.bytes c.in-Ok.ensures.drawn in (
      all_reported c.args.judged (λ s shown reported. EndsTrace (form.Picture 34) c.args.options d s shown reported (Some []) (Some bytes)) (λ s shown reported. DrawsTraceSaid (form.Picture 34) c.args.options s shown reported (g.W.Sink.taken c.args.output.now) (g.W.Sink.taken c.write_picture.new.output)) d.status
          (λ s shown reported ends. c.in_ok-write_picture-in-Ok.ensures.drawn c.args.options s shown reported (subst (λ (now : List ℕ). EndsTrace (form.Picture 34) c.args.options d s shown reported (Some []) (Some now)) (sym c.bytes.ensures) ends)) all drawn,
      c.in-Ok.ensures.end,
    )
