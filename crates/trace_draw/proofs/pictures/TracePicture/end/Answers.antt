use Rattle.std.proofs.Common.{ℕ, List, subst}
use Rattle.trace_draw.specs.{DrawnTrace, EndsBands}
use Rattle.trace_draw.proofs.Shown.{shown_reported}
use Rattle.trace_draw.proofs.pictures.TracePicture.end.Goals as goal

pub returns-clause-drawn : goal.returns-clause-drawn
returns-clause-drawn g c = λ first entries numbers has.
    let old = c.args.self.now in
    let s = c.args.setup.now in
    let reported = c.in_ok-reported.reported in
    let view = c.args.view in
    let a = g.W.Sink.taken c.args.output.now in
    let b = g.W.Sink.taken c.end.new.output in
    let drawn : DrawnTrace = record { title = c.in_ok-title.title; bands = c.in_ok-bands.bands; status = reported.status } in
    shown_reported view first s old a b entries numbers reported.text.items drawn has (c.in_ok-reported.ensures s entries numbers has.reported) c.in_ok-title.ensures
    (λ past shows. subst (λ (l : List ℕ). EndsBands view.form view.options drawn.bands s past l first b) c.as_slice.ensures.value (c.in_ok-bands.ensures.drawn past first shows))
