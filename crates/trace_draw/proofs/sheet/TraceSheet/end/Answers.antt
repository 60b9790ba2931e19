use Rattle.std.proofs.Common.{◌≡◌, ap, subst, sym, ◌∙◌}
use Rattle.trace.specs.{TraceSetup}
use Rattle.trace_engine.specs.trace_file.TraceFiles.{TraceProgress}
use Rattle.trace_draw.specs.{EndsTrace, IsReported}
use Rattle.trace_draw.proofs.Ends.{observes_at, same_some}
use Rattle.trace_draw.proofs.sheet.TraceSheet.end.Goals as goal

pub returns-clause-drawn : goal.returns-clause-drawn
returns-clause-drawn g c = λ first p entries numbers corresponds.
    let t = c.args.self.now in
    let a = g.W.Sink.taken c.args.output.now in
    let b = g.W.Sink.taken c.draw_end.new.output in
    let d = c.in_ok-drawn.drawn in
    let same : c.in-Some.reader ≡ p = same_some t.reader c.in-Some.reader p c.in-Some.is corresponds.read_up_to.read in
    let setup : c.setup.result.now ≡ p.setup = c.setup.ensures.value ∙ ap (λ (q : TraceProgress). q.setup) same in
    subst (λ (s : TraceSetup). IsReported t.view.judged (λ s shown reported. EndsTrace t.view.form t.view.options d s shown reported first b) d.status s entries numbers) setup
    (c.in_ok-drawn.ensures.drawn first entries numbers corresponds.nothing (observes_at t.view first a t.picture p c.setup.result.now entries numbers (sym setup) corresponds.read_up_to.observed))
