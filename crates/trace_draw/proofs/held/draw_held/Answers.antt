use Rattle.std.proofs.Common.{◌≡◌, ◌+◌, ◌∷◌, List, reverse, take, arith, subst, sym}
use Rattle.std.proofs.lemmas.List.{length-reverse, length-take-le, take_all}
use Rattle.files.proofs.Failing.{fails_after}
use Rattle.trace.specs.{TraceEntry, TracePast}
use Rattle.trace_draw.specs.{IsDrawn, limit_of}
use Rattle.trace_draw.proofs.Drawn.{drawn_entry}
use Rattle.trace_draw.proofs.Holding.{one_more}
use Rattle.trace_draw.proofs.Monitoring.{drawn_as_many}
use Rattle.trace_draw.proofs.held.draw_held.Goals as goal

pub loop-entry-init : goal.loop-entry-init
loop-entry-init g c = record {
  drawn = c.in_ok-drawing.ensures.drawn;
  whole = omega (arith, c.in_ok-drawing.ensures.fails.counted);
}

pub draw_entry-requires-clause-writes : goal.draw_entry-requires-clause-writes
draw_entry-requires-clause-writes g c = rw c.loop-entry.invariant.whole c.requires.writes

pub draw_entry-requires-clause-room : goal.draw_entry-requires-clause-room
draw_entry-requires-clause-room g c =
    let l = c.loop-entry in
    let past : TracePast = reverse (take l.entry-index c.args.held.now) in
    let many = drawn_as_many c.args.shows (limit_of c.args.view.options) c.args.setup.now past l.drawing l.invariant.drawn.after in
    let long = length-reverse (take l.entry-index c.args.held.now) in
    let first = length-take-le l.entry-index c.args.held.now (omega (arith, c.loop-entry-test.true)) in
    omega (arith, many, long, first, c.loop-entry-test.true)

pub returns-in_err-draw_entry-clause-fails : goal.returns-in_err-draw_entry-clause-fails
returns-in_err-draw_entry-clause-fails g c = fails_after g.W.Sink.failures c.from_residual-in_err-draw_entry.result c.in_err-draw_entry.field-0.0 _ _ _ c.from_residual-in_err-draw_entry.ensures.1 c.loop-entry.invariant.whole c.in_err-draw_entry.ensures.fails

pub loop-entry-preserved : goal.loop-entry-preserved
loop-entry-preserved g c =
    let l = c.loop-entry in
    let shows = c.args.shows in
    let options = c.args.view.options in
    let s = c.args.setup.now in
    let e : TraceEntry = c.entry-item.result in
    let past : TracePast = reverse (take l.entry-index c.args.held.now) in
    let more : reverse (take (l.entry-index + 1) c.args.held.now) ≡ e ∷ past = one_more c.args.held.now l.entry-index e c.loop-entry-test.true c.entry-item.is in
    let first = g.W.Sink.taken c.args.output.now in
    let mid = g.W.Sink.taken l.output in
    let new = g.W.Sink.taken c.draw_entry.new.output in
    record {
      drawn = subst (λ (past : TracePast). IsDrawn c.args.view.form options shows s past c.draw_entry.new.self first new) (sym more)
          (drawn_entry c.args.view.form options shows s past e l.drawing c.draw_entry.new.self first mid new l.invariant.drawn c.in_ok-draw_entry.ensures.drawn);
      whole = omega (arith, c.in_ok-draw_entry.ensures.fails.counted, l.invariant.whole);
    }

pub returns-clause-drawn : goal.returns-clause-drawn
returns-clause-drawn g c =
    subst (λ (l : List TraceEntry). IsDrawn c.args.view.form c.args.view.options c.args.shows c.args.setup.now (reverse l) c.loop-entry.drawing (g.W.Sink.taken c.args.output.now) (g.W.Sink.taken c.loop-entry.output))
    (take_all c.loop-entry.entry-index c.args.held.now c.loop-entry-test.false) c.loop-entry.invariant.drawn
