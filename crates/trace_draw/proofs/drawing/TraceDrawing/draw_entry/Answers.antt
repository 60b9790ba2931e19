use Rattle.std.proofs.Common.{◌+◌, ℕ, ap, subst, ◌∙◌}
use Rattle.draw.specs.{DrawsLines}
use Rattle.trace.specs.{TraceEntry, trace_entry}
use Rattle.trace_draw.specs.{TraceDrawing, says_entry}
use Rattle.trace_draw.proofs.Drawn.{entry_drawn}
use Rattle.trace_draw.proofs.drawing.TraceDrawing.draw_entry.Goals as goal

pub returns-clause-drawn : goal.returns-clause-drawn
returns-clause-drawn g c =
    let old = c.args.self.now in
    let e = c.args.entry.now in
    let a = g.W.Sink.taken c.args.output.now in
    let b = g.W.Sink.taken c.draw_access.new.output in
    let d = g.W.Sink.taken c.draw_marks.new.output in
    let mid = c.draw_access.new.self in
    let marked = c.draw_marks.new.self in
    let access = c.in_ok-draw_access.ensures in
    let marks = c.in_ok-draw_marks.ensures in
    let same = ap (λ m. trace_entry c.entry.inside.process c.entry.inside.access m) c.deref.ensures ∙ c.entry.view_is in
    entry_drawn old mid marked (record marked { entries = marked.entries + 1 }) a b d e
    (record { drawn = access.drawn; monitors = access.monitors; overlaps = access.overlaps; rest = access.rest })
    (subst (λ (e : TraceEntry). DrawsLines mid.canvas marked.canvas b d mid.source mid.entries (says_entry e)) same marks.drawn)
    marks.rest
    (ap (λ (n : ℕ). record marked { entries = n + 1 }) (ap (λ (t : TraceDrawing). t.entries) marks.rest))
