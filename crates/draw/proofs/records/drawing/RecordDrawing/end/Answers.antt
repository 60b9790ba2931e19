use Rattle.std.proofs.Common.{◌+◌, ℕ, ap}
use Rattle.draw.specs.{source_of}
use Rattle.draw.proofs.Ending.{last_at}
use Rattle.draw.proofs.Written.{if_ok_then}
use Rattle.draw.proofs.records.drawing.RecordDrawing.end.Goals as goal

pub returns-clause-drawn : goal.returns-clause-drawn
returns-clause-drawn g c =
    let d = c.args.self.now.drawing in
    let line = ap (λ (n : ℕ). n + 1) c.line_of_entries.ensures.line in
    if_ok_then c.end.result
    (λ height last. last_at d.canvas (g.W.Sink.taken c.args.output.now) (g.W.Sink.taken c.end.new.output) c.args.reported.now d.entries height (c.line_of_entries.result + 1) (source_of c.args.setup.now + 1) c.taken.result d.store.taken line c.taken.ensures last)
    c.end.ensures.drawn
