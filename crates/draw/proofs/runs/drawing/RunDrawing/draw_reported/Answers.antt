use Rattle.std.proofs.Common.{refl, subst, sym, ◌∙◌}
use Rattle.scenario_run.specs.{TurnReport, entry_made}
use Rattle.draw.specs.{DrawsReported}
use Rattle.draw.proofs.Written.{ok_then}
use Rattle.draw.proofs.runs.drawing.RunDrawing.draw_reported.Goals as goal

pub returns-in-Accepted-clause-drawn : goal.returns-in-Accepted-clause-drawn
returns-in-Accepted-clause-drawn g c =
    let self = c.args.self.now in
    let made = c.in-Accepted.made in
    ok_then c.draw_entry.result
    (λ drew. subst (λ (t : TurnReport). DrawsReported self (record self { drawing = c.draw_entry.new.self }) t (g.W.Sink.taken c.args.output.now) (g.W.Sink.taken c.draw_entry.new.output)) (sym c.in-Accepted.is)
    (λ view s parts reports recalls. drew view s parts (entry_made made) (sym c.process-process.ensures) refl (sym (c.as_slice.ensures ∙ c.marks-marks.ensures)) reports recalls))
    c.draw_entry.ensures.drawn
