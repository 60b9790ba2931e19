use Rattle.std.proofs.Common.{refl, subst, sym}
use Rattle.judge.specs.record_file.{step_entry}
use Rattle.model.specs.{Entry}
use Rattle.draw.specs.{Drawing, DrawsPart, PartEntry, Recalls}
use Rattle.draw.proofs.Written.{ok_then}
use Rattle.draw.proofs.records.drawing.RecordDrawing.step.Goals as goal

pub returns-clause-drawn : goal.returns-clause-drawn
returns-clause-drawn g c =
    let e : Entry = step_entry c.args.process c.args.access in
    let same = c.ends_overlapped-overlapped.ensures.drawing in
    let now : Drawing = c.step.new.self in
    ok_then c.step.result (λ drew view s parts recalls.
    let seen = c.ends_overlapped-overlapped.ensures.overlapped view s parts e refl recalls in (
      subst (λ (d : Drawing). DrawsPart view s parts (PartEntry e) d now (g.W.Sink.taken c.args.output.now) (g.W.Sink.taken c.step.new.output)) same
          (drew view s parts seen.0 (subst (λ (d : Drawing). Recalls view s parts d) (sym same) recalls.drawing)),
      seen.1,
    )) c.step.ensures.drawn
