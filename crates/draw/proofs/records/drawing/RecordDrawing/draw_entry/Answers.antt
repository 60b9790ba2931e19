use Rattle.std.proofs.Common.{rules, subst, sym}
use Rattle.draw.specs.{Drawing, DrawsPart, PartEntry, Recalls}
use Rattle.draw.proofs.Written.{ok_then}
use Rattle.draw.proofs.records.drawing.RecordDrawing.draw_entry.Goals as goal

pub returns-clause-drawn : goal.returns-clause-drawn
returns-clause-drawn g c =
    let e = c.args.entry.now in
    let same = c.ends_overlapped-overlapped.ensures.drawing in
    let now : Drawing = c.draw_entry.new.self in
    ok_then c.draw_entry.result (λ drew view s parts recalls.
    let seen = c.ends_overlapped-overlapped.ensures.overlapped view s parts e (search (rules)) recalls in (
      subst (λ (d : Drawing). DrawsPart view s parts (PartEntry e) d now (g.W.Sink.taken c.args.output.now) (g.W.Sink.taken c.draw_entry.new.output)) same
          (drew view s parts e (search (rules)) (search (rules)) (search (rules)) seen.0 (subst (λ (d : Drawing). Recalls view s parts d) (sym same) recalls.drawing)),
      seen.1,
    )) c.draw_entry.ensures.drawn
