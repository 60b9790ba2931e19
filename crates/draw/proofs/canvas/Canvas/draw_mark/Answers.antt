use Rattle.std.proofs.Common.{[], ◌∷◌, Option, subst}
use Rattle.draw.specs.{Changed, DrawsLines, SaysMark}
use Rattle.draw.proofs.Written.{ok_then}
use Rattle.draw.proofs.canvas.Canvas.draw_mark.Goals as goal

pub returns-clause-drawn : goal.returns-clause-drawn
returns-clause-drawn g c =
    let made = c.in_ok-change.ensures in
    ok_then c.draw.result
    (λ drew s before is. (
      subst (λ (o : Option Changed). DrawsLines c.args.self.now c.draw.new.self (g.W.Sink.taken c.args.output.now) (g.W.Sink.taken c.draw.new.output) c.args.source c.args.at (SaysMark c.args.process c.args.mark.now o ∷ [])) (made.change s before is) drew,
      made.after s before is,
    ))
    c.draw.ensures.drawn
