use Rattle.std.proofs.Common.{◌≡◌, ◌+◌, List, [], ◌∷◌, ◌++◌, ◌∙◌, ap, take, arith, refl, subst, sym}
use Rattle.std.proofs.lemmas.List.{take_all, take_more}
use Rattle.model.specs.{Mark}
use Rattle.draw.specs.{DrawsMarks}
use Rattle.draw.proofs.Drawn.{draws_marks_both, draws_no_marks}
use Rattle.scenario.proofs.files.Failing.{fails_after}
use Rattle.draw.proofs.canvas.Canvas.draw_marks.Goals as goal

pub loop-mark-init : goal.loop-mark-init
loop-mark-init g c = record {
  drawn = draws_no_marks c.args.self.now c.args.store.now (g.W.Sink.taken c.args.output.now) c.args.source c.args.at c.args.process;
  whole = refl;
}

pub draw_mark-requires : goal.draw_mark-requires
draw_mark-requires g c = rw c.loop-mark.invariant.whole c.requires

pub returns-in_err-draw_mark-clause-fails : goal.returns-in_err-draw_mark-clause-fails
returns-in_err-draw_mark-clause-fails g c = fails_after g.W.Sink.failures c.from_residual.result c.in_err-draw_mark.field-0.0 _ _ _ c.from_residual.ensures.1 c.loop-mark.invariant.whole c.in_err-draw_mark.ensures.fails

pub loop-mark-preserved : goal.loop-mark-preserved
loop-mark-preserved g c =
    let marks : List Mark = take c.loop-mark.mark-index c.args.marks.now in
    let here : Mark = c.mark-item.result in
    let next : take (c.loop-mark.mark-index + 1) c.args.marks.now ≡ marks ++ here ∷ [] = take_more c.args.marks.now c.loop-mark.mark-index here c.loop-mark-test.true ∙ ap (λ (m : Mark). marks ++ m ∷ []) (sym c.mark-item.is) in
    let a = g.W.Sink.taken c.args.output.now in
    let d = g.W.Sink.taken c.draw_mark.new.output in
    record {
      drawn = subst (λ (l : List Mark). DrawsMarks c.args.self.now c.draw_mark.new.self c.args.store.now c.draw_mark.new.store a d c.args.source c.args.at c.args.process l) (sym next)
          (draws_marks_both c.args.self.now c.loop-mark.self c.draw_mark.new.self c.args.store.now c.loop-mark.store c.draw_mark.new.store a (g.W.Sink.taken c.loop-mark.output) d c.args.source c.args.at c.args.process marks (here ∷ []) c.loop-mark.invariant.drawn c.in_ok-draw_mark.ensures.drawn);
      whole = omega (arith, c.in_ok-draw_mark.ensures.fails.counted, c.loop-mark.invariant.whole);
    }

pub returns-clause-drawn : goal.returns-clause-drawn
returns-clause-drawn g c =
    subst (λ (l : List Mark). DrawsMarks c.args.self.now c.loop-mark.self c.args.store.now c.loop-mark.store (g.W.Sink.taken c.args.output.now) (g.W.Sink.taken c.loop-mark.output) c.args.source c.args.at c.args.process l)
    (take_all c.loop-mark.mark-index c.args.marks.now (omega arith)) c.loop-mark.invariant.drawn
