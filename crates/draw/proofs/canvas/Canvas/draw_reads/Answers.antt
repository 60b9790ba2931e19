use Rattle.std.proofs.Common.{◌∙◌, false, List, [], ◌∷◌, get_or, map, take, arith, refl, subst, sym}
use Rattle.std.proofs.lemmas.List.{take_all}
use Rattle.model.specs.declared.access.Field.TheVariants.{Choosing}
use Rattle.picture.specs.picture_layout.{OverlappedRead}
use Rattle.draw.specs.{DrawsOn, GivesRead, ObservesAll, kept}
use Rattle.draw.proofs.Drawn.{draws_on_both, draws_on_none}
use Rattle.draw.proofs.Giving.{map_next}
use Rattle.scenario.proofs.files.Failing.{fails_after}
use Rattle.draw.proofs.canvas.Canvas.draw_reads.Goals as goal

pub loop-read-init : goal.loop-read-init
loop-read-init g c = record { drawn = draws_on_none (kept c.args.self.now) (g.W.Sink.taken c.args.output.now); overlaps = refl; whole = refl }

pub draw_read-requires : goal.draw_read-requires
draw_read-requires g c = rw c.loop-read.invariant.whole c.requires

pub returns-in_err-draw_read-clause-fails : goal.returns-in_err-draw_read-clause-fails
returns-in_err-draw_read-clause-fails g c = fails_after g.W.Sink.failures c.from_residual.result c.in_err-draw_read.field-0.0 _ _ _ c.from_residual.ensures.1 c.loop-read.invariant.whole c.in_err-draw_read.ensures.fails

pub loop-read-preserved : goal.loop-read-preserved
loop-read-preserved g c =
    let reads : List OverlappedRead = c.deref-read-items.result.now in
    let k = c.loop-read.read-index in
    let none : OverlappedRead = record { reader = 0; owner = 0; field = Choosing; bit = 0; is_wide = false; begin = 0; end = 0; value = false; more = 0 } in
    record {
      drawn = subst (λ l. DrawsOn (kept c.args.self.now) (kept c.draw_read.new.self) (g.W.Sink.taken c.args.output.now) (g.W.Sink.taken c.draw_read.new.output) l) (sym (map_next GivesRead reads k none c.loop-read-test.true))
          (draws_on_both _ _ _ _ _ _ (map GivesRead (take k reads)) (GivesRead (get_or reads k none) ∷ []) c.loop-read.invariant.drawn c.in_ok-draw_read.ensures.drawn);
      overlaps = c.in_ok-draw_read.ensures.overlaps ∙ c.loop-read.invariant.overlaps;
      whole = omega (arith, c.in_ok-draw_read.ensures.fails.counted, c.loop-read.invariant.whole);
    }

pub returns-clause-drawn : goal.returns-clause-drawn
returns-clause-drawn g c = λ mode s past reads waits. (
  subst (λ l. DrawsOn (kept c.args.self.now) (kept c.loop-read.self) (g.W.Sink.taken c.args.output.now) (g.W.Sink.taken c.loop-read.output) (map GivesRead l))
      (take_all c.loop-read.read-index c.deref-read-items.result.now (omega arith) ∙ c.deref-read-items.ensures.value ∙ c.take_ended-ended.ensures.reads mode s past reads waits) c.loop-read.invariant.drawn,
  subst (ObservesAll mode s past []) (sym c.loop-read.invariant.overlaps) (c.take_ended-ended.ensures.none mode s past reads waits),
)
