use Rattle.std.proofs.Common.{◌≡◌, ◌+◌, ◌∷◌, List, reverse, take, arith, subst, sym}
use Rattle.std.proofs.lemmas.List.{length-reverse, length-take-le, take_all}
use Rattle.model.specs.{Entry, Past}
use Rattle.draw.specs.{IsDrawn}
use Rattle.draw.proofs.Sheeted.{drawn_as_many, drawn_entry}
use Rattle.draw.proofs.Stored.{one_more}
use Rattle.scenario.proofs.files.Failing.{fails_after}
use Rattle.draw.proofs.records.stored.draw_stored.Goals as goal

pub loop-entry-init : goal.loop-entry-init
loop-entry-init g c = record {
  drawn = c.in_ok-drawing.ensures.drawn;
  whole = omega (arith, c.in_ok-drawing.ensures.fails.counted);
}

pub draw_entry-requires-clause-writes : goal.draw_entry-requires-clause-writes
draw_entry-requires-clause-writes g c = rw c.loop-entry.invariant.whole c.requires.writes

pub draw_entry-requires-clause-room : goal.draw_entry-requires-clause-room
draw_entry-requires-clause-room g c =
    let l = c.loop-entry in
    let past : Past = reverse (take l.entry-index c.args.stored.now) in
    let many = drawn_as_many c.args.view c.args.around.form c.args.setup.now past l.drawing _ _ l.invariant.drawn in
    let long = length-reverse (take l.entry-index c.args.stored.now) in
    let first = length-take-le l.entry-index c.args.stored.now (omega (arith, c.loop-entry-test.true)) in
    omega (arith, many, long, first, c.loop-entry-test.true)

pub returns-in_err-draw_entry-clause-fails : goal.returns-in_err-draw_entry-clause-fails
returns-in_err-draw_entry-clause-fails g c = fails_after g.W.Sink.failures c.from_residual-in_err-draw_entry.result c.in_err-draw_entry.field-0.0 _ _ _ c.from_residual-in_err-draw_entry.ensures.1 c.loop-entry.invariant.whole c.in_err-draw_entry.ensures.fails

pub loop-entry-preserved : goal.loop-entry-preserved
loop-entry-preserved g c =
    let l = c.loop-entry in
    let view = c.args.view in
    let form = c.args.around.form in
    let s = c.args.setup.now in
    let e : Entry = c.entry-item.result in
    let past : Past = reverse (take l.entry-index c.args.stored.now) in
    let more : reverse (take (l.entry-index + 1) c.args.stored.now) ≡ e ∷ past = one_more c.args.stored.now l.entry-index e c.loop-entry-test.true c.entry-item.is in
    let first = g.W.Sink.taken c.args.output.now in
    let mid = g.W.Sink.taken l.output in
    let new = g.W.Sink.taken c.draw_entry.new.output in
    record {
      drawn = subst (λ (past : Past). IsDrawn view form s past c.draw_entry.new.self first new) (sym more)
          (drawn_entry view form s past e l.drawing c.draw_entry.new.self first mid new l.invariant.drawn c.in_ok-draw_entry.ensures.drawn c.draw_entry.ensures.source);
      whole = omega (arith, c.in_ok-draw_entry.ensures.fails.counted, l.invariant.whole);
    }

pub returns-clause-drawn : goal.returns-clause-drawn
returns-clause-drawn g c =
    subst (λ (l : List Entry). IsDrawn c.args.view c.args.around.form c.args.setup.now (reverse l) c.loop-entry.drawing (g.W.Sink.taken c.args.output.now) (g.W.Sink.taken c.loop-entry.output))
    (take_all c.loop-entry.entry-index c.args.stored.now c.loop-entry-test.false) c.loop-entry.invariant.drawn
