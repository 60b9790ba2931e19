use Rattle.std.proofs.Common.{Option, subst}
use Rattle.draw.specs.{AreShownBy, RecordDrawing}
use Rattle.draw.proofs.Stored.{drawn_on}
use Rattle.draw.proofs.Written.{ok_then}
use Rattle.draw.proofs.records.stored.RecordEntries.take.Goals as goal

pub returns-in-Some-clause-drawn : goal.returns-in-Some-clause-drawn
returns-in-Some-clause-drawn g c =
    let around = c.args.around in
    let s = c.args.setup.now in
    let stored = c.args.self.now.stored.items in
    let a = g.W.Sink.taken c.args.output.now in
    let b = g.W.Sink.taken c.draw_entry.new.output in
    ok_then c.draw_entry.result
    (λ on past first shown.
    drawn_on around.asked around.form s past c.args.entry.now c.in-Some.drawing c.draw_entry.new.self first a b
    (subst (λ (o : Option RecordDrawing). AreShownBy o stored around.asked around.form s past first a) c.in-Some.is shown) on c.draw_entry.ensures.source)
    c.draw_entry.ensures.drawn

pub returns-in-None-clause-drawn : goal.returns-in-None-clause-drawn
returns-in-None-clause-drawn g c =
    let around = c.args.around in
    let stored = c.args.self.now.stored.items in
    let a = g.W.Sink.taken c.args.output.now in
    ok_then c.store_or_draw.result
    (λ on past first shown. on past first (subst (λ (o : Option RecordDrawing). AreShownBy o stored around.asked around.form c.args.setup.now past first a) c.in-None.is shown))
    c.store_or_draw.ensures.drawn
