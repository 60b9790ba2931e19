use Rattle.std.proofs.Common.{◌≡◌, ◌<◌, ◌≤◌, ◌∷◌, ℕ, List, Option, arith, length, reverse, subst, sym}
use Rattle.std.proofs.lemmas.List.{length-reverse}
use Rattle.model.specs.{Entry}
use Rattle.draw.specs.{AreShownBy, IsDrawn, RecordDrawing, AccessView, long_view, most_stored}
use Rattle.draw.proofs.Sheeted.{drawn_as_many}
use Rattle.draw.proofs.Stored.{many_drawn, stored_on}
use Rattle.draw.proofs.records.stored.RecordEntries.store_or_draw.Goals as goal

pub draw_entry-requires-clause-room : goal.draw_entry-requires-clause-room
draw_entry-requires-clause-room g c =
    let many = drawn_as_many c.long-view.result c.args.around.form c.args.setup.now (reverse c.deref.result.now) c.in_ok-drawing.drawing _ _ c.in_ok-drawing.ensures.drawn in
    let long = length-reverse c.deref.result.now in
    omega (arith, many, long)

pub returns-then-len-most-clause-drawn : goal.returns-then-len-most-clause-drawn
returns-then-len-most-clause-drawn g c = λ past first are.
    let around = c.args.around in
    let s = c.args.setup.now in
    let stored = c.args.self.now.stored.items in
    let then = c.store.new.stored.items in
    let a = g.W.Sink.taken c.args.output.now in
    let few : length stored < most_stored around.asked = omega (arith, c.if-len-most.true, c.most.ensures) in
    subst (λ (o : Option RecordDrawing). AreShownBy o then around.asked around.form s (c.args.entry.now ∷ past) first a) (sym c.requires.undecided)
    (stored_on around.asked around.form s past stored then c.args.entry.now first a are few c.in_ok-store.ensures)

pub returns-clause-drawn : goal.returns-clause-drawn
returns-clause-drawn g c = λ past first are.
    let around = c.args.around in
    let s = c.args.setup.now in
    let stored = c.args.self.now.stored.items in
    let a = g.W.Sink.taken c.args.output.now in
    let mid = g.W.Sink.taken c.draw_stored.new.output in
    let b = g.W.Sink.taken c.draw_entry.new.output in
    let d = c.in_ok-drawing.drawing in
    let many : most_stored around.asked ≤ length stored = omega (arith, c.if-len-most.false, c.most.ensures) in
    let drawn = subst (λ (v : AccessView). IsDrawn v around.form s (reverse c.deref.result.now) d a mid) c.long-view.ensures c.in_ok-drawing.ensures.drawn in
    many_drawn around.asked around.form s past stored c.args.entry.now d c.draw_entry.new.self first a mid b are many
    (subst (λ (l : List Entry). IsDrawn (long_view around.asked) around.form s (reverse l) d a mid) c.deref.ensures.value drawn) c.in_ok-draw_entry.ensures.drawn c.draw_entry.ensures.source
