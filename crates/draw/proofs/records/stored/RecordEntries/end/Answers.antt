use Rattle.std.proofs.Common.{◌≡◌, ◌∙◌, List, Option, ap, reverse, subst}
use Rattle.model.specs.{Entry}
use Rattle.draw.specs.{AreShownBy, IsDrawn, RecordDrawing, AccessView, short_view}
use Rattle.draw.proofs.Stored.{shown_end, stored_end}
use Rattle.draw.proofs.Written.{if_ok_all}
use Rattle.draw.proofs.records.stored.RecordEntries.end.Goals as goal

pub returns-in-Some-clause-drawn : goal.returns-in-Some-clause-drawn
returns-in-Some-clause-drawn g c =
    let around = c.args.around in
    let s = c.args.setup.now in
    let stored = c.args.self.now.stored.items in
    let a = g.W.Sink.taken c.args.output.now in
    let b = g.W.Sink.taken c.end_drawn.new.output in
    if_ok_all c.end_drawn.result
    (λ bands last same opens past first shown.
    shown_end around.asked around.form s past c.args.reported.now c.in-Some.drawing bands.shows bands.opening.items bands.height first a b
    (subst (λ (o : Option RecordDrawing). AreShownBy o stored around.asked around.form s past first a) c.in-Some.is shown) (same ∙ ap (λ (v : AccessView). v.reads) c.long-view.ensures) opens last)
    c.end_drawn.ensures.drawn c.end_drawn.ensures.shows c.end_drawn.ensures.opening

pub returns-in_ok-drawing-in-None-clause-drawn : goal.returns-in_ok-drawing-in-None-clause-drawn
returns-in_ok-drawing-in-None-clause-drawn g c =
    let around = c.args.around in
    let s = c.args.setup.now in
    let stored = c.args.self.now.stored.items in
    let a = g.W.Sink.taken c.args.output.now in
    let mid = g.W.Sink.taken c.draw_stored.new.output in
    let b = g.W.Sink.taken c.end_drawn-in-None.new.output in
    let d = c.in_ok-drawing-in-None.drawing in
    let view : c.short-view.result ≡ short_view around.asked = c.short-view.ensures in
    let drawn = subst (λ (v : AccessView). IsDrawn v around.form s (reverse c.deref.result.now) d a mid) view c.in_ok-drawing-in-None.ensures.drawn in
    if_ok_all c.end_drawn-in-None.result
    (λ bands last same opens past first shown.
    stored_end around.asked around.form s past stored c.args.reported.now d bands.shows bands.opening.items bands.height first a mid b
    (subst (λ (o : Option RecordDrawing). AreShownBy o stored around.asked around.form s past first a) c.in-None.is shown)
    (subst (λ (l : List Entry). IsDrawn (short_view around.asked) around.form s (reverse l) d a mid) c.deref.ensures.value drawn) (same ∙ ap (λ (v : AccessView). v.reads) view) opens last)
    c.end_drawn-in-None.ensures.drawn c.end_drawn-in-None.ensures.shows c.end_drawn-in-None.ensures.opening
