use Rattle.std.proofs.Common.{◌≡◌, ◌∙◌, ◌+◌, ◌-◌, ◌*◌, ◌^◌, ◌<◌, ◌≤◌, ℕ, List, [], ◌∷◌, None, ap, drop, length, arith, refl, subst}
use Rattle.std.proofs.lemmas.List.{drop_all}
use Rattle.model.specs.plain_store.{Setup}
use Rattle.draw.specs.{RunDrawing, AccessView, tally}
use Rattle.scenario.specs.{Line}
use Rattle.scenario.proofs.Places.{drop_in}
use Rattle.scenario_run.specs.{CanCount, Summary}
use Rattle.scenario_run.proofs.Onwards.{onward_numbers}
use Rattle.draw.proofs.Written.{if_ok_both, if_ok_then}
use Rattle.scenario.proofs.files.Failing.{fails_after}
use Rattle.picture.specs.{WindowPlan}
use Rattle.draw.proofs.RunGiving.{number_of_first}
use Rattle.draw.proofs.LinesDrawn.{Drawn, drawn_end, drawn_on, drawn_opening, drawn_start}
use Rattle.draw.proofs.runs.drawing.draw_lines.Goals as goal

-- no count wraps in as many lines as a scenario may have

begins : (summary : Summary) → summary ≡ record { events = 0; taken = 0; refused = 0 } → CanCount summary (4000 * 2 ^ 32)
begins summary none = let events = ap (λ (s : Summary). s.events) none in let refused = ap (λ (s : Summary). s.refused) none in (omega (arith, events), omega (arith, refused))

goes_on : (summary : Summary) (k lines : ℕ) → k < lines → lines ≤ 4000 → CanCount summary ((4000 - k) * 2 ^ 32) → CanCount summary ((4000 - (k + 1)) * 2 ^ 32 + 2 ^ 32)
goes_on summary k lines within few (events, refused) = (omega (arith, events, within, few), omega (arith, refused, within, few))

one_line : (summary : Summary) (k lines : ℕ) → k < lines → lines ≤ 4000 → CanCount summary ((4000 - k) * 2 ^ 32) → CanCount summary (2 ^ 32)
one_line summary k lines within few (events, refused) = (omega (arith, events, within, few), omega (arith, refused, within, few))

pub loop-line-init : goal.loop-line-init
loop-line-init g c =
    let run : RunDrawing = c.args.run.now in
    let s : Setup = c.args.scenario.now.setup in
    record {
      drawn = λ (plan : WindowPlan) (view : AccessView) first recalls. drawn_start plan view s c.args.scenario.now.lines.items c.args.scenario_run.now run (g.W.Sink.taken c.args.output.now)
          c.requires.setup c.requires.follows c.requires.tally first (number_of_first s run.drawing.source c.requires.source) recalls;
      source = omega (arith, c.requires.source);
      whole = refl;
      room = begins (tally run) c.requires.tally;
    }

pub loop-line-preserved : goal.loop-line-preserved
loop-line-preserved g c =
    let s : Setup = c.args.scenario.now.setup in
    let lines : List Line = c.args.scenario.now.lines.items in
    let k : ℕ = c.loop-line.line-index in
    let here : Line = c.line-item.result in
    let within : k < length lines = omega arith in
    let next : drop k lines ≡ here ∷ drop (k + 1) lines = drop_in lines k here within (rw c.deref-line-items.ensures.value at c.line-item.is) in
    let mid : RunDrawing = c.loop-line.run in
    let a = g.W.Sink.taken c.args.output.now in
    let b = g.W.Sink.taken c.loop-line.output in
    record {
      drawn = λ (plan : WindowPlan) (view : AccessView) first recalls.
          drawn_on plan view s lines (drop (k + 1) lines) here c.loop-line.scenario_run c.draw_line.new.scenario_run mid c.draw_line.new.run a b (g.W.Sink.taken c.draw_line.new.output)
          (subst (λ (rest : List Line). Drawn plan view s lines rest c.loop-line.scenario_run mid a b) next (c.loop-line.invariant.drawn plan view first recalls))
          c.in_ok-draw_line.ensures.drawn c.in_ok-draw_line.ensures.source;
      source = omega (arith, c.in_ok-draw_line.ensures.source, c.loop-line.invariant.source);
      whole = omega (arith, c.in_ok-draw_line.ensures.fails.counted, c.loop-line.invariant.whole);
      room = c.in_ok-draw_line.ensures.room ((4000 - (k + 1)) * 2 ^ 32) (goes_on (tally mid) k (length lines) within c.args.scenario.now.few c.loop-line.invariant.room);
    }

pub draw_line-requires-clause-room : goal.draw_line-requires-clause-room
draw_line-requires-clause-room g c =
    let within : c.loop-line.line-index < length c.args.scenario.now.lines.items = omega arith in
    one_line (tally c.loop-line.run) c.loop-line.line-index (length c.args.scenario.now.lines.items) within c.args.scenario.now.few c.loop-line.invariant.room

-- all lines are drawn
whole_drawn : (k : ℕ) (lines : List Line) (P : List Line → Type 0) → length lines ≤ k → P (drop k lines) → P []
whole_drawn k lines P all drawn = subst P (drop_all k lines all) drawn

pub returns-clause-drawn : goal.returns-clause-drawn
returns-clause-drawn g c =
    let s : Setup = c.args.scenario.now.setup in
    let lines : List Line = c.args.scenario.now.lines.items in
    let mid : RunDrawing = c.loop-line.run in
    let a = g.W.Sink.taken c.args.output.now in
    let b = g.W.Sink.taken c.loop-line.output in
    if_ok_both c.end.result
    (λ answer ends is plan view first recalls.
    let d : Drawn plan view s lines [] c.loop-line.scenario_run mid a b = whole_drawn c.loop-line.line-index lines (λ rest. Drawn plan view s lines rest c.loop-line.scenario_run mid a b) (omega arith) (c.loop-line.invariant.drawn plan view first recalls) in
    drawn_end plan view s lines c.loop-line.scenario_run mid answer.summary a b (g.W.Sink.taken c.end.new.output) answer.height d (is ∙ onward_numbers s lines c.loop-line.scenario_run (tally mid) c.taken.result None None d.onward c.taken.ensures) ends)
    c.end.ensures.drawn c.end.ensures.summary

pub returns-clause-summary : goal.returns-clause-summary
returns-clause-summary g c =
    let s : Setup = c.args.scenario.now.setup in
    let lines : List Line = c.args.scenario.now.lines.items in
    let mid : RunDrawing = c.loop-line.run in
    let a = g.W.Sink.taken c.args.output.now in
    let b = g.W.Sink.taken c.loop-line.output in
    if_ok_then c.end.result
    (λ answer is plan view first recalls.
    let d : Drawn plan view s lines [] c.loop-line.scenario_run mid a b = whole_drawn c.loop-line.line-index lines (λ rest. Drawn plan view s lines rest c.loop-line.scenario_run mid a b) (omega arith) (c.loop-line.invariant.drawn plan view first recalls) in
    is ∙ onward_numbers s lines c.loop-line.scenario_run (tally mid) c.taken.result None None d.onward c.taken.ensures)
    c.end.ensures.summary

pub returns-clause-opening : goal.returns-clause-opening
returns-clause-opening g c =
    let s : Setup = c.args.scenario.now.setup in
    let lines : List Line = c.args.scenario.now.lines.items in
    let mid : RunDrawing = c.loop-line.run in
    let a = g.W.Sink.taken c.args.output.now in
    let b = g.W.Sink.taken c.loop-line.output in
    if_ok_then c.end.result
    (λ answer opens plan view first recalls.
    let d : Drawn plan view s lines [] c.loop-line.scenario_run mid a b = whole_drawn c.loop-line.line-index lines (λ rest. Drawn plan view s lines rest c.loop-line.scenario_run mid a b) (omega arith) (c.loop-line.invariant.drawn plan view first recalls) in
    drawn_opening plan view s lines c.loop-line.scenario_run mid answer.opening.items a b d opens)
    c.end.ensures.opening

pub returns-clause-fails : goal.returns-clause-fails
returns-clause-fails g c = record { fault = c.end.ensures.fails.fault; counted = omega (arith, c.end.ensures.fails.counted, c.loop-line.invariant.whole) }

pub returns-in_err-draw_line-clause-fails : goal.returns-in_err-draw_line-clause-fails
returns-in_err-draw_line-clause-fails g c = fails_after g.W.Sink.failures c.from_residual.result c.in_err-draw_line.field-0.0 _ _ _ c.from_residual.ensures.1 c.loop-line.invariant.whole c.in_err-draw_line.ensures.fails
