use Rattle.std.proofs.Common.{◌≡◌, ◌+◌, ℕ, List, [], ◌∷◌, ◌++◌, ◌∙◌, ap, get_or, map, take, arith, refl, subst, sym}
use Rattle.std.proofs.lemmas.List.{map-append, take_all, take_more}
use Rattle.draw.specs.{DrawsLines, Says, SaysLockMark}
use Rattle.draw.proofs.Drawn.{draws_lines_both, draws_no_lines}
use Rattle.files.proofs.Failing.{fails_after}
use Rattle.trace.specs.{LockMark}
use Rattle.trace.specs.declared.marks.LockMark.TheVariants.{Call}
use Rattle.trace_draw.specs.{TraceDrawing}
use Rattle.trace_draw.proofs.Drawn.{rest_on}
use Rattle.trace_draw.proofs.drawing.TraceDrawing.draw_marks.Goals as goal

pub loop-mark-init : goal.loop-mark-init
loop-mark-init g c = record {
  drawn = draws_no_lines c.args.self.now.canvas (g.W.Sink.taken c.args.output.now) c.args.self.now.source c.args.self.now.entries;
  rest = refl;
  whole = refl;
}

pub draw_mark-requires : goal.draw_mark-requires
draw_mark-requires g c = rw c.loop-mark.invariant.whole c.requires

pub returns-in_err-draw_mark-clause-fails : goal.returns-in_err-draw_mark-clause-fails
returns-in_err-draw_mark-clause-fails g c = fails_after g.W.Sink.failures c.from_residual.result c.in_err-draw_mark.field-0.0 _ _ _ c.from_residual.ensures.1 c.loop-mark.invariant.whole c.in_err-draw_mark.ensures.fails

pub returns-in_err-draw_mark-clause-rest : goal.returns-in_err-draw_mark-clause-rest
returns-in_err-draw_mark-clause-rest g c =
    rest_on c.args.self.now c.loop-mark.self c.draw_mark.new.self c.loop-mark.invariant.rest c.in_err-draw_mark.ensures.rest

pub loop-mark-preserved : goal.loop-mark-preserved
loop-mark-preserved g c =
    let p = c.args.process in
    let old = c.args.self.now in
    let marks : List LockMark = take c.loop-mark.mark-index c.args.marks.now in
    let here : LockMark = get_or c.args.marks.now c.loop-mark.mark-index Call in
    let next : take (c.loop-mark.mark-index + 1) c.args.marks.now ≡ marks ++ here ∷ [] = take_more c.args.marks.now c.loop-mark.mark-index Call c.loop-mark-test.true in
    let said : map (SaysLockMark p) (take (c.loop-mark.mark-index + 1) c.args.marks.now) ≡ map (SaysLockMark p) marks ++ SaysLockMark p here ∷ [] = ap (map (SaysLockMark p)) next ∙ map-append (SaysLockMark p) marks (here ∷ []) in
    let a = g.W.Sink.taken c.args.output.now in
    let b = g.W.Sink.taken c.loop-mark.output in
    let d = g.W.Sink.taken c.draw_mark.new.output in
    let had = c.loop-mark.invariant in
    let mid = c.loop-mark.self in
    let now = c.draw_mark.new.self in
    let source : mid.source ≡ old.source = ap (λ (t : TraceDrawing). t.source) had.rest in
    let entries : mid.entries ≡ old.entries = ap (λ (t : TraceDrawing). t.entries) had.rest in
    let on = subst (λ (n : ℕ). DrawsLines mid.canvas now.canvas b d n old.entries (SaysLockMark p here ∷ [])) source (subst (λ (n : ℕ). DrawsLines mid.canvas now.canvas b d mid.source n (SaysLockMark p here ∷ [])) entries c.in_ok-draw_mark.ensures.drawn) in
    record {
      drawn = subst (λ (l : List Says). DrawsLines old.canvas now.canvas a d old.source old.entries l) (sym said)
          (draws_lines_both old.canvas mid.canvas now.canvas a b d old.source old.entries (map (SaysLockMark p) marks) (SaysLockMark p here ∷ []) had.drawn on);
      rest = rest_on old mid now had.rest c.in_ok-draw_mark.ensures.rest;
      whole = omega (arith, c.in_ok-draw_mark.ensures.fails.counted, had.whole);
    }

pub returns-clause-drawn : goal.returns-clause-drawn
returns-clause-drawn g c =
    subst (λ (l : List LockMark). DrawsLines c.args.self.now.canvas c.loop-mark.self.canvas (g.W.Sink.taken c.args.output.now) (g.W.Sink.taken c.loop-mark.output) c.args.self.now.source c.args.self.now.entries (map (SaysLockMark c.args.process) l))
    (take_all c.loop-mark.mark-index c.args.marks.now (omega arith)) c.loop-mark.invariant.drawn
