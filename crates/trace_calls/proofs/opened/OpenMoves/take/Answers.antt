use Rattle.std.proofs.Common.{◌≡◌, ◌<◌, ◌∷◌, List, Option, Some, map, option_map, slice_set, sym, subst, ap, ◌∙◌, arith}
use Rattle.std.proofs.lemmas.Bool.{lt-ltb}
use Rattle.trace.specs.{trace_entry}
use Rattle.trace_calls.specs.declared.opened.OpenMove.{OpenMove}
use Rattle.trace_calls.specs.{HasOpened, OpenState, is_written}
use Rattle.trace_calls.specs.Keeping.{opened_by, seen}
use Rattle.trace_calls.proofs.OpenAccesses.{opens-on}
use Rattle.trace_calls.proofs.opened.OpenMoves.take.Goals as goal

pub returns-clause-opened : goal.returns-clause-opened
returns-clause-opened c = λ past has marks.
    let i = c.self.inside in
    let t : OpenState = record { processes = i.processes; opened = i.opened } in
    let p = c.args.process in
    let a = c.args.access.now in
    let below : p < t.processes = subst (λ (t : OpenState). p < t.processes) (sym c.self.view_is) c.requires in
    let few = c.self.invariant.0 in
    let inside : p < 16 = omega (arith, below, few) in
    let h : HasOpened t past = subst (λ (t : OpenState). HasOpened t past) (sym c.self.view_is) has in
    let written = c.is_written-written.ensures past has ∙ ap (λ (t : OpenState). is_written t.processes a.cell past) (sym c.self.view_is) in
    let by = c.opened_by.ensures ∙ ap (λ b. opened_by b a) written in
    let now : slice_set c.see_all.new.opened c.from.result c.opened_by.result ≡ slice_set (map (option_map (seen a)) i.opened) p (opened_by (is_written i.processes a.cell past) a) =
    λ j. slice_set (c.see_all.ensures j) (c.from.ensures j) (by j) in
    subst (λ (l : List (Option OpenMove)). HasOpened (record { processes = i.processes; opened = l }) (trace_entry p (Some a) marks ∷ past)) (sym now)
    (opens-on t p a marks past c.self.invariant.1 (lt-ltb p t.processes below) inside h)
