use Rattle.std.proofs.Common.{◌<◌, None, Some, length, option_map, slice_set, sym, ap, ◌∙◌, subst}
use Rattle.std.proofs.lemmas.List.Edits.{map_over_more}
use Rattle.trace.proofs.Lists.{any_default}
use Rattle.trace_calls.specs.Keeping.{seen}
use Rattle.trace_calls.proofs.opened.see_all.Goals as goal
use Rattle.trace_calls.proofs.opened.see_all.Goals.{in-Some, in_default}

pub loop-opened-preserved : goal.loop-opened-preserved
loop-opened-preserved c =
    let f = seen c.args.access.now in
    let old = c.args.opened.now in
    let ys = c.loop-opened.opened in
    let i = c.loop-opened.opened-index in
    let within : i < length ys = subst (λ n. i < n) (sym c.loop-opened.auto.opened) c.loop-opened-test.true in
    elim c.match-opened.branch [
      | in-Some w ↦ w.opened-is
          ∙ ap (λ k. slice_set ys i (Some k)) w.see.ensures
          ∙ map_over_more (option_map f) old ys i (Some w.in-Some.opened) c.loop-opened-test.true c.loop-opened.invariant (any_default ys i None (Some w.in-Some.opened) within w.in-Some.is)
      | in_default w ↦ w.opened-is
          ∙ ap (slice_set ys i) w.in_default.is
          ∙ map_over_more (option_map f) old ys i None c.loop-opened-test.true c.loop-opened.invariant (any_default ys i None None within w.in_default.is)
    ]
