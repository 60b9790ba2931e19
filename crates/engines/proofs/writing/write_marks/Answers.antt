use Rattle.std.proofs.Common.{ℕ, ◌+◌, ◌++◌, flat_map, take, drop, arith, ap, refl, sym, subst}
use Rattle.std.proofs.lemmas.List.{take_all}
use Rattle.std.specs.Io.KnownBytes.{Appends}
use Rattle.scenario.specs.files.{WritesFront}
use Rattle.scenario_run.specs.{mark_line}
use Rattle.scenario.proofs.files.Failing.{fails_after}
use Rattle.scenario_run.proofs.Written.{appends_both, appends_none, front_after, front_all, front_longer, items_more, items_split}
use Rattle.engines.proofs.writing.write_marks.Goals as goal

pub loop-mark-init : goal.loop-mark-init
loop-mark-init g c = record { taken = appends_none (g.W.Sink.taken c.args.output.now); whole = refl }

pub write_run_line-requires : goal.write_run_line-requires
write_run_line-requires g c = rw c.loop-mark.invariant.whole c.requires

pub returns-in_err-write_run_line-clause-front : goal.returns-in_err-write_run_line-clause-front
returns-in_err-write_run_line-clause-front g c =
    let f = mark_line c.args.event c.args.process in
    let marks = c.args.marks.now in
    let k : ℕ = c.loop-mark.mark-index in
    subst (λ l. WritesFront (g.W.Sink.taken c.args.output.now) (g.W.Sink.taken c.write_run_line.new.output) l) (sym (items_split f marks k c.mark-item.result c.loop-mark-test.true c.mark-item.is))
    (front_after _ _ _ (flat_map f (take k marks)) (f c.mark-item.result ++ flat_map f (drop (k + 1) marks)) c.loop-mark.invariant.taken
    (front_longer _ _ (f c.mark-item.result) (flat_map f (drop (k + 1) marks)) c.in_err-write_run_line.ensures.front))

pub returns-in_err-write_run_line-clause-fails : goal.returns-in_err-write_run_line-clause-fails
returns-in_err-write_run_line-clause-fails g c = fails_after g.W.Sink.failures c.from_residual.result c.in_err-write_run_line.field-0.0 _ _ _ c.from_residual.ensures.1 c.loop-mark.invariant.whole c.in_err-write_run_line.ensures.fails

pub loop-mark-preserved : goal.loop-mark-preserved
loop-mark-preserved g c =
    let f = mark_line c.args.event c.args.process in
    let marks = c.args.marks.now in
    let k : ℕ = c.loop-mark.mark-index in
    record {
      taken = subst (λ l. Appends (g.W.Sink.taken c.args.output.now) (g.W.Sink.taken c.write_run_line.new.output) l) (sym (items_more f marks k c.mark-item.result c.loop-mark-test.true c.mark-item.is))
          (appends_both _ _ _ (flat_map f (take k marks)) (f c.mark-item.result) c.loop-mark.invariant.taken c.in_ok-write_run_line.ensures.written);
      whole = omega (arith, c.in_ok-write_run_line.ensures.fails.counted, c.loop-mark.invariant.whole);
    }

pub returns-clause-front : goal.returns-clause-front
returns-clause-front g c =
    let f = mark_line c.args.event c.args.process in
    let marks = c.args.marks.now in
    subst (λ l. WritesFront (g.W.Sink.taken c.args.output.now) (g.W.Sink.taken c.loop-mark.output) l) (ap (flat_map f) (take_all c.loop-mark.mark-index marks (omega (arith, c.loop-mark-test.false))))
    (front_all _ _ (flat_map f (take c.loop-mark.mark-index marks)) c.loop-mark.invariant.taken)
