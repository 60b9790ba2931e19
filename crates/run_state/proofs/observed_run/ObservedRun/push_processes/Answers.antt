use Rattle.std.proofs.Common.{◌≡◌, ◌++◌, flat_map, ap, sym, ◌∙◌, arith, append-nil}
use Rattle.std.specs.List.{range_with_len}
use Rattle.run_state.specs.{SnapshotState, process_lines}
use Rattle.run_state.proofs.Ranges.{text_more}
use Rattle.run_state.proofs.observed_run.ObservedRun.push_processes.Goals as goal

pub loop-process-init : goal.loop-process-init
loop-process-init c = λ past u. sym (append-nil c.args.text.now.items)

pub loop-process-preserved : goal.loop-process-preserved
loop-process-preserved c = λ past u.
    text_more (process_lines c.args.self.now.setup past) c.loop-process.process c.args.text.now.items c.loop-process.text.items c.push_process.new.text.items (c.loop-process.invariant past u) (c.in_ok-push_process.ensures past u)

pub returns : goal.returns
returns c = λ past u.
    let all : c.loop-process.process ≡ c.self.inside.setup.processes = omega (arith, c.loop-process-test.false, c.loop-process.auto.process-end) in
    c.loop-process.invariant past u ∙ ap (λ n. c.args.text.now.items ++ flat_map (process_lines c.args.self.now.setup past) (range_with_len 0 n)) (all ∙ ap (λ (x : SnapshotState). x.setup.processes) c.self.view_is)
