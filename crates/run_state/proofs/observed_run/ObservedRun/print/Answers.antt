use Rattle.std.proofs.Common.{List, ◌++◌, flat_map, ap, ◌∙◌, append_assoc}
use Rattle.model.specs.{Taken, processes}
use Rattle.run_state.specs.{SnapshotState, history_lines, process_lines, register_lines}
use Rattle.run_state.proofs.ObservedWorlds.{core_shows, ok_then, taken_is}
use Rattle.run_state.proofs.observed_run.ObservedRun.print.Goals as goal

pub returns : goal.returns
returns c = record {
  lines = ok_then c.push_history.result
      (λ wrote past u.
      let t = c.args.self.now in
      let first = flat_map (process_lines t.setup past) (processes t.setup) in
      let registers = c.in_ok-push_registers.ensures past (core_shows t c.args.core.now c.args.history.now past u) ∙ ap (λ (x : SnapshotState). c.push_processes.new.text.items ++ register_lines x.setup past) c.self.view_is in
      let last = history_lines t.setup c.args.history.now in
      wrote ∙ ap (λ (x : SnapshotState). c.push_registers.new.text.items ++ history_lines x.setup c.args.history.now) c.self.view_is
      ∙ ap (λ l. l ++ last) (registers ∙ ap (λ l. l ++ register_lines t.setup past) (c.in_ok-push_processes.ensures past u))
      ∙ append_assoc (c.args.text.now.items ++ first) (register_lines t.setup past) last ∙ append_assoc c.args.text.now.items first (register_lines t.setup past ++ last)
      ∙ ap (λ (taken : List Taken). c.args.text.now.items ++ (first ++ (register_lines t.setup past ++ history_lines t.setup taken))) (taken_is t c.args.core.now c.args.history.now past u))
      c.push_history.ensures;
}
