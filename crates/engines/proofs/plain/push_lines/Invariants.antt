use Rattle.std.proofs.Common.{◌≡◌, ◌++◌, ◌≤◌, length, drop}
use Rattle.std.specs.String.{string_bytes}
use Rattle.engines.specs.Plain.{text_from, run_at_start}
use Rattle.engines.proofs.plain.push_lines.Given as goal

-- the text so far and that of the remaining lines are the text before and that of all lines
abbrev pub invariant-loop-line : goal.invariant-loop-line
invariant-loop-line l = record {
  reported : string_bytes l.text ++ text_from l.scenario.setup l.run (drop l.line-index l.scenario.lines.items) ≡ string_bytes l.fn.text ++ text_from l.scenario.setup (run_at_start l.scenario.setup) l.scenario.lines.items;
  known : length l.run.counts ≡ l.scenario.setup.processes;
  few : l.run.place ≤ l.line-index;
}
