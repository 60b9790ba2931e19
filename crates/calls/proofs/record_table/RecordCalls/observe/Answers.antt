use Rattle.std.proofs.Common.{◌+◌, ◌++◌, ◌∷◌, [], reverse, ap, sym, subst, ◌∙◌}
use Rattle.std.proofs.lemmas.List.{length-append}
use Rattle.model.specs.{Past}
use Rattle.calls.specs.Lines.{header}
use Rattle.calls.specs.{HasListed, entry_with, recorded_lines}
use Rattle.judge.proofs.LinesAt.{ok_then}
use Rattle.calls.specs.{Monitors}
use Rattle.calls.proofs.Listed.{lines_on, newest_first, table_on}
use Rattle.calls.proofs.record_table.RecordCalls.observe.Goals as goal

pub returns : goal.returns
returns c = ok_then c.print_if.result
    (λ printed s entries h.
    let old = c.args.self.now in
    let past = reverse entries in
    let e = entry_with c.args.process c.args.access.now c.args.marks.now in
    let lists = c.list-ended.ensures in
    let on = table_on old s entries h e c.list-ended.new.self c.overlaps-overlapped.result c.list-ended.result lists.lists (λ below. c.overlaps-overlapped.ensures s past c.args.marks.now h.reads below) in
    let first = newest_first old s entries h e in
    record {
      reads = subst (λ (l : Past). Monitors s l c.observe.new.self) (sym first) (c.observe.ensures s past c.args.marks.now h.reads);
      setup = lists.setup ∙ h.setup;
      table = subst (λ (l : Past). HasListed c.list-ended.new.self l) (sym first) on.0;
      count = lists.count ∙ ap (λ n. n + 1) h.count ∙ sym (length-append entries (e ∷ []));
      lines = lines_on old s entries h e c.entries-newest.result c.list-ended.result c.print_if.new.lines.items c.entries-newest.ensures on.1 printed ∙ ap (λ (l : Past). header ++ recorded_lines s l) (sym first);
    })
    c.print_if.ensures
