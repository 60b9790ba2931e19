use Rattle.std.proofs.Common.{◌++◌, reverse, refl, ◌∙◌, append_assoc}
use Rattle.calls.specs.Lines.{header}
use Rattle.calls.specs.{open_recorded_lines, recorded_lines}
use Rattle.calls.proofs.record_table.RecordCallsEntryObserver.report.Goals as goal

pub returns : goal.returns
returns c = λ s entries numbers h.
    let past = reverse entries in
    let lines = c.in_ok-extend_from_slice.ensures.items ∙ (λ i. c.new-text.ensures.items i ++ (c.as_slice.ensures.value ∙ h.lines) i) in
    record {
      table =
          c.in_ok-print_open.ensures past h.table
          ∙ (λ i. lines i ++ open_recorded_lines (h.setup i) past)
          ∙ append_assoc header (recorded_lines s past) (open_recorded_lines s past);
      answer = refl;
    }
