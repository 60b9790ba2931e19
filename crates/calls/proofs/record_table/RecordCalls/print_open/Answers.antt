use Rattle.std.proofs.Common.{ℕ, ◌-◌, List, ◌++◌, flat_map, length, ap, sym, ◌∙◌, append_assoc}
use Rattle.std.specs.List.{range_with_len}
use Rattle.calls.specs.{line_of, open_recorded}
use Rattle.calls.proofs.Ranges.{lines_more}
use Rattle.calls.proofs.record_table.RecordCalls.print_open.Goals as goal

pub loop-process-preserved : goal.loop-process-preserved
loop-process-preserved c = λ past h.
    let k : ℕ = c.loop-process.process in
    let f : ℕ → List ℕ = λ p. line_of (length past - 1) (open_recorded c.args.self.now.table.setup p past) in
    let before : List ℕ = c.args.text.now.items in
    let newest = c.newest.ensures ∙ ap (λ n. n - 1) h.entries in
    c.in_ok-print_if.ensures ∙ (λ i. c.loop-process.invariant past h i ++ line_of (newest i) (c.open_listed-called.ensures past h i))
    ∙ append_assoc before (flat_map f (range_with_len 0 k)) (f k) ∙ ap (λ l. before ++ l) (sym (lines_more f k))
