use Rattle.std.proofs.Common.{ℕ, ◌-◌, List, ◌++◌, flat_map, length, ap, subst, sym, ◌∙◌, append_assoc}
use Rattle.std.specs.List.{range_with_len}
use Rattle.trace_calls.specs.{HasListed, ListerState, line_of, open_call}
use Rattle.calls.proofs.Ranges.{lines_more}
use Rattle.trace_calls.proofs.listing.TraceLister.print_open.Goals as goal

pub loop-process-preserved : goal.loop-process-preserved
loop-process-preserved c = λ past h.
    let k : ℕ = c.loop-process.process in
    let f : ℕ → List ℕ = λ p. line_of (length past - 1) p (open_call c.args.self.now.table.opened.processes p past) in
    let before : List ℕ = c.args.text.now.items in
    let newest = c.saturating_sub-newest.ensures ∙ ap (λ n. n - 1) (c.entries.ensures ∙ ap (λ (l : ListerState). l.table.entries) c.self.view_is ∙ h.entries) in
    let there = subst (λ (l : ListerState). HasListed l.table past) (sym c.self.view_is) h in
    let call = c.open_call-call.ensures past there ∙ ap (λ (l : ListerState). open_call l.table.opened.processes k past) c.self.view_is in
    c.in_ok-print_if.ensures ∙ (λ i. c.loop-process.invariant past h i ++ line_of (newest i) k (call i))
    ∙ append_assoc before (flat_map f (range_with_len 0 k)) (f k) ∙ ap (λ l. before ++ l) (sym (lines_more f k))
