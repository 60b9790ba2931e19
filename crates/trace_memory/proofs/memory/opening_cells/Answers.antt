use Rattle.std.proofs.Common.{◌+◌, ◌++◌, drop, sym, ap, ◌∙◌, append_assoc}
use Rattle.trace.proofs.Lists.{drop_more}
use Rattle.trace_memory.specs.{opening_cells}
use Rattle.trace_memory.proofs.memory.opening_cells.Goals as goal

pub loop-register-preserved : goal.loop-register-preserved
loop-register-preserved c =
    let rs = c.args.registers.now in
    let i = c.loop-register.register-index in
    ap (λ l. l ++ opening_cells (drop (i + 1) rs)) c.in_ok-extend_from_slice.ensures.items
    ∙ append_assoc c.loop-register.cells.items _ (opening_cells (drop (i + 1) rs))
    ∙ ap (λ l. c.loop-register.cells.items ++ opening_cells l) (sym (drop_more rs i c.register-item.result c.loop-register-test.true c.register-item.is))
    ∙ c.loop-register.invariant
