use Rattle.std.proofs.Common.{List, length, refl, ap, ◌∙◌}
use Rattle.trace.specs.{TraceSetup}
use Rattle.trace_memory.specs.{CellState, opening_cells}
use Rattle.trace_memory.proofs.Opening.{length-opening, made-first}
use Rattle.trace_memory.proofs.memory.CellMemory.new.Goals as goal

pub invariant_of-result : goal.invariant_of-result
invariant_of-result c =
    let rs = ap (λ (s : TraceSetup). s.registers) c.setup.view_is in
    record {
      good = c.requires;
      cells = ap (λ (l : List CellState). length l) (c.in_ok-cells.ensures ∙ ap opening_cells (c.deref.ensures.value ∙ rs)) ∙ length-opening c.args.setup.registers;
      opened = refl;
    }

pub returns-clause-made : goal.returns-clause-made
returns-clause-made c =
    let rs = ap (λ (s : TraceSetup). s.registers) c.setup.view_is in
    made-first c.args.setup c.in_ok-cells.cells.items c.requires (c.in_ok-cells.ensures ∙ ap opening_cells (c.deref.ensures.value ∙ rs))
