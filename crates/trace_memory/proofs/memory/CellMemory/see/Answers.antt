use Rattle.std.proofs.Common.{sym, ◌∙◌}
use Rattle.trace_memory.proofs.Seeing.{all_unseen, none_of}
use Rattle.trace_memory.proofs.memory.CellMemory.see.Goals as goal

pub returns-else-is_some : goal.returns-else-is_some
returns-else-is_some c =
    let k = c.args.self.now in
    let none = sym c.value_written.ensures ∙ none_of c.value_written.result (sym c.is_some.ensures ∙ c.if-is_some.false) in
    λ i. record { setup = k.setup; cells = k.cells; opened = sym (all_unseen k.setup.memory c.args.access.now k.opened none) i }
