use Rattle.std.proofs.Common.{◌∷◌, Option, Some, sym, subst}
use Rattle.std.specs.Prelude.{IfSome, IsTrue}
use Rattle.trace.specs.{CellAccess, trace_entry}
use Rattle.trace_memory.specs.{HasMade, IsMemory, MemoryState, has_cell}
use Rattle.trace_memory.proofs.Made.{made-on}
use Rattle.trace_memory.proofs.memory.CellMemory.take.Goals as goal

pub returns-in-Some-clause-made : goal.returns-in-Some-clause-made
returns-in-Some-clause-made c = λ marks past made number.
    let k = c.args.self.now in
    let a = c.in-Some.access in
    let there : IfSome (Some a) (λ a. IsTrue (has_cell k.setup a.cell)) = subst (λ (o : Option CellAccess). IfSome o (λ a. IsTrue (has_cell k.setup a.cell))) c.in-Some.is c.requires.cell in
    subst (λ (o : Option CellAccess). HasMade c.make.new.self (trace_entry c.args.process o marks ∷ past)) (sym c.in-Some.is)
    (subst (λ (m : MemoryState). HasMade m (trace_entry c.args.process (Some a) marks ∷ past)) (sym (c.make.ensures.state past made))
    (made-on k c.args.process c.args.entry a marks past (subst (λ (m : MemoryState). IsMemory m) c.self.view_is c.self.invariant) c.requires.process there number made))
