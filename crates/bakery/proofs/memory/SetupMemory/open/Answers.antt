use Rattle.std.proofs.Common.{List, sym, subst}
use Rattle.process.specs.registers.safe_bit.Cell.{Cell}
use Rattle.process.specs.registers.{AreOf}
use Rattle.process.specs.{cells_opening}
use Rattle.process.proofs.Memories.{with-are}
use Rattle.bakery.proofs.memory.SetupMemory.open.Goals as goal

pub invariant_of-result : goal.invariant_of-result
invariant_of-result c =
    let s = c.args.setup.now in
    let P : List (List Cell) → Type 0 = λ memory. AreOf s memory in
    record { good = c.requires; are = subst P (sym c.in_ok-open_memory.ensures) (with-are (cells_opening s) s) }
