use Rattle.std.proofs.Common.{List, sym, subst}
use Rattle.process.specs.registers.safe_bit.Cell.{Cell}
use Rattle.process.specs.registers.{AreOf}
use Rattle.bakery.proofs.Kept.{kept-dropped}
use Rattle.bakery.proofs.memory.SetupMemory.drop_read.Goals as goal

pub invariant_of-self : goal.invariant_of-self
invariant_of-self c =
    let s = c.self.inside.setup in
    let P : List (List Cell) → Type 0 = λ memory. AreOf s memory in
    record { good = c.self.invariant.good; are = subst P (sym c.drop_read.ensures) (kept-dropped s c.args.place.now c.self.inside.registers c.self.invariant.are) }
