use Rattle.std.proofs.Common.{◌≡◌, ◌≤◌, Ok, false, arith}
use Rattle.plain_store.specs.{Setup, checked}
use Rattle.plain_store.proofs.GoodSetups.{good-checked}
use Rattle.std.proofs.lemmas.Bool.Decides.{nat_tests}
use Rattle.model.specs.{Field, width}
use Rattle.model.specs.declared.access.Field.TheVariants.{Choosing, Ticket, Commit, Stamp0, Stamp1, Image0, Image1}
use Rattle.bakery.specs.Memory.{is_image}
use Rattle.bakery.proofs.memory.SetupMemory.number_held.Goals as goal

-- a register that holds a number has at most 32 bits
narrow : (s : Setup) (field : Field) → checked s ≡ Ok tt → is_image field ≡ false → width s field ≤ 32
narrow s Choosing good is = omega arith
narrow s Ticket good is = let g = good-checked s good in grind (arith, nat_tests, g.ticket_bits)
narrow s Commit good is = omega arith
narrow s Stamp0 good is = let g = good-checked s good in grind (arith, nat_tests, g.stamp_bits)
narrow s Stamp1 good is = let g = good-checked s good in grind (arith, nat_tests, g.stamp_bits)
narrow s Image0 good is = absurd (cc)
narrow s Image1 good is = absurd (cc)

pub number_held-requires-clause-narrow : goal.number_held-requires-clause-narrow
number_held-requires-clause-narrow c = narrow c.self.inside.setup c.args.field c.self.invariant.good c.requires.number
