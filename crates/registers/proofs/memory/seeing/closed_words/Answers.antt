use Rattle.std.proofs.Common.{arith}
use Rattle.registers.proofs.CopyBytes.{none-open}
use Rattle.registers.proofs.Held.{values-kept}
use Rattle.registers.proofs.memory.seeing.closed_words.Goals as goal

pub returns-clause-closed : goal.returns-clause-closed
returns-clause-closed c =
    none-open c.args.lane.now (λ k below. c.loop-place.invariant.1 k (omega (arith, c.requires.wide, c.div_ceil-place-end.ensures, c.loop-place-test.false, below)) below)

pub returns-clause-bits : goal.returns-clause-bits
returns-clause-bits c =
    values-kept c.loop-place.words c.args.lane.now c.args.width c.requires.wide
    (λ k below. c.loop-place.invariant.2 k (omega (arith, c.div_ceil-place-end.ensures, c.loop-place-test.false, below)) (omega (arith, c.requires.wide, below)))
