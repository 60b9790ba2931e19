-- A write fits its register, and leaves its bits.
use Rattle.laws.proofs.WriteEnds.{writes_leave}
use Rattle.laws.proofs.WriteWidths.{writes_fit}
use Rattle.laws.proofs.registers.writes_leave_their_bits.Goals as goal

pub returns-clause-fits : goal.returns-clause-fits
returns-clause-fits x = writes_fit

pub returns-clause-leaves : goal.returns-clause-leaves
returns-clause-leaves x = writes_leave
