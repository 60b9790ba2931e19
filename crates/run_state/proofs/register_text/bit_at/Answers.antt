use Rattle.std.proofs.Common.{◌∙◌}
use Rattle.calls.specs.world.{copy_held}
use Rattle.calls.specs.world.process.registers.reader_copies.{copy_state}
use Rattle.run_state.proofs.register_text.bit_at.Goals as goal

pub returns : goal.returns
returns c = λ past u there. c.copy_state.ensures u.taken u.events u.shows ∙ (λ i. copy_state (copy_held (c.requires.setup i) (u.is i) (c.of.ensures i)))
