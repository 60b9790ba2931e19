use Rattle.std.proofs.Common.{arith}
use Rattle.run_state.proofs.CopyBits.{opening-zeros}
use Rattle.run_state.proofs.copies.opening_bytes.Goals as goal

pub returns-then-register-gt0 : goal.returns-then-register-gt0
returns-then-register-gt0 c = opening-zeros c.args.setup.now c.args.register.owner c.args.register.field (λ owner field. absurd (omega (arith, owner)))

pub returns-in_default : goal.returns-in_default
returns-in_default c = opening-zeros c.args.setup.now c.args.register.owner c.args.register.field (λ owner field. c.in_default.not-Image0 field)
