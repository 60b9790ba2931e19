use Rattle.std.proofs.Common.{◌∙◌, arith}
use Rattle.run_state.proofs.RegisterBytes.{padded-register}
use Rattle.run_state.proofs.copies.register_image.Goals as goal

pub returns : goal.returns
returns c = c.pad.ensures ∙ padded-register c.args.image.now c.requires (λ k. omega (arith, c.type_inv.image k))
