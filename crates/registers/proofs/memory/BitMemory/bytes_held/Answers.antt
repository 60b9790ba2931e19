use Rattle.std.proofs.Common.{ℕ, false, get_or, sym, ap, ◌∙◌, arith}
use Rattle.model.specs.{width}
use Rattle.reader_copies.proofs.Words.{bit-found}
use Rattle.registers.proofs.memory.BitMemory.bytes_held.Goals as goal

pub returns : goal.returns
returns c = λ k below.
    let w : ℕ = width c.args.setup.now c.args.register.field in
    let words = c.words_held.result in
    c.bytes_of.ensures.bits k (omega (arith, below, c.words_held.ensures.most))
    ∙ sym (bit-found words w k below)
    ∙ ap (λ bits. get_or bits k false) c.words_held.ensures.bits
