use Rattle.std.proofs.Common.{◌%◌, ◌^◌, ℕ, get_or, sym, ap, ◌∙◌, arith}
use Rattle.model.specs.{width}
use Rattle.safe_number.specs.{number_of_bits}
use Rattle.registers.proofs.Numbers.{words-number}
use Rattle.registers.proofs.memory.BitMemory.number_held.Goals as goal

pub returns : goal.returns
returns c =
    let w : ℕ = width c.args.setup.now c.args.register.field in
    let words = c.words_held-words.result in
    c.low_bits.ensures
    ∙ ap (λ n. get_or words 0 0 % 2 ^ n) c.width_of.ensures.width
    ∙ sym (words-number words w (omega (arith, c.requires.narrow)))
    ∙ ap number_of_bits c.words_held-words.ensures.bits
