use Rattle.std.proofs.Common.{◌≡◌, ◌%◌, ◌^◌, arith, sym, ◌∙◌, ap}
use Rattle.safe_number.specs.{number_of_bits}
use Rattle.registers.specs.{CursorState, bits_kept}
use Rattle.registers.proofs.Numbers.{words-number}
use Rattle.registers.proofs.cursor.Cursor.number.Goals as goal

pub returns-in-Reads : goal.returns-in-Reads
returns-in-Reads c =
    let r = c.self.inside in
    let width_is : r.width ≡ c.args.self.now.width = ap (λ (x : CursorState). x.width) c.self.view_is in
    c.low_bits.ensures
    ∙ ap (λ w. w % 2 ^ r.bit) c.word_at-word.ensures
    ∙ sym (words-number r.words r.bit (omega (arith, c.self.invariant.bit_in, c.requires)))
    ∙ ap (λ k. number_of_bits (bits_kept k r.words r.bit r.width)) (sym c.in-Reads.is)
    ∙ ap (λ (x : CursorState). number_of_bits x.bits) c.self.view_is

pub returns-in-Writes : goal.returns-in-Writes
returns-in-Writes c =
    let r = c.self.inside in
    let width_is : r.width ≡ c.args.self.now.width = ap (λ (x : CursorState). x.width) c.self.view_is in
    c.low_bits-in-Writes.ensures
    ∙ ap (λ w. w % 2 ^ r.width) c.word_at-word.ensures
    ∙ sym (words-number r.words r.width (omega (arith, c.requires)))
    ∙ ap (λ k. number_of_bits (bits_kept k r.words r.bit r.width)) (sym c.in-Writes.is)
    ∙ ap (λ (x : CursorState). number_of_bits x.bits) c.self.view_is

pub returns-in-Settles : goal.returns-in-Settles
returns-in-Settles c =
    let r = c.self.inside in
    let width_is : r.width ≡ c.args.self.now.width = ap (λ (x : CursorState). x.width) c.self.view_is in
    c.low_bits-in-Settles.ensures
    ∙ ap (λ w. w % 2 ^ r.width) c.word_at-word.ensures
    ∙ sym (words-number r.words r.width (omega (arith, c.requires)))
    ∙ ap (λ k. number_of_bits (bits_kept k r.words r.bit r.width)) (sym c.in-Settles.is)
    ∙ ap (λ (x : CursorState). number_of_bits x.bits) c.self.view_is
