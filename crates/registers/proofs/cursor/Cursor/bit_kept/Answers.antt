use Rattle.std.proofs.Common.{◌≡◌, ◌<◌, ◌/◌, ◌%◌, false, List, Bool, ℕ, get_or, length, ap, sym, arith, ◌∙◌}
use Rattle.reader_copies.specs.{bits_of_words, flag_in}
use Rattle.reader_copies.proofs.Words.{bit-found}
use Rattle.registers.specs.{CursorState}
use Rattle.registers.proofs.Words.{bits-known}
use Rattle.registers.proofs.cursor.Cursor.bit_kept.Goals as goal

pub returns : goal.returns
returns c =
    let r = c.self.inside in
    let bit : ℕ = c.args.bit in
    let bits : List Bool = c.args.self.now.bits in
    let inside : bit < length bits = omega (arith, c.if-known_bits-bit.false, c.known_bits.ensures.bits) in
    let known : bits_of_words r.words (length bits) ≡ bits = bits-known r.run r.words r.bit r.width bits (ap (λ (x : CursorState). x.bits) c.self.view_is) in
    c.has_flag.ensures ∙ ap (λ w. flag_in w (c.from-place.result % 64)) c.word_at.ensures
    ∙ ap (λ k. flag_in (get_or r.words (k / 64) 0) (k % 64)) c.from-place.ensures
    ∙ sym (bit-found r.words (length bits) bit inside) ∙ ap (λ l. get_or l bit false) known
