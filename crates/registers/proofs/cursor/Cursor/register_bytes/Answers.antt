use Rattle.std.proofs.Common.{◌≡◌, List, Bool, length, ap, ◌∙◌}
use Rattle.reader_copies.specs.{bits_of_words}
use Rattle.registers.specs.{CursorState, register_bytes}
use Rattle.registers.proofs.Words.{bits-known}
use Rattle.registers.proofs.cursor.Cursor.register_bytes.Goals as goal

pub returns : goal.returns
returns c =
    let r = c.self.inside in
    let bits : List Bool = c.args.self.now.bits in
    let known : bits_of_words r.words (length bits) ≡ bits = bits-known r.run r.words r.bit r.width bits (ap (λ (x : CursorState). x.bits) c.self.view_is) in
    c.register_bytes.ensures ∙ ap (λ n. register_bytes (bits_of_words r.words n)) (c.from.ensures ∙ c.known_bits.ensures.bits) ∙ ap register_bytes known
