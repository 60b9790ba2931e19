use Rattle.std.proofs.Common.{length, ap, sym, ◌∙◌}
use Rattle.registers.specs.{CursorState, bits_kept}
use Rattle.reader_copies.proofs.Words.{length-bits}
use Rattle.registers.proofs.cursor.Cursor.known_bits.Goals as goal

pub returns-in-Reads-clause-bits : goal.returns-in-Reads-clause-bits
returns-in-Reads-clause-bits c =
    let r = c.self.inside in
    sym (length-bits r.words r.bit) ∙ ap (λ k. length (bits_kept k r.words r.bit r.width)) (sym c.in-Reads.is) ∙ ap (λ (x : CursorState). length x.bits) c.self.view_is

pub returns-in-Writes-clause-bits : goal.returns-in-Writes-clause-bits
returns-in-Writes-clause-bits c =
    let r = c.self.inside in
    sym (length-bits r.words r.width) ∙ ap (λ k. length (bits_kept k r.words r.bit r.width)) (sym c.in-Writes.is) ∙ ap (λ (x : CursorState). length x.bits) c.self.view_is

pub returns-in-Settles-clause-bits : goal.returns-in-Settles-clause-bits
returns-in-Settles-clause-bits c =
    let r = c.self.inside in
    sym (length-bits r.words r.width) ∙ ap (λ k. length (bits_kept k r.words r.bit r.width)) (sym c.in-Settles.is) ∙ ap (λ (x : CursorState). length x.bits) c.self.view_is
