use Rattle.std.proofs.Common.{◌≡◌, ◌<◌, ◌%◌, false, cond, get_or, arith, sym, ◌∙◌, ap}
use Rattle.safe_bit.specs.declared.moves.Move.TheVariants.{BeginWrite, EndWrite}
use Rattle.registers.specs.{CursorState, bits_kept, write_move}
use Rattle.reader_copies.specs.{flag_in}
use Rattle.registers.specs.declared.cursor.RegisterAccessKind.TheVariants.{Writes}
use Rattle.reader_copies.proofs.Words.{bit-found}
use Rattle.registers.proofs.cursor.Cursor.write_move.Goals as goal

pub returns-else-self : goal.returns-else-self
returns-else-self c =
    let w = c.self.inside in
    let bit_is : w.bit ≡ c.args.self.now.bit = ap (λ (x : CursorState). x.bit) c.self.view_is in
    let width_is : w.width ≡ c.args.self.now.width = ap (λ (x : CursorState). x.width) c.self.view_is in
    let writes : w.run ≡ Writes = ap (λ (x : CursorState). x.run) c.self.view_is ∙ c.requires.writes in
    let going : w.bit < w.width = omega (arith, c.requires.going) in
    let found : c.has_flag.result ≡ get_or (bits_kept w.run w.words w.bit w.width) w.bit false =
    c.has_flag.ensures ∙ ap (λ x. flag_in x (w.bit % 64)) c.word_at.ensures ∙ sym (bit-found w.words w.width w.bit going) ∙ ap (λ k. get_or (bits_kept k w.words w.bit w.width) w.bit false) (sym writes) in
    ap BeginWrite found ∙ sym (ap (λ b. cond b EndWrite (BeginWrite (get_or (bits_kept w.run w.words w.bit w.width) w.bit false))) c.if-self.false) ∙ ap write_move c.self.view_is
