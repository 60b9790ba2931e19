use Rattle.std.proofs.Common.{◌≡◌, Bool, true, false, cond, ap, ◌∙◌, refl}
use Rattle.reader_copies.specs.{after_write, flag_in}
use Rattle.reader_copies.proofs.Cells.{cells-masked}
use Rattle.reader_copies.proofs.Flags.{cell, flag-zero, same_cell}
use Rattle.reader_copies.proofs.Masks.{flag-ones}
use Rattle.reader_copies.proofs.copies.Copies.write_word.Goals as goal

chosen : (m word v w r t : Bool) → cell (cond m word v) (cond m false w) r (cond m true t) ≡ cond m (after_write word (cell v w r t)) (cell v w r t)
chosen true word v w r t = refl
chosen false word v w r t = refl

pub returns : goal.returns
returns c =
    let flags = c.index_mut-flags.result.now in
    let mask = c.mask-mask.result in
    cells-masked _ _ c.args.k c.args.n _ c.self.view_is c.self.invariant c.index_mut-flags.ensures.value c.requires.word c.requires.in_range c.requires.nonzero c.mask-mask.ensures (λ i. after_write (flag_in c.args.word i))
    (λ i below.
    same_cell (c.choose-flags.ensures i)
    (c.choose-flags-2.ensures i ∙ ap (λ b. cond (flag_in mask i) b (flag_in flags.writing i)) (flag-zero i))
    refl
    (c.choose-flags-3.ensures i ∙ ap (λ b. cond (flag_in mask i) b (flag_in flags.touched i)) (flag-ones i below))
    ∙ chosen (flag_in mask i) (flag_in c.args.word i) (flag_in flags.value i) (flag_in flags.writing i) (flag_in flags.reading i) (flag_in flags.touched i))
