use Rattle.std.proofs.Common.{◌≡◌, Bool, true, false, ℕ, ◌+◌, ◌%◌, cond, arith, ap, sym, ◌∙◌, refl}
use Rattle.safe_bit.specs.Cell.{Cell}
use Rattle.reader_copies.specs.{after_read, flag_in}
use Rattle.reader_copies.proofs.Cells.{cells-masked, cells-read}
use Rattle.reader_copies.proofs.Flags.{cell, flag-zero, same_cell}
use Rattle.reader_copies.proofs.Masks.{none_both}
use Rattle.reader_copies.proofs.copies.Copies.read_word.Goals as goal

pub returns-clause-quiet : goal.returns-clause-quiet
returns-clause-quiet c = λ j below.
    let i : ℕ = c.args.k + j in
    let bit : ℕ = i % 64 in
    let flags = c.index_mut-flags.result.now in
    ap (λ (x : Cell). x.writing) (sym (cells-read _ _ c.args.k i c.self.view_is c.self.invariant c.index_mut-flags.ensures.value (omega (arith, c.requires.in_range)) (omega (arith, c.requires.word))))
    ∙ none_both flags.writing c.mask-mask.result bit c.if-flags-mask-ne0.false (c.mask-mask.ensures.inside bit (omega (arith, c.requires.word)) (omega (arith, c.requires.word)))

pub returns-clause-word : goal.returns-clause-word
returns-clause-word c = λ j below.
    ap (λ (x : Cell). x.value) (cells-read _ _ c.args.k (c.args.k + j) c.self.view_is c.self.invariant c.index_mut-flags.ensures.value (omega (arith, c.requires.in_range)) (omega (arith, c.requires.word)))

read_chosen : (m v w r t : Bool) → cell v w (cond m false r) (cond m w t) ≡ cond m (after_read (cell v w r t)) (cell v w r t)
read_chosen true v w r t = refl
read_chosen false v w r t = refl

pub returns-clause-read : goal.returns-clause-read
returns-clause-read c =
    let flags = c.index_mut-flags.result.now in
    let mask = c.mask-mask.result in
    cells-masked _ _ c.args.k c.args.n _ c.self.view_is c.self.invariant c.index_mut-flags.ensures.value c.requires.word c.requires.in_range c.requires.nonzero c.mask-mask.ensures (λ i. after_read)
    (λ i below. same_cell refl refl (c.choose-flags-2.ensures i ∙ ap (λ b. cond (flag_in mask i) b (flag_in flags.reading i)) (flag-zero i)) (c.choose-flags.ensures i)
    ∙ read_chosen (flag_in mask i) (flag_in flags.value i) (flag_in flags.writing i) (flag_in flags.reading i) (flag_in flags.touched i))
