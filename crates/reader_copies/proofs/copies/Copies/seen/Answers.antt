use Rattle.std.proofs.Common.{◌∙◌, ap, refl}
use Rattle.reader_copies.specs.{copy_state}
use Rattle.reader_copies.proofs.Cells.{cells-read}
use Rattle.reader_copies.proofs.copies.Copies.seen.Goals as goal

pub returns : goal.returns
returns c =
    (λ i. record { value = c.has_flag.ensures i; writing = c.has_flag-2.ensures i; touched = c.has_flag-3.ensures i })
    ∙ ap copy_state (cells-read _ _ c.args.k c.args.k c.self.view_is c.self.invariant c.index-flags.ensures c.requires refl)
