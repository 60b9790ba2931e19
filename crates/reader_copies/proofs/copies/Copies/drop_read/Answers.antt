use Rattle.std.proofs.Common.{refl}
use Rattle.safe_bit.specs.{without_read}
use Rattle.reader_copies.proofs.Cells.{cells-moved}
use Rattle.reader_copies.proofs.Flags.{kept}
use Rattle.reader_copies.proofs.copies.Copies.drop_read.Goals as goal

pub returns : goal.returns
returns c =
    cells-moved _ _ c.args.k c.self.view_is c.self.invariant c.index_mut-flags.ensures.value c.requires without_read _ _ _ _ _ _ _ _ (kept _ _) (kept _ _) c.with_flag-flags.ensures (kept _ _) refl
