use Rattle.std.proofs.Common.{ap}
use Rattle.safe_bit.specs.Cell.{Cell}
use Rattle.reader_copies.proofs.Cells.{cells-read}
use Rattle.reader_copies.proofs.copies.Copies.word.Goals as goal

pub returns : goal.returns
returns c = λ i same inside.
    ap (λ (x : Cell). x.value) (cells-read _ _ c.args.k i c.self.view_is c.self.invariant c.index.ensures inside same)
