use Rattle.std.proofs.Common.{arith, sym}
use Rattle.std.proofs.lemmas.List.{length-take-le}
use Rattle.picture_layout.proofs.rows.cut.Goals as goal

pub slice_bounds-extend_from_slice-length : goal.slice_bounds-extend_from_slice-length
slice_bounds-extend_from_slice-length c = sym (length-take-le 43 c.args.words.now (omega (arith, c.if-words-le-LONGEST.false)))
