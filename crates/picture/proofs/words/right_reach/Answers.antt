use Rattle.std.proofs.Common.{arith}
use Rattle.picture.proofs.Texts.{reach_some}
use Rattle.picture.proofs.words.right_reach.Goals as goal

pub loop-line-init : goal.loop-line-init
loop-line-init c = let some = reach_some c.args.column.now.lines.items in (omega (arith, some), omega arith)
