use Rattle.std.proofs.Common.{arith}
use Rattle.picture.proofs.Texts.{listed_more}
use Rattle.picture.proofs.words.listed.Goals as goal

pub loop-place-preserved : goal.loop-place-preserved
loop-place-preserved c = listed_more c.args.between.now c.args.numbers.now c.loop-place.place _ _ _ (omega arith) c.loop-place.invariant c.in_ok-push_number.ensures
