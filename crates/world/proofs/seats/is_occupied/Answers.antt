use Rattle.std.proofs.Common.{rules, tests}
use Rattle.std.proofs.lemmas.Iterator.{YieldsList-from_slice}
use Rattle.std.proofs.lemmas.Iterator.Search.{any_from_yields_List}
use Rattle.laws.specs.{is_inside}
use Rattle.world.specs.{Seat}
use Rattle.world.proofs.seats.is_occupied.Goals as goal

pub returns : goal.returns
returns c = any_from_yields_List (λ (seat : Seat). is_inside seat.process.doing) _ _ _ c.any.ensures.ran (YieldsList-from_slice c.args.seats.now cc) (λ x b q k. search (rules, tests))
