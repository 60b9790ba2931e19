use Rattle.std.proofs.Common.{arith, rules}
use Rattle.store_image.proofs.GoodRanges.{few-callers, few-slots, some-slots}
use Rattle.process.proofs.opening.opening_image.Goals as goal

pub empty-requires : goal.empty-requires
empty-requires c =
    let s = c.args.setup.now in
    record { some_slots = some-slots s c.requires; few_slots = few-slots s c.requires; few_callers = omega (arith, c.callers.ensures, few-callers s c.requires) }

pub returns : goal.returns
returns c = search rules
