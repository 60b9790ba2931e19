use Rattle.std.proofs.Common.{[], sym, subst}
use Rattle.world.specs.{with_history}
use Rattle.world.specs.Shows.{Shows}
use Rattle.world.proofs.WorldKeeps.{new_keeps}
use Rattle.world.proofs.world.World.new.Goals as goal

pub returns-clause-shows : goal.returns-clause-shows
returns-clause-shows c = subst (λ h. Shows (with_history c.in_ok-new.field-0 h) []) (sym c.new-2.ensures.items) c.in_ok-new.ensures.shows

pub invariant_of-result : goal.invariant_of-result
invariant_of-result c = new_keeps c.in_ok-new.field-0 c.new-2.result.items _ c.new-2.ensures.items c.in_ok-new.ensures.shows
