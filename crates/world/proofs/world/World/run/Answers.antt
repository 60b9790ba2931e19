use Rattle.std.proofs.Common.{◌≡◌, ◌+◌, ◌≤◌, sym, subst}
use Rattle.world.specs.{KeepOthers, WorldState, remaining_in, with_history}
use Rattle.world.specs.Walks.{Walks}
use Rattle.world.proofs.WorldKeeps.{walk_keeps}
use Rattle.world.proofs.world.World.run.Goals as goal

pub run-requires-clause-within : goal.run-requires-clause-within
run-requires-clause-within c = subst (λ (w : WorldState). c.args.steps ≤ remaining_in w.seats c.args.process) (sym c.self.view_is) c.requires.within

pub invariant_of-self : goal.invariant_of-self
invariant_of-self c = walk_keeps c.args.steps c.run.result.newest c.run.result.overlapped c.self.inside.core c.run.new.self c.self.inside.history.items c.args.flicks.now c.run.new.flicks c.args.process _ c.self.invariant c.run.ensures.runs

pub returns-clause-runs : goal.returns-clause-runs
returns-clause-runs c = subst (λ (w : WorldState). Walks w c.args.flicks.now c.args.process c.args.steps c.run.result.newest c.run.result.overlapped (with_history c.run.new.self c.self.inside.history.items) c.run.new.flicks) c.self.view_is (c.run.ensures.runs.walks c.self.inside.history.items)

pub returns-clause-fewer : goal.returns-clause-fewer
returns-clause-fewer c = subst (λ (w : WorldState). remaining_in w.seats c.args.process ≡ remaining_in c.run.new.self.seats c.args.process + c.args.steps) c.self.view_is c.run.ensures.fewer

pub returns-clause-others : goal.returns-clause-others
returns-clause-others c = subst (λ (w : WorldState). KeepOthers w.seats c.args.process c.run.new.self.seats) c.self.view_is c.run.ensures.others
