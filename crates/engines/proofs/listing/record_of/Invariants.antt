use Rattle.std.proofs.Common.{◌≡◌, reverse, take}
use Rattle.scenario_run.specs.model.{past_of}
use Rattle.scenario_run.specs.world.Shows.{Shows}
use Rattle.engines.proofs.listing.record_of.Given as goal

-- the world shows the events before the present one, and the entries are their record
abbrev pub invariant-loop-event : goal.invariant-loop-event
invariant-loop-event l = record {
  shows : Shows l.world (reverse (take l.event-index l.events));
  setup : l.world.setup ≡ l.setup;
  entries : l.entries.items ≡ reverse (past_of l.setup (reverse (take l.event-index l.events)));
}
