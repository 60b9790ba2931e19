use Rattle.std.proofs.Common.{◌-◌, ◌^◌, reverse, take}
use Rattle.sweeper.specs.{CanSweep, SweptBy}
use Rattle.sweeper.proofs.sweeping.sweep.Given as goal

-- the events before the present one are swept
abbrev pub invariant-loop-event : goal.invariant-loop-event
invariant-loop-event l = record {
  swept : SweptBy l.setup l.calls (reverse (take l.event-index l.events)) l.sweeper;
  room : CanSweep l.calls (2 ^ 56 - l.event-index) l.sweeper;
}
