use Rattle.std.proofs.Common.{◌≡◌, map}
use Rattle.std.specs.List.{range_with_len}
use Rattle.race.specs.{plan_in, plans_of}
use Rattle.race.proofs.plans.plans_of.Given as goal

-- the plans of the processes before the present one
abbrev pub invariant-loop-process : goal.invariant-loop-process
invariant-loop-process l = plans_of l.plans.items ≡ map (plan_in l.scenario.lines.items) (range_with_len 0 l.process)
