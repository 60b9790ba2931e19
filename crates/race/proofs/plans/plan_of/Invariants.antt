use Rattle.std.proofs.Common.{◌≡◌, take}
use Rattle.race.specs.{plan_in}
use Rattle.race.proofs.plans.plan_of.Given as goal

-- the commands of the lines before the present one
abbrev pub invariant-loop-line : goal.invariant-loop-line
invariant-loop-line l = l.plan.items ≡ plan_in (take l.line-index l.lines) l.process
