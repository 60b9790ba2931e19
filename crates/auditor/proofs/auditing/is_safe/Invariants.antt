use Rattle.std.proofs.Common.{◌≡◌, reverse, take}
use Rattle.safe_monitor.specs.{HasObserved}
use Rattle.auditor.proofs.auditing.is_safe.Given as goal

-- the entries before the present one were observed
abbrev pub invariant-loop-earlier : goal.invariant-loop-earlier
invariant-loop-earlier l = record {
  setup : l.monitor.setup ≡ l.setup;
  observed : HasObserved l.monitor (reverse (take l.earlier-index l.before));
}
