use Rattle.safe_monitor.proofs.Opened.{AreOpened}
use Rattle.safe_monitor.proofs.monitor.SafeMonitor.new.Given as goal

-- the registers so far have the looks of their initial values
abbrev pub invariant-loop-number : goal.invariant-loop-number
invariant-loop-number l = AreOpened l.setup l.registers.items l.number
