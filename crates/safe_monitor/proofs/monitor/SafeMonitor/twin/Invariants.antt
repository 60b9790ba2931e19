use Rattle.std.proofs.Common.{◌≡◌, take}
use Rattle.safe_monitor.proofs.monitor.SafeMonitor.twin.Given as goal

-- the registers so far are copied
abbrev pub invariant-loop-monitored_bits : goal.invariant-loop-monitored_bits
invariant-loop-monitored_bits l = l.registers.items ≡ take l.monitored_bits-index l.self.registers
