use Rattle.std.proofs.Common.{◌∙◌, length, sym, ap}
use Rattle.safe_monitor.proofs.Packs.{length-monitored_bits}
use Rattle.safe_monitor.proofs.packed.MonitoredBits.len.Goals as goal

pub returns : goal.returns
returns c = sym (length-monitored_bits c.self.inside.bytes.items c.self.inside.len) ∙ ap length c.self.view_is
