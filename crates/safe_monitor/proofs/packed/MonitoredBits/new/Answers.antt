use Rattle.std.proofs.Common.{arith}
use Rattle.safe_monitor.proofs.Packs.{monitored_bits-zeros}
use Rattle.safe_monitor.proofs.packed.MonitoredBits.new.Goals as goal

pub returns : goal.returns
returns c = monitored_bits-zeros _ c.div_ceil.result c.args.len (c.in_ok-bytes.ensures.items_if_clones_equal (λ y e. e)) (omega (arith, c.div_ceil.ensures))
