use Rattle.std.proofs.Common.{◌<◌, List, [], ◌∙◌, length, length-set, ap, arith}
use Rattle.safe_monitor.specs.{MonitoredBit, monitored_after}
use Rattle.safe_monitor.proofs.Opened.{copies_more}
use Rattle.safe_monitor.proofs.monitor.open_copies.Goals as goal

pub loop-k-preserved : goal.loop-k-preserved
loop-k-preserved c =
    let l = c.loop-k in
    let inside : l.k < length l.monitored_bits = omega (arith, c.loop-k-test.true, c.len-k-end.ensures, l.invariant.0) in (
      ap (λ (x : List MonitoredBit). length x) c.set.ensures ∙ length-set l.monitored_bits l.k c.opening.result ∙ l.invariant.0,
      copies_more c.args.bytes.now c.args.width l.k l.monitored_bits c.set.new.self c.opening.result c.set.ensures (c.opening.ensures ∙ ap (λ b. monitored_after b []) c.bit_of.ensures) inside l.invariant.1,
    )
