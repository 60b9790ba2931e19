use Rattle.std.proofs.Common.{◌∙◌, ap, set, length, arith}
use Rattle.safe_monitor.specs.{monitored_from}
use Rattle.safe_monitor.proofs.Packs.{length-monitored_bits, monitored_bits-set}
use Rattle.safe_monitor.proofs.packed.MonitoredBits.set.Goals as goal

pub index-requires : goal.index-requires
index-requires c = omega (arith, length-monitored_bits c.self.inside.bytes.items c.self.inside.len, ap length c.self.view_is)

pub index_mut-requires : goal.index_mut-requires
index_mut-requires c = omega (arith, length-monitored_bits c.self.inside.bytes.items c.self.inside.len, ap length c.self.view_is)

pub returns : goal.returns
returns c =
    monitored_bits-set c.self.inside.bytes.items c.self.inside.len c.args.k c.index.result.now c.with_four_bits.result c.args.monitored_bit
    (omega (arith, length-monitored_bits c.self.inside.bytes.items c.self.inside.len, ap length c.self.view_is))
    (omega arith) c.index.ensures (ap monitored_from c.with_four_bits.ensures.same ∙ c.code.ensures.same) c.with_four_bits.ensures.other
    ∙ ap (λ monitored_bits. set monitored_bits c.args.k c.args.monitored_bit) c.self.view_is
