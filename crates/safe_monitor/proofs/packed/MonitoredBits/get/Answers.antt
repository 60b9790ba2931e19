use Rattle.std.proofs.Common.{◌<◌, ◌∙◌, [], false, sym, ap, get_or, length, arith}
use Rattle.safe_monitor.specs.{monitored_from, monitored_after}
use Rattle.safe_monitor.proofs.Packs.{get-monitored_bits, length-monitored_bits, monitored_read}
use Rattle.safe_monitor.proofs.packed.MonitoredBits.get.Goals as goal

pub index-requires : goal.index-requires
index-requires c = omega (arith, length-monitored_bits c.self.inside.bytes.items c.self.inside.len, ap length c.self.view_is)

pub returns : goal.returns
returns c =
    let inside : c.args.k < c.self.inside.len = omega (arith, length-monitored_bits c.self.inside.bytes.items c.self.inside.len, ap length c.self.view_is) in
    c.from_code.ensures ∙ ap monitored_from c.four_bits.ensures
    ∙ monitored_read c.self.inside.bytes.items c.args.k c.index.result.now (omega (arith, length-monitored_bits c.self.inside.bytes.items c.self.inside.len, ap length c.self.view_is)) c.index.ensures
    ∙ sym (get-monitored_bits c.self.inside.bytes.items c.self.inside.len c.args.k (monitored_after false []) inside)
    ∙ ap (λ monitored_bits. get_or monitored_bits c.args.k (monitored_after false [])) c.self.view_is
