use Rattle.std.proofs.Common.{◌*◌, ◌∙◌, List, [], false, ap, length, replicate}
use Rattle.std.proofs.lemmas.List.{length-replicate}
use Rattle.safe_monitor.specs.{MonitoredBit, monitored_after}
use Rattle.safe_monitor.proofs.Opened.{opened_bits, opened_image, opened_low}
use Rattle.safe_monitor.proofs.monitor.opening_monitored.Goals as goal

pub returns-then-number-ne-IMAGE0 : goal.returns-then-number-ne-IMAGE0
returns-then-number-ne-IMAGE0 c = record {
  bits = λ g same.
      opened_bits c.args.setup.now c.args.number c.field_numbered-field.result g c.in_ok-monitored_bits.monitored_bits c.from-width.result
      (ap (λ (l : List MonitoredBit). length l) (c.in_ok-monitored_bits.ensures ∙ ap (λ n. replicate (n * c.from-width.result) (monitored_after false [])) c.from.ensures) ∙ length-replicate (c.args.setup.now.processes * c.from-width.result) (monitored_after false []))
      (c.from-width.ensures ∙ c.width_of.ensures.width) c.field_numbered-field.ensures.number same;
  monitored_bits = λ a register there.
      opened_low c.args.setup.now c.args.number c.field_numbered-field.result c.in_ok-monitored_bits.monitored_bits c.from-width.result a
      (c.in_ok-monitored_bits.ensures ∙ ap (λ n. replicate (n * c.from-width.result) (monitored_after false [])) c.from.ensures) (c.from-width.ensures ∙ c.width_of.ensures.width) c.field_numbered-field.ensures.number c.if-number-ne-IMAGE0.true register there;
}

pub returns : goal.returns
returns c = record {
  bits = λ g same.
      opened_bits c.args.setup.now c.args.number c.field_numbered-field.result g c.open_copies.new.monitored_bits c.from-width.result
      (c.open_copies.ensures.length ∙ ap (λ (l : List MonitoredBit). length l) (c.in_ok-monitored_bits.ensures ∙ ap (λ n. replicate (n * c.from-width.result) (monitored_after false [])) c.from.ensures) ∙ length-replicate (c.args.setup.now.processes * c.from-width.result) (monitored_after false []))
      (c.from-width.ensures ∙ c.width_of.ensures.width) c.field_numbered-field.ensures.number same;
  monitored_bits = λ a register there.
      opened_image c.args.setup.now c.args.number c.field_numbered-field.result c.args.image.now c.in_ok-monitored_bits.monitored_bits c.open_copies.new.monitored_bits c.from-width.result a
      c.requires.image c.open_copies.ensures.each
      (ap (λ (l : List MonitoredBit). length l) (c.in_ok-monitored_bits.ensures ∙ ap (λ n. replicate (n * c.from-width.result) (monitored_after false [])) c.from.ensures) ∙ length-replicate (c.args.setup.now.processes * c.from-width.result) (monitored_after false []))
      (c.from-width.ensures ∙ c.width_of.ensures.width) c.field_numbered-field.ensures.number c.if-number-ne-IMAGE0.false register there;
}
