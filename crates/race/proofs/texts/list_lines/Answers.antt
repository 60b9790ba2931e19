use Rattle.std.proofs.Common.{◌++◌, ap, sym, ◌∙◌}
use Rattle.std.specs.String.{string_bytes}
use Rattle.race.specs.{call_text}
use Rattle.race.proofs.Parts.{items_all, items_more, pushed}
use Rattle.race.proofs.texts.list_lines.Goals as goal

pub loop-call-preserved : goal.loop-call-preserved
loop-call-preserved c =
    let text = call_text c.args.process in
    let call = c.call-item.result in
    pushed c.call_line.result (string_bytes c.loop-call.text) (string_bytes c.push_text.new.text) (text call) c.in_ok-push_text.ensures c.call_line.ensures
    ∙ ap (λ reported. reported ++ text call) c.loop-call.invariant ∙ sym (items_more text c.args.calls.now c.loop-call.call-index call c.loop-call-test.true c.call-item.is)

pub returns : goal.returns
returns c = c.loop-call.invariant ∙ items_all (call_text c.args.process) c.args.calls.now c.loop-call.call-index c.loop-call-test.false
