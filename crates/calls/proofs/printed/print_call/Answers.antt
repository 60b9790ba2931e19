use Rattle.std.proofs.Common.{◌++◌, flat_map, ap, ◌∙◌}
use Rattle.calls.specs.{answer_field, call_head, number_field}
use Rattle.calls.proofs.Loops.{line_is}
use Rattle.calls.proofs.printed.print_call.Goals as goal

pub returns : goal.returns
returns c =
    line_is c.args.line.now.items _ _ _ _ (call_head c.args.called.now) _ (answer_field c.args.called.now.marks.answer) c.in_ok-push_head.ensures
    (c.in_ok-push_numbers.ensures ∙ ap (λ numbers. c.push_head.new.line.items ++ flat_map number_field numbers) c.numbers.ensures) c.in_ok-push_answer.ensures c.in_ok-push.ensures.items
