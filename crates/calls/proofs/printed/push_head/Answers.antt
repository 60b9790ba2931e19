use Rattle.std.proofs.Common.{ap}
use Rattle.std.specs.Fmt.{decimal}
use Rattle.plain_store.specs.{command_text}
use Rattle.calls.specs.{field}
use Rattle.calls.proofs.Loops.{head_is}
use Rattle.calls.proofs.printed.push_head.Goals as goal

pub returns : goal.returns
returns c = head_is c.push_shown.result c.args.line.now.items _ _ _ (decimal c.args.called.now.process) (decimal c.args.called.now.call) _ (field (command_text c.args.called.now.command)) c.in_ok-push_text.ensures c.in_ok-head.ensures c.push_shown.ensures (ap field c.in_ok-command_shown.ensures)
