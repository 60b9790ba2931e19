use Rattle.std.proofs.Common.{sym, ap, ◌∙◌}
use Rattle.std.proofs.lemmas.List.{take_all}
use Rattle.sweeper.specs.{are_commands}
use Rattle.sweeper.proofs.Soundness.{commands_more}
use Rattle.sweeper.proofs.known_outcomes.commands_are_sound.Goals as goal

pub loop-command-preserved : goal.loop-command-preserved
loop-command-preserved c = commands_more c.args.calls.now c.loop-command.command-index c.loop-command-item.result c.loop-command-test.true c.loop-command-item.is c.loop-command.invariant c.operands_are_sound.ensures

pub returns : goal.returns
returns c = sym (ap are_commands (take_all c.loop-command.command-index c.args.calls.now c.loop-command-test.false)) ∙ c.loop-command.invariant
