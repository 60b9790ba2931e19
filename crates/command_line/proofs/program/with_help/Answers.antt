use Rattle.command_line.specs.{help_app}
use Rattle.command_line.proofs.Added.{added}
use Rattle.command_line.proofs.program.with_help.Goals as goal

pub returns : goal.returns
returns c = record { shape = added c.args.program c.help.result c.with_command.result help_app c.help.ensures.shape c.help.ensures.local c.with_command.ensures }
