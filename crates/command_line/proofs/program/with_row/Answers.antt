use Rattle.std.proofs.Common.{◌≡◌, IfOk, subst}
use Rattle.clap.specs.Words.{app_of, with_subcommand}
use Rattle.command_line.specs.{Listed, command_app, says}
use Rattle.command_line.proofs.Added.{added}
use Rattle.command_line.proofs.program.with_row.Goals as goal

pub returns : goal.returns
returns c = record {
  shape = subst (λ (l : Listed). IfOk c.with_command.result (λ p. app_of p ≡ with_subcommand (app_of c.args.program) (command_app l).top)) c.of.ensures
      (added c.args.program c.file_command.result c.with_command.result (command_app (says c.of.result)) c.file_command.ensures.shape c.file_command.ensures.local c.with_command.ensures);
}
