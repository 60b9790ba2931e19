use Rattle.std.proofs.Common.{◌∙◌, ap, fold, sym, List}
use Rattle.std.proofs.lemmas.Result.{IfOk-weaker}
use Rattle.std.proofs.lemmas.List.Folds.{fold-map}
use Rattle.clap.specs.Words.{App, with_subcommand}
use Rattle.command_line.specs.{Listed, bare_app, help_app, listed, with_command, with_row}
use Rattle.command_line.proofs.program.program.Goals as goal

pub returns : goal.returns
returns c =
    let rows = c.command_rows.result.now in
    record {
      shape = IfOk-weaker c.with_help.result _ _ (λ m h. h ∙ ap (λ (a : App). with_subcommand a help_app.top)
          (c.in_ok-with_commands.ensures.shape
          ∙ (ap (λ (a : App). fold with_row a rows) c.in_ok-bare_program.ensures.shape
          ∙ (sym (fold-map with_command listed bare_app rows)
          ∙ ap (λ (l : List Listed). fold with_command bare_app l) c.command_rows.ensures)))) c.with_help.ensures.shape;
    }
