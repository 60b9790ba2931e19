use Rattle.std.proofs.Common.{◌∙◌, ap, sym, fold, Bor}
use Rattle.std.proofs.lemmas.Result.{IfOk-weaker}
use Rattle.std.proofs.lemmas.List.Folds.{fold-map}
use Rattle.clap.specs.Words.{App, Text}
use Rattle.command_line.specs.{plain_app, with_option}
use Rattle.command_line.proofs.program.file_command.Goals as goal

pub returns-clause-shape : goal.returns-clause-shape
returns-clause-shape c =
    let options = c.args.entry.options.now in
    IfOk-weaker c.with_options.result _ _ (λ m h. h
    ∙ (ap (λ (a : App). fold (λ b (o : Bor Text). with_option b o.now) a options) c.in_ok-plain_command.ensures.shape
    ∙ sym (fold-map with_option (λ (o : Bor Text). o.now) (plain_app c.args.entry.name.now) options))) c.with_options.ensures.shape
