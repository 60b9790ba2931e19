use Rattle.std.proofs.Common.{ap, ◌∙◌, ◌||◌, codes}
use Rattle.std.proofs.lemmas.Result.{IfOk-weaker}
use Rattle.clap.specs.Words.{App, Rule, app_of, with_rule}
use Rattle.clap.specs.declared.builder.command.Command.TheViews.{out-Command}
use Rattle.command_line.specs.{with_flag}
use Rattle.command_line.proofs.Added.{settled}
use Rattle.command_line.proofs.program.bare_program.Goals as goal

pub returns : goal.returns
returns c =
    let set = settled (codes "bakerystore") (out-Command c.new.result) (out-Command c.in_ok-bin_name.field-0) (out-Command c.disable_help_subcommand.result) (out-Command c.version.result) (out-Command c.override_help.result) _ _ c.new.ensures.app c.in_ok-bin_name.ensures.0 c.disable_help_subcommand.ensures c.version.ensures c.override_help.ensures in
    record {
      shape = IfOk-weaker c.arg.result _ _ (λ m adds. adds.shape c.flag.ensures.local ∙ (ap (λ (r : Rule). with_rule (app_of c.override_help.result) r) c.flag.ensures.rule ∙ ap (λ (a : App). with_flag a (codes "quiet")) set.0)) c.arg.ensures;
      local = IfOk-weaker c.arg.result _ _ (λ m adds. adds.globals ∙ (ap (λ b. b || c.flag.result.global) (set.1 ∙ c.new.ensures.local) ∙ c.flag.ensures.local)) c.arg.ensures;
    }
