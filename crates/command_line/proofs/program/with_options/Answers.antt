use Rattle.std.proofs.Common.{ap, ◌∙◌, ◌||◌, Bor}
use Rattle.clap.specs.Words.{Text, app_of, with_rule}
use Rattle.command_line.specs.{with_option}
use Rattle.command_line.proofs.Added.{fold_on}
use Rattle.command_line.proofs.program.with_options.Goals as goal

pub loop-name-preserved : goal.loop-name-preserved
loop-name-preserved c =
    let old = c.loop-name.command in
    let adds = c.in_ok-command.ensures in (
      fold_on (λ a (o : Bor Text). with_option a o.now) (app_of c.args.command) c.args.names.now c.loop-name.name-index _ (app_of old) (app_of c.in_ok-command.command) c.loop-name-test.true c.loop-name.invariant.0
          (adds.shape c.option.ensures.local ∙ ap (with_rule (app_of old)) c.option.ensures.rule),
      adds.globals ∙ ap (λ b. b || c.option.result.global) c.loop-name.invariant.1 ∙ c.option.ensures.local,
    )
