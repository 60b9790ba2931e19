use Rattle.std.proofs.Common.{ap, ◌∙◌, ◌≡◌, codes, rules}
use Rattle.std.proofs.lemmas.Result.{IfOk-weaker}
use Rattle.clap.specs.Words.{App, Rule, new_app, rule_of, with_rule}
use Rattle.command_line.specs.{file_rule, with_flag}
use Rattle.command_line.proofs.program.plain_command.Goals as goal

pub returns : goal.returns
returns c =
    let rule : rule_of c.required-file.result ≡ file_rule = search rules in
    record {
      shape = IfOk-weaker c.with_options.result _ _ (λ m h. h ∙ ap (λ (a : App). with_flag (with_flag a (codes "quiet")) (codes "explain")) (c.in_ok-taking.ensures.shape ∙ ap (λ (r : Rule). with_rule (new_app c.args.name.now) r) rule)) c.with_options.ensures.shape;
      local = c.with_options.ensures.local;
    }
