use Rattle.std.proofs.Common.{◌++◌, List, ℕ, ap, ◌∙◌}
use Rattle.scenario.specs.{script}
use Rattle.engines.specs.Plain.{printed}
use Rattle.engines.proofs.plain.text_of.Goals as goal

pub push_lines-requires : goal.push_lines-requires
push_lines-requires c = c.in_ok-run.ensures

pub returns : goal.returns
returns c = c.in_ok-push_lines.ensures ∙ ap (λ (bytes : List ℕ). bytes ++ printed (script c.args.scenario.now)) c.new-text.ensures.bytes
