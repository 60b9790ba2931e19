use Rattle.std.proofs.Common.{◌≡◌, ap, ◌∙◌, arith}
use Rattle.std.proofs.lemmas.Grind.{common_steps}
use Rattle.std.proofs.lemmas.Bool.{and_parts}
use Rattle.std.specs.List.{list_all}
use Rattle.plain_store.specs.{is_pair, names_differ}
use Rattle.scenario.specs.{scenario_of, scenario_text, script}
use Rattle.scenario.proofs.Printout.{script_again}
use Rattle.scenario.proofs.printing.print_scenario.Goals as goal

pub returns-clause-read_again : goal.returns-clause-read_again
returns-clause-read_again c =
    let text : c.into_bytes.result.items ≡ scenario_text (script c.args.scenario.now) = grind (arith, common_steps) in
    let pairs = and_parts (list_all is_pair c.args.scenario.now.setup.opening) (names_differ c.args.scenario.now.setup.opening) c.pairs_are_sound.ensures in
    ap scenario_of text ∙ script_again (script c.args.scenario.now) (record {
      good = c.args.scenario.now.good;
      pairs = pairs.0;
      differ = pairs.1;
      few = c.args.scenario.now.few;
      lines = rw c.as_slice.ensures.value at c.in_ok-print_lines.ensures.sound;
      allowed = c.args.scenario.now.allowed;
    })

pub returns-clause-one_text : goal.returns-clause-one_text
returns-clause-one_text c =
    let text : c.into_bytes.result.items ≡ scenario_text (script c.args.scenario.now) = grind (arith, common_steps) in
    λ equal same. text ∙ ap scenario_text same
