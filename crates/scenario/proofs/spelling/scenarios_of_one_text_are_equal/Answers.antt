use Rattle.std.proofs.Common.{◌≡◌, Result, Ok, ap, sym, ◌∙◌}
use Rattle.scenario.specs.files.{LineFault}
use Rattle.scenario.specs.{Script, scenario_of, scenario_text}
use Rattle.scenario.proofs.Printout.{script_again}
use Rattle.scenario.proofs.spelling.scenarios_of_one_text_are_equal.Goals as goal

-- both are the scenario of the text
one_said : (r : Result Script LineFault) (s t : Script) → r ≡ Ok s → r ≡ Ok t → s ≡ t
one_said r s t first second = cc

pub returns : goal.returns
returns c = λ s t is also same. one_said (scenario_of (scenario_text t)) s t (ap scenario_of (sym same) ∙ script_again s is) (script_again t also)
