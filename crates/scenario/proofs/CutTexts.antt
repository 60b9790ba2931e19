-- The first bytes of a long scenario file have its fault.
use Rattle.std.specs.Prelude.{◌≡◌, ℕ, ◌≤◌, List, length, Option, Some, Ok}
use Rattle.std.specs.Io.KnownBytes.{IsAtEnd}
use Rattle.files.proofs.CutTexts.{reports_at_limit_then, input_reports, input_ended}
use Rattle.files.specs.{ReadsInput, ReportsAtLimit, input_limit}
use Rattle.scenario.specs.{Script, scenario_grammar, script_of, scenario_of}

-- The first bytes, as many as the limit, have the fault of the whole.
pub scenario_reports_at_limit : (text : List ℕ) → input_limit ≤ length text → ReportsAtLimit scenario_of text
scenario_reports_at_limit text long = reports_at_limit_then scenario_grammar (λ p. Ok (script_of p)) text long

pub scenario_reported : (text bytes : List ℕ) (rest : Option (List ℕ)) → ReadsInput (Some text) rest bytes → scenario_of bytes ≡ scenario_of text
scenario_reported text bytes rest read = input_reports scenario_of text bytes rest scenario_reports_at_limit read

pub scenario_ended : (text bytes : List ℕ) (rest : Option (List ℕ)) (script : Script) → ReadsInput (Some text) rest bytes → scenario_of bytes ≡ Ok script → IsAtEnd rest
scenario_ended text bytes rest script read good = input_ended scenario_of text bytes rest script scenario_reports_at_limit read good
