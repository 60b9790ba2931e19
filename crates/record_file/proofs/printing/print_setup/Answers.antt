use Rattle.std.proofs.Common.{◌≡◌, flat_map, arith}
use Rattle.std.proofs.lemmas.Grind.{common_steps}
use Rattle.scenario.specs.{printed_line}
use Rattle.record_file.specs.{head_words}
use Rattle.record_file.proofs.RecordsAgain.{head_begins, record_again}
use Rattle.record_file.proofs.printing.print_setup.Goals as goal

pub returns-clause-read_again : goal.returns-clause-read_again
returns-clause-read_again c =
    let text : c.into_bytes.result.items ≡ flat_map printed_line (head_words c.args.setup.now) = grind (arith, common_steps) in
    λ good. head_begins c.args.setup.now c.into_bytes.result.items good c.pairs_are_sound.ensures text

pub returns-clause-law : goal.returns-clause-law
returns-clause-law c = record_again

pub returns-in_err-text-clause-law : goal.returns-in_err-text-clause-law
returns-in_err-text-clause-law c = record_again

pub returns-in_err-print_opening-clause-law : goal.returns-in_err-print_opening-clause-law
returns-in_err-print_opening-clause-law c = record_again
