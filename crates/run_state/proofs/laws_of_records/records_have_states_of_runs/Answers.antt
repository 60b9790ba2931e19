use Rattle.run_state.proofs.RecordTexts.{as_runs}
use Rattle.run_state.proofs.laws_of_records.records_have_states_of_runs.Goals as goal

pub returns : goal.returns
returns c = as_runs
