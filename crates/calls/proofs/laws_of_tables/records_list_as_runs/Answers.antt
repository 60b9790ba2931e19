use Rattle.calls.proofs.AsRuns.{good_list, runs_list}
use Rattle.calls.proofs.laws_of_tables.records_list_as_runs.Goals as goal

pub returns-clause-good : goal.returns-clause-good
returns-clause-good c = good_list

pub returns-clause-runs : goal.returns-clause-runs
returns-clause-runs c = runs_list
