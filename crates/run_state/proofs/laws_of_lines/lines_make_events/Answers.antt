use Rattle.calls.proofs.scenario_proofs.LineNumbers.{lines_numbered}
use Rattle.run_state.proofs.Makers.{events_made}
use Rattle.run_state.proofs.laws_of_lines.lines_make_events.Goals as goal

pub returns-clause-numbers : goal.returns-clause-numbers
returns-clause-numbers c = lines_numbered

pub returns-clause-events : goal.returns-clause-events
returns-clause-events c = events_made
