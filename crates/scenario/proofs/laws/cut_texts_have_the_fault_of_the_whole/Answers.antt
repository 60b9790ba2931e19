use Rattle.scenario.proofs.CutTexts.{scenario_reports_at_limit, scenario_reported, scenario_ended}
use Rattle.scenario.proofs.laws.cut_texts_have_the_fault_of_the_whole.Goals as goal

pub returns-clause-same_fault : goal.returns-clause-same_fault
returns-clause-same_fault c = scenario_reports_at_limit

pub returns-clause-same_meaning : goal.returns-clause-same_meaning
returns-clause-same_meaning c = scenario_reported

pub returns-clause-read_to_end : goal.returns-clause-read_to_end
returns-clause-read_to_end c = scenario_ended
