use Rattle.scenario_tests.proofs.Using.{run_replies}
use Rattle.scenario_tests.proofs.uses.printed_replies.Goals as goal

pub returns : goal.returns
returns g c = record { replies = run_replies c.replay.result _ _ c.replay.ensures.ran c.replay.ensures.main_theorem }
