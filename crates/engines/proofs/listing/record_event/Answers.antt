use Rattle.std.proofs.Common.{arith, refl}
use Rattle.std.proofs.lemmas.Grind.{common_steps}
use Rattle.engines.proofs.Recorded.{records_refused}
use Rattle.scenario_run.proofs.Written.{ok_then}
use Rattle.engines.proofs.listing.record_event.Goals as goal

pub returns-in-Err : goal.returns-in-Err
returns-in-Err c = ok_then c.passed_over.result
    (λ other. records_refused c.args.world.now c.event.new.self c.args.event.now c.in-Err.refusal c.args.entries.now c.args.entries.now c.command_is_sound.ensures c.in-Err.ensures.refused other c.in-Err.ensures.unchanged refl)
    c.passed_over.ensures

pub returns-in_ok-push-in-Ok : goal.returns-in_ok-push-in-Ok
returns-in_ok-push-in-Ok c = grind (arith, common_steps)
