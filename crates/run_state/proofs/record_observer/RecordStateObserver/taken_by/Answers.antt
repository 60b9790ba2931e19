use Rattle.std.proofs.Common.{◌≡◌, Some, ap, subst, sym, ◌∙◌}
use Rattle.std.specs.Prelude.{option_map}
use Rattle.plain_store.specs.{Reply, Setup}
use Rattle.model.specs.{Past, Taken, past_of}
use Rattle.calls.specs.world.{CoreState, InEachCorePast}
use Rattle.calls.specs.world.process.{ProcessState, process_after}
use Rattle.run_state.proofs.record_observer.RecordStateObserver.taken_by.Goals as goal

pub returns : goal.returns
returns c = λ taken events shows below.
    let core : CoreState = c.args.self.now.judge.auditor.core in
    let p = c.args.process in
    let past : Past = past_of core.setup events in
    let caller = c.process-caller.result.now in
    let each = subst (λ (core : CoreState). InEachCorePast core (λ (s : Setup) (past : Past). caller ≡ process_after s past p)) c.core.ensures c.process-caller.ensures in
    let is : caller ≡ process_after core.setup past p = each taken events shows in
    let command = c.command.ensures ∙ ap (λ (q : ProcessState). q.command) is in
    let number = c.number.ensures ∙ ap (λ (q : ProcessState). q.number) is in
    let reply = sym c.in_ok-reply.was ∙ c.reply_in.ensures in
    (λ i. Some (record { process = p; command = command i; reply = c.in_ok-reply.reply; number = number i }))
    ∙ ap (option_map (λ (reply : Reply). let taken : Taken = record { process = p; command = (process_after core.setup past p).command; reply = reply; number = (process_after core.setup past p).number } in taken)) reply
