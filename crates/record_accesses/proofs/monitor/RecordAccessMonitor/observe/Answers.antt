use Rattle.std.proofs.Common.{◌∷◌, ap, subst, sym, ◌∙◌}
use Rattle.model.specs.{Entry}
use Rattle.record_accesses.specs.{HasMonitored, shown_access}
use Rattle.record_accesses.proofs.Monitors.{ok_on, ok_then}
use Rattle.record_accesses.proofs.monitor.RecordAccessMonitor.observe.Goals as goal

pub returns-clause-monitored : goal.returns-clause-monitored
returns-clause-monitored c =
    let marks = c.parts-process.result.2.now in
    ok_on c.observe_access.result
    (λ on s limit past h is_next. subst (λ (e : Entry). HasMonitored c.observe_access.new.self s limit (e ∷ past)) c.parts-process.ensures (on s limit past marks h is_next (sym c.drops_open_read-drops_read.ensures)))
    c.observe_access.ensures.monitored

pub returns-clause-shown : goal.returns-clause-shown
returns-clause-shown c =
    let marks = c.parts-process.result.2.now in
    ok_then c.observe_access.result
    (λ shown is s limit past h is_next. is s limit past marks h is_next (sym c.drops_open_read-drops_read.ensures) ∙ ap (shown_access s limit past) c.parts-process.ensures)
    c.observe_access.ensures.shown
