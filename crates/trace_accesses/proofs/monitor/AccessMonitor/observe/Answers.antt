use Rattle.std.proofs.Common.{◌∷◌, ap, subst, ◌∙◌, option_map}
use Rattle.trace.specs.{TraceEntry, TraceSetup, trace_entry}
use Rattle.trace_accesses.specs.{HasMonitored, possible_past, shown_access, shown_as}
use Rattle.trace_accesses.proofs.Monitors.{ok_then, shown-on, monitored-on}
use Rattle.trace_accesses.proofs.monitor.AccessMonitor.observe.Goals as goal

pub returns-clause-monitored : goal.returns-clause-monitored
returns-clause-monitored c = λ s limit past h.
    let e : TraceEntry = trace_entry c.entry.inside.process c.entry.inside.access c.entry.inside.marks.items in
    subst (λ (e : TraceEntry). HasMonitored c.take-access.new.self s limit (e ∷ past)) c.entry.view_is
    (monitored-on c.args.self.now c.take-access.new.self s limit past e h c.take-access.ensures.setup c.take-access.ensures.limit (c.take-access.ensures.taken e.marks (possible_past s past) h.taken))

pub returns-clause-shown : goal.returns-clause-shown
returns-clause-shown c =
    let e : TraceEntry = trace_entry c.entry.inside.process c.entry.inside.access c.entry.inside.marks.items in
    ok_then c.shown.result
    (λ shown is s limit past h.
    is
    ∙ ap (λ (s : TraceSetup). option_map (shown_as s.registers) c.take-access.result) c.take-access.ensures.setup
    ∙ shown-on c.args.self.now s limit past e c.take-access.result h (c.take-access.ensures.monitored e.marks (possible_past s past) h.taken)
    ∙ ap (shown_access s limit past) c.entry.view_is)
    c.shown.ensures
