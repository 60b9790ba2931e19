use Rattle.std.proofs.Common.{ap, sym, ◌∙◌}
use Rattle.std.proofs.lemmas.List.{length-map}
use Rattle.record_accesses.specs.{MonitorState, WaveLimit, possible, possible_past}
use Rattle.record_accesses.proofs.Monitors.{ok_always, ok_then, shown-on, monitored-on}
use Rattle.record_accesses.proofs.monitor.RecordAccessMonitor.observe_access.Goals as goal

pub returns-clause-monitored : goal.returns-clause-monitored
returns-clause-monitored c = ok_always c.shown.result (λ s limit past marks h is_next drop.
    monitored-on c.args.self.now c.take.new.self s limit past c.args.process c.args.access.now marks h c.take.ensures.setup c.take.ensures.limit
    (c.in_ok-monitored.ensures.taken (possible_past s past) marks h.taken (is_next ∙ sym (length-map past (possible s))) drop))

pub returns-clause-shown : goal.returns-clause-shown
returns-clause-shown c = ok_then c.shown.result
    (λ shown is s limit past marks h is_next drop.
    is ∙ shown-on c.args.self.now c.self.inside.limit.from c.args.number s limit past c.args.process c.args.access.now marks c.in_ok-monitored.monitored h (ap (λ (w : MonitorState). w.limit.from) c.self.view_is ∙ ap (λ (l : WaveLimit). l.from) c.take.ensures.limit) is_next
    (c.in_ok-monitored.ensures.monitored (possible_past s past) marks h.taken (is_next ∙ sym (length-map past (possible s))) drop))
    c.shown.ensures
