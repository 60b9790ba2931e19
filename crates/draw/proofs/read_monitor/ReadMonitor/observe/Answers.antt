use Rattle.std.proofs.Common.{◌∷◌, false, Option, Some, subst, sym, ◌∙◌}
use Rattle.model.specs.{Access}
use Rattle.judge.specs.safe_monitor.{MonitorState}
use Rattle.draw.specs.{ReportsEnd, Monitors}
use Rattle.draw.proofs.ObservedReads.{monitors_nothing, monitors_on}
use Rattle.draw.proofs.read_monitor.ReadMonitor.observe.Goals as goal

pub returns-in_default : goal.returns-in_default
returns-in_default c = λ mode s past e is monitors.
    subst (λ (w : Option MonitorState). ReportsEnd mode s past c.args.access false × Monitors mode s (e ∷ past) w) (sym c.in_default.is)
    (monitors_nothing mode s past e c.args.access false (subst (λ (w : Option MonitorState). Monitors mode s past w) c.in_default.is monitors))

pub returns : goal.returns
returns c = λ mode s past e is monitors.
    let over = c.overlaps-overlapped in
    let some = is ∙ c.in-Some-access.is in
    subst (λ (a : Option Access). ReportsEnd mode s past a over.result × Monitors mode s (e ∷ past) (Some c.observe.new.self)) (sym c.in-Some-access.is)
    (monitors_on mode s past e c.in-Some-access.access over.result c.in-Some.monitor c.observe.new.self some c.observe.ensures.setup (c.observe.ensures.observed past e some)
    (over.ensures.in_range past) over.ensures.stray (subst (λ (w : Option MonitorState). Monitors mode s past w) c.in-Some.is monitors))
