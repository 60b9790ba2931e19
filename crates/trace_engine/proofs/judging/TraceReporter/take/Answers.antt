use Rattle.std.proofs.Common.{◌≡◌, ◌&&◌, ◌++◌, ◌∷◌, [], Bool, List, OnOk, ap, refl, subst, sym, ◌∙◌}
use Rattle.trace.specs.{TraceEntry, TraceRegister, TraceSetup, trace_entry}
use Rattle.trace_judge.specs.{HasJudged}
use Rattle.trace_engine.specs.{HasReported, ReporterState, is_good, lines_if}
use Rattle.trace_engine.proofs.Explained.{ok_then, reported_on}
use Rattle.trace_engine.proofs.judging.TraceReporter.take.Goals as goal

pub returns : goal.returns
returns c =
    let i = c.self.inside in
    let old : ReporterState = record { judge = i.judge; why = i.why; lines = i.lines.items } in
    let new : ReporterState = record { judge = c.observe.new.self; why = i.why; lines = c.push_if.new.text.items } in
    let s = c.args.setup.now in
    let e = c.args.entry.now in
    let same = ap (λ m. trace_entry c.entry.inside.process c.entry.inside.access m) c.deref.ensures ∙ c.entry.view_is in
    let registers = c.deref-2.ensures.value ∙ ap (λ (t : TraceSetup). t.registers) c.setup.view_is in
    let asks = c.asks_reasons-asks.ensures ∙ ap (λ (t : ReporterState). t.why && is_good t.judge.verdict) (sym c.self.view_is) in
    ok_then c.push_if.result
    (λ lines why entries numbers reported.
    let before = subst (λ (t : ReporterState). HasReported why t s entries numbers) (sym c.self.view_is) reported in
    let judged = subst (λ (x : TraceEntry). HasJudged c.observe.new.self s (entries ++ x ∷ [])) same (c.observe.ensures.observed s entries before.judged) in
    reported_on s entries numbers c.args.number e why old new c.reasons.result.now before judged refl lines (c.reasons.ensures.explained s (entries ++ e ∷ []) judged))
    (subst (λ (b : Bool). OnOk c.push_if.result (c.push_if.new.text.items ≡ i.lines.items ++ lines_if b c.args.number s.registers e c.reasons.result.now)) asks
    (subst (λ (rs : List TraceRegister). OnOk c.push_if.result (c.push_if.new.text.items ≡ i.lines.items ++ lines_if c.asks_reasons-asks.result c.args.number rs e c.reasons.result.now)) registers c.push_if.ensures))
