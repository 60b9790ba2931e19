use Rattle.std.proofs.Common.{◌≡◌, ◌++◌, ℕ, Global, List, Vec, ap, subst, sym, ◌∙◌}
use Rattle.trace_engine.specs.{HasReported, ReporterState, trace_verdict_line}
use Rattle.trace_engine.proofs.Explained.{reports}
use Rattle.trace_engine.proofs.judging.TraceReporter.report.Goals as goal

pub returns : goal.returns
returns c =
    let i = c.self.inside in
    let t : ReporterState = record { judge = i.judge; why = i.why; lines = i.lines.items } in
    let judged = c.judged-judged.result in
    let reported = c.extend_from_slice.new.self.items in
    let line = c.into_bytes-text.result.items in
    let text : reported ≡ trace_verdict_line judged.entries judged.verdict ++ t.lines =
    c.in_ok-extend_from_slice.ensures.items ∙ ap (λ (x : List ℕ). line ++ x) c.as_slice.ensures.value ∙ ap (λ (x : List ℕ). x ++ t.lines) (ap (λ (v : Vec ℕ Global). v.items) c.into_bytes-text.ensures.value ∙ c.in_ok-verdict_line.ensures) in
    λ why s entries numbers has.
    let before = subst (λ (t : ReporterState). HasReported why t s entries numbers) (sym c.self.view_is) has in
    reports why t reported c.status_of.result judged.entries judged.verdict s entries numbers before
    (c.judged-judged.ensures.verdict s entries before.judged) (c.judged-judged.ensures.entries s entries before.judged) c.status_of.ensures text
