use Rattle.std.proofs.Common.{ap, sym, ◌∙◌}
use Rattle.calls.specs.{entry_with, overlaps_in}
use Rattle.calls.proofs.Overlapped.{reported_begun}
use Rattle.calls.proofs.overlaps.OverlapMonitor.overlaps.Goals as goal

pub returns-then-has_begun : goal.returns-then-has_begun
returns-then-has_begun c = λ s past marks h below.
    reported_begun s past c.args.self.now c.args.process c.in-Some.access c.overlaps.result h below (sym c.has_begun.ensures ∙ c.if-has_begun.true) c.overlaps.ensures.in_range c.overlaps.ensures.stray
    ∙ ap (λ o. overlaps_in s past (entry_with c.args.process o marks)) (sym c.in-Some.is)
