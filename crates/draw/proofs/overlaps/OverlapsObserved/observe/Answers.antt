use Rattle.std.proofs.Common.{◌≡◌, Option, Some, IfSome, subst, ◌∙◌}
use Rattle.model.specs.{Access}
use Rattle.draw.specs.{ReportsOver}
use Rattle.draw.proofs.ObservedReads.{observes_none, observes_on}
use Rattle.draw.proofs.Written.{ok_then_all}
use Rattle.draw.proofs.overlaps.OverlapsObserved.observe.Goals as goal

pub returns-in_default : goal.returns-in_default
returns-in_default c = λ s past reads e is h number reports. observes_none s past reads e _ (is ∙ c.in_default.is) h

pub returns : goal.returns
returns c =
    let kept = c.keep.ensures in
    ok_then_all c.keep.result
    (λ room begun ended s past reads e is h number reports.
    let some : e.access ≡ Some c.in-Some.access = is ∙ c.in-Some.is in
    let over : ReportsOver s past c.in-Some.access c.args.overlapped = subst (λ (o : Option Access). IfSome o (λ a. ReportsOver s past a c.args.overlapped)) c.in-Some.is reports in
    observes_on s past reads e _ _ kept.setup (λ p below. begun s past reads e p some number h below) (room h.room) (ended s past reads e some number h over) h)
    kept.room kept.begun kept.ended
