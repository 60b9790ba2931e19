use Rattle.std.proofs.Common.{◌∷◌, ◌++◌, sym, subst}
use Rattle.draw.specs.{ObservesAll, overlapped_by}
use Rattle.std.proofs.lemmas.Result.{on_ok_weaker}
use Rattle.draw.proofs.ObservedReads.{observes_all_nothing, observes_all_on}
use Rattle.draw.proofs.canvas.Canvas.observe.Goals as goal

pub returns-in-Some-clause-observes : goal.returns-in-Some-clause-observes
returns-in-Some-clause-observes c = on_ok_weaker c.observe.result
    (λ on. λ mode s past reads e is h number reports. observes_all_on mode s past _ reads _ c.args.access c.args.overlapped _ _ (λ before. on s past reads e is before number) reports (subst (ObservesAll mode s past reads) c.in-Some.is h)) c.observe.ensures

pub returns-in-None-clause-observes : goal.returns-in-None-clause-observes
returns-in-None-clause-observes c = λ mode s past reads e is h number reports.
    subst (ObservesAll mode s (e ∷ past) (reads ++ overlapped_by s past e)) (sym c.in-None.is)
    (observes_all_nothing mode s past _ reads _ (subst (ObservesAll mode s past reads) c.in-None.is h))
