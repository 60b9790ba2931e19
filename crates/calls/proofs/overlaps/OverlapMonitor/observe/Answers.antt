use Rattle.std.proofs.Common.{◌∷◌, Some, ap, refl, sym, subst, ◌∙◌, length-set}
use Rattle.calls.specs.{entry_with, last_access}
use Rattle.calls.specs.{OverlapMonitor, Monitors}
use Rattle.calls.proofs.Overlapped.{last_on, last_still}
use Rattle.calls.proofs.overlaps.OverlapMonitor.observe.Goals as goal

pub returns-in-Some : goal.returns-in-Some
returns-in-Some c = λ s past marks h.
    let p = c.args.process in
    let e = entry_with p c.args.access.now marks in
    let last = c.args.self.now.last in
    subst (λ (w : OverlapMonitor). Monitors s (e ∷ past) w) (sym c.keep.ensures) (record {
      good = h.good;
      monitored = c.observe.ensures.setup ∙ h.monitored;
      observed = c.observe.ensures.observed past e refl h.observed;
      last = λ q below. last_on s past c.args.self.now p c.in-Some.access marks h q below ∙ ap (λ o. last_access q (entry_with p o marks ∷ past)) (sym c.in-Some.is);
      room = length-set last p (Some c.in-Some.access) ∙ h.room;
    })

pub returns-in_default : goal.returns-in_default
returns-in_default c = λ s past marks h.
    let p = c.args.process in
    let e = entry_with p c.args.access.now marks in
    record {
      good = h.good;
      monitored = c.observe.ensures.setup ∙ h.monitored;
      observed = c.observe.ensures.observed past e refl h.observed;
      last = λ q below. h.last q below ∙ last_still past p marks q ∙ ap (λ o. last_access q (entry_with p o marks ∷ past)) (sym c.in_default.is);
      room = h.room;
    }
