use Rattle.std.proofs.Common.{◌≡◌, ◌==◌, List, [], ◌∷◌, length, true, sym, subst, ◌∙◌, arith, eqb-true}
use Rattle.model.specs.{Entry, Mark}
use Rattle.safe_monitor.specs.{entry_by}
use Rattle.auditor.specs.{IsObserved}
use Rattle.auditor.proofs.auditor.Auditor.observe.Goals as goal

empty : (marks : List Mark) → (length marks == 0) ≡ true → marks ≡ []
empty [] h = λ i. []
empty (m ∷ ms) h = let none = eqb-true (length (m ∷ ms)) 0 h in absurd (omega (arith, none))

pub returns-in-Some-clause-observed : goal.returns-in-Some-clause-observed
returns-in-Some-clause-observed c =
    let none = empty c.args.marks.now (sym c.is_empty.ensures ∙ c.if-is_empty.true) in
    λ past h.
    subst (λ (e : Entry). IsObserved c.args.self.now.core.setup past e c.observe_within.new.self c.observe_within.result) (λ i. entry_by c.args.process (sym c.in-Some.is i) (sym none i)) (c.observe_within.ensures.observed past h)

pub returns-in-Some-event_in-clause-observed : goal.returns-in-Some-event_in-clause-observed
returns-in-Some-event_in-clause-observed c = λ past h. c.observe_event.ensures.observed past (record { process = c.args.process; access = c.args.access.now; marks = c.args.marks.now }) (sym c.event_in.ensures ∙ c.in-Some-event_in.is) h
