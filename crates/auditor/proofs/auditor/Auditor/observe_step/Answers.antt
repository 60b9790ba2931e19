use Rattle.std.proofs.Common.{length, true≢false, sym, subst, ◌∙◌}
use Rattle.std.specs.Prelude.{Some, None}
use Rattle.model.specs.declared.events.Event.TheVariants.{Step}
use Rattle.model.specs.{Access, Entry, Past, history}
use Rattle.world.specs.process.declared.outcomes.EventOutcome.TheVariants.{Steps}
use Rattle.world.specs.process.{StepOutcome, act_of}
use Rattle.world.specs.{Adds, CoreRefuses, CoreSteps, with_history}
use Rattle.safe_monitor.specs.declared.verdicts.Law.TheVariants as law
use Rattle.auditor.specs.{AuditorState, BreaksNext, HasObserved, IsAlike, IsObserved, flick_in, stepped_as}
use Rattle.auditor.proofs.Observing.{StepMade, alike_again, observed_misplaced, observed_refused, observed_step, observed_wrong}
use Rattle.auditor.proofs.auditor.Auditor.observe_step.Goals as goal
use Rattle.auditor.proofs.auditor.Auditor.observe_step.Goals.{After-is_alike}

pub returns-in_default-clause-observed : goal.returns-in_default-clause-observed
returns-in_default-clause-observed c =
    let e : Entry = record { process = c.args.process; access = c.args.access.now; marks = c.args.marks.now } in
    let a : AuditorState = record { core = c.self.inside.core; taken = c.self.inside.taken } in
    let refuses : CoreRefuses a.core (Step e.process (flick_in e.access)) (Some c.in_default.field-0) =
    subst (λ f. CoreRefuses a.core (Step e.process f) (Some c.in_default.field-0)) c.flick_in-flick.ensures c.in_default.ensures.refused in
    λ past h. subst (λ (x : AuditorState). BreaksNext law.Program x.core.setup past e) c.self.view_is
    (observed_refused a past e c.in_default.field-0 (subst (λ (x : AuditorState). HasObserved x past) (sym c.self.view_is) h) c.requires refuses)

abbrev before : After-is_alike → AuditorState
before c = record { core = c.self.inside.core; taken = c.self.inside.taken }

abbrev entry : After-is_alike → Entry
entry c = record { process = c.args.process; access = c.args.access.now; marks = c.args.marks.now }

-- the step that the process of the entry may make
next : (c : After-is_alike) (past : Past) → HasObserved c.args.self.now past → StepMade (before c) past (entry c) c.in-Ok.next c.in-Ok.reported
next c past h = record {
  observed = subst (λ (x : AuditorState). HasObserved x past) (sym c.self.view_is) h;
  none = c.requires;
  adds = λ taken. subst (λ f. Adds (with_history c.self.inside.core taken) (Step c.args.process f) c.args.process (act_of (length taken) (record { access = Some c.in-Ok.next; effect = Steps c.in-Ok.reported }))) c.flick_in-flick.ensures (c.in-Ok.ensures.accepted taken);
}

pub returns-then-not-is_alike-clause-observed : goal.returns-then-not-is_alike-clause-observed
returns-then-not-is_alike-clause-observed c = λ past h.
    let b = (goal.at.returns-then-not-is_alike-clause-observed c).After-is_alike in
    let m = next b past h in
    subst (λ (x : AuditorState). BreaksNext c.wrong.result x.core.setup past (entry b)) c.self.view_is
    (subst (λ l. BreaksNext l c.self.inside.core.setup past (entry b)) (sym c.wrong.ensures)
    (observed_wrong (before b) past (entry b) c.in-Ok.next c.in-Ok.reported m c.settles.result
    (λ alike. true≢false (sym ((c.is_alike.ensures c.args.process).1 alike) ∙ c.if-not-is_alike.true))
    (c.settles.ensures (history c.self.inside.core.setup past) m.observed.events m.observed.shows)))

pub returns-then-not-are_at-clause-observed : goal.returns-then-not-are_at-clause-observed
returns-then-not-are_at-clause-observed c = λ past h.
    let b = (goal.at.returns-then-not-are_at-clause-observed c).After-is_alike in
    let m = next b past h in
    subst (λ (x : AuditorState). BreaksNext c.misplaced.result x.core.setup past (entry b)) c.self.view_is
    (subst (λ l. BreaksNext l c.self.inside.core.setup past (entry b)) (sym c.misplaced.ensures)
    (observed_misplaced (before b) past (entry b) c.in-Ok.next c.in-Ok.reported m ((c.is_alike.ensures c.args.process).0 c.if-not-is_alike.false)
    (λ at. true≢false (sym ((c.are_at.ensures (length (history c.self.inside.core.setup past)) m.observed.counted).1 at) ∙ c.if-not-are_at.true))))

pub returns-in_default-step-clause-observed : goal.returns-in_default-step-clause-observed
returns-in_default-step-clause-observed c =
    let e : Entry = record { process = c.args.process; access = c.args.access.now; marks = c.args.marks.now } in
    let a : AuditorState = record { core = c.self.inside.core; taken = c.self.inside.taken } in
    let refuses : CoreRefuses a.core (Step e.process (flick_in e.access)) (Some c.in_default-step.field-0) =
    subst (λ f. CoreRefuses a.core (Step e.process f) (Some c.in_default-step.field-0)) c.flick_in-flick.ensures c.in_default-step.ensures.refused in
    λ past h. subst (λ (x : AuditorState). BreaksNext law.Program x.core.setup past e) c.self.view_is
    (observed_refused a past e c.in_default-step.field-0 (subst (λ (x : AuditorState). HasObserved x past) (sym c.self.view_is) h) c.requires refuses)

pub returns-clause-observed : goal.returns-clause-observed
returns-clause-observed c = λ past h.
    let b = (goal.at.returns-clause-observed c).After-is_alike in
    let core = c.self.inside.core in
    let access : Access = c.in-Ok-step._access.access in
    let reported : StepOutcome = c.step.new.reported in
    let m = next b past h in
    let made : StepMade (before b) past (entry b) access reported = record {
      observed = m.observed;
      none = m.none;
      adds = λ taken. subst (λ f. Adds (with_history core taken) (Step c.args.process f) c.args.process (act_of (length taken) (record { access = Some access; effect = Steps reported }))) c.flick_in-flick.ensures (c.in-Ok-step.ensures.accepted taken);
    } in
    let alike : IsAlike (entry b) (stepped_as c.args.process access reported) = alike_again (before b) past (entry b) c.in-Ok.next access c.in-Ok.reported reported m made ((c.is_alike.ensures c.args.process).0 c.if-not-is_alike.false) in
    let steps : CoreSteps core c.args.process (flick_in c.args.access.now) reported c.step.new.self =
    subst (λ f. CoreSteps core c.args.process f reported c.step.new.self) c.flick_in-flick.ensures c.in-Ok-step.ensures.shows in
    subst (λ (x : AuditorState). IsObserved x.core.setup past (entry b) (record { core = c.step.new.self; taken = c.more-self-inside.result }) None) c.self.view_is
    (observed_step (before b) past (entry b) access reported made c.step.new.self c.more-self-inside.result alike
    ((c.are_at.ensures (length (history core.setup past)) m.observed.counted).0 c.if-not-are_at.false)
    c.in-Ok-step.ensures.setup steps c.more-self-inside.ensures)
