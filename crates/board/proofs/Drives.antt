-- Driving a port: word steps, one after the other.
use Rattle.std.proofs.Common.{◌≡◌, ℕ, suc, ◌<◌, Bool, true, ap, ◌∙◌, subst, arith}
use Rattle.plain_store.specs.{Answer, Setup}
use Rattle.process.specs.choices.{FlickState, after_flick, flick_of}
use Rattle.model.specs.{Stage, is_at_work}
use Rattle.model.specs.declared.stages.Stage.TheVariants as stage
use Rattle.process.specs.{StepOutcome}
use Rattle.process.specs.declared.outcomes.StepOutcome.TheVariants as reports
use Rattle.board.specs.declared.driving.Driven.TheVariants as driven
use Rattle.board.specs.{Drives, LeadsTo, OwnView, PortState, SamePort, Walks, WordStep, flicks_after, goes}

-- a process that is neither idle nor down has a next access
pub goes_unless : (st : Stage) → (st ≡ stage.Idle → ⊥) → (st ≡ stage.Down → ⊥) → is_at_work st ≡ true
goes_unless st h k = grind arith

-- a process whose word step neither finishes its call nor brings it down still has a next access
pub leads_on : (s : Setup) (reported : StepOutcome) (o after : OwnView) → LeadsTo s reported o after → ((answer : Answer) → reported ≡ reports.Answers answer → ⊥) → (reported ≡ reports.Lies → ⊥) → goes s after ≡ true
leads_on s reported o after h k g = grind arith

-- A port that was driven for some word steps, and has a next access.
pub record IsDriven (old : PortState) (flicks : FlickState) (made : ℕ) (now : PortState) (flicks_now : FlickState) : Type 0 where
  pub same : SamePort old now
  pub walks : Walks old.setup flicks old.view made now.view
  pub taken : flicks_now ≡ flicks_after made flicks
  pub goes : goes old.setup now.view.own ≡ true

-- it is still the same port
pub same_on : (old now new : PortState) → SamePort old now → SamePort now new → SamePort old new
same_on old now new h k = (k.0 ∙ h.0, k.1 ∙ h.1, k.2 ∙ h.2, k.3 ∙ h.3)

-- one more word step, with the next flick
pub step_on : (old now new : PortState) (flicks flicks_now : FlickState) (made : ℕ) (flick : Bool) → IsDriven old flicks made now flicks_now → flick ≡ flick_of flicks_now → WordStep now.setup flick now.view new.view →
    WordStep old.setup (flick_of (flicks_after made flicks)) now.view new.view
step_on old now new flicks flicks_now made flick d flick_is step =
    subst (λ s. WordStep s (flick_of (flicks_after made flicks)) now.view new.view) d.same.2 (subst (λ f. WordStep now.setup f now.view new.view) (flick_is ∙ ap flick_of d.taken) step)

pub driven_on : (old now new : PortState) (flicks flicks_now flicks_then : FlickState) (made : ℕ) (flick : Bool) (reported : StepOutcome) → IsDriven old flicks made now flicks_now → flick ≡ flick_of flicks_now → flicks_then ≡ after_flick flicks_now →
    SamePort now new → WordStep now.setup flick now.view new.view → LeadsTo now.setup reported now.view.own new.view.own → ((answer : Answer) → reported ≡ reports.Answers answer → ⊥) → (reported ≡ reports.Lies → ⊥) → IsDriven old flicks (suc made) new flicks_then
driven_on old now new flicks flicks_now flicks_then made flick reported d flick_is then_is same step leads answers lies = record {
  same = same_on old now new d.same same;
  walks = (now.view, d.walks, d.goes, step_on old now new flicks flicks_now made flick d flick_is step);
  taken = then_is ∙ ap after_flick d.taken;
  goes = leads_on old.setup reported now.view.own new.view.own (subst (λ s. LeadsTo s reported now.view.own new.view.own) d.same.2 leads) answers lies;
}

-- the last word step finishes the call
pub drives_to_answer : (old now new : PortState) (flicks flicks_now flicks_then : FlickState) (made turns : ℕ) (flick : Bool) (answer : Answer) → IsDriven old flicks made now flicks_now → made < turns → flick ≡ flick_of flicks_now → flicks_then ≡ after_flick flicks_now →
    WordStep now.setup flick now.view new.view → LeadsTo now.setup (reports.Answers answer) now.view.own new.view.own → Drives old.setup old.view turns flicks (driven.Answered answer) new.view flicks_then
drives_to_answer old now new flicks flicks_now flicks_then made turns flick answer d few flick_is then_is step leads = record {
  made = suc made;
  ends = (
    omega (arith, few),
    (now.view, d.walks, d.goes, step_on old now new flicks flicks_now made flick d flick_is step, subst (λ s. LeadsTo s (reports.Answers answer) now.view.own new.view.own) d.same.2 leads),
  );
  taken = then_is ∙ ap after_flick d.taken;
}

-- the last word step brings the process down
pub drives_down : (old now new : PortState) (flicks flicks_now flicks_then : FlickState) (made turns : ℕ) (flick : Bool) → IsDriven old flicks made now flicks_now → made < turns → flick ≡ flick_of flicks_now → flicks_then ≡ after_flick flicks_now →
    WordStep now.setup flick now.view new.view → LeadsTo now.setup reports.Lies now.view.own new.view.own → Drives old.setup old.view turns flicks driven.Down new.view flicks_then
drives_down old now new flicks flicks_now flicks_then made turns flick d few flick_is then_is step leads = record {
  made = suc made;
  ends = (
    omega (arith, few),
    (now.view, d.walks, d.goes, step_on old now new flicks flicks_now made flick d flick_is step),
    (subst (λ s. LeadsTo s reports.Lies now.view.own new.view.own) d.same.2 leads).0,
  );
  taken = then_is ∙ ap after_flick d.taken;
}
