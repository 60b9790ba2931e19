-- A Step by the result of the world: it has no mark and is observed, or it is reported.
use Rattle.std.proofs.Common.{◌≡◌, ℕ, Bool, List, [], ◌∷◌, map, length, IfOk, IfErr, OnOk, OnErr, Result, Ok, Err, Some, refl, ap, sym, subst, ◌∙◌}
use Rattle.plain_store.specs.{Setup}
use Rattle.model.specs.{Event, Refusal, Taken, entry_of, history, past_of, placed}
use Rattle.model.specs.declared.events.Event.TheVariants.{Step}
use Rattle.world.specs.{Adds, GoesOn, IsRefused, KeepsTheMainTheorem, StepsQuietly, ReportsOverlapped}
use Rattle.world.specs.Shows.{Shows, WorldState}
use Rattle.world.specs.process.{act_of, marks_of}
use Rattle.world.specs.process.declared.outcomes.EventOutcome.TheVariants.{Steps}
use Rattle.world.specs.process.declared.outcomes.StepOutcome.{StepOutcome as Leads}
use Rattle.world.specs.process.declared.outcomes.StepOutcome.TheVariants as step
use Rattle.world.specs.process.registers.{AccessMade}
use Rattle.world.specs.laws.{doing}
use Rattle.world.specs.process.{number_read}
use Rattle.scenario_run.specs.{Happening, ObservesStep, ObservesUnmarked, ReportsStep, TurnReport, reported_step, tried}
use Rattle.scenario_run.proofs.ScenarioRunTurns.{place_is}
use Rattle.scenario_run.proofs.Refusals.{shows_refused}
use Rattle.scenario_run.proofs.Within.{steps_on}

-- the marks of a Step that leads to something are not empty
leads_marked : (place : ℕ) (leads : Leads) → (leads ≡ step.Nothing → ⊥) → map (placed place) (marks_of (Steps leads)) ≡ [] → ⊥
leads_marked place step.Nothing some none = some refl
leads_marked place (step.Waits ticket) some none = absurd (cc)
leads_marked place (step.WaitsAndEnters ticket) some none = absurd (cc)
leads_marked place step.Enters some none = absurd (cc)
leads_marked place (step.Took reply changes) some none = absurd (cc)
leads_marked place step.Leaves some none = absurd (cc)
leads_marked place (step.Answers answer) some none = absurd (cc)
leads_marked place (step.Settles value) some none = absurd (cc)
leads_marked place (step.SettlesAndTakes value reply) some none = absurd (cc)
leads_marked place step.Lies some none = absurd (cc)

-- the world reports whether a Step that is made ends a read that a write overlapped
overlaps_of : (w : WorldState) (r : Result AccessMade Refusal) (one : AccessMade) → r ≡ Ok one → IfOk r (λ (made : AccessMade). ReportsOverlapped w made.access made.overlapped) → ReportsOverlapped w one.access one.overlapped
overlaps_of w r one made overlaps = subst (λ (r : Result AccessMade Refusal). IfOk r (λ (made : AccessMade). ReportsOverlapped w made.access made.overlapped)) made overlaps

some_is : (n m : ℕ) → Some n ≡ Some m → m ≡ n
some_is n m is = cc

module _ (w w' : WorldState) (p : ℕ) (flick : Bool) (leads : Leads) (r : Result AccessMade Refusal) (adds : IfOk r (λ (made : AccessMade). Adds w (Step p flick) p (act_of (length w.history) (record { access = Some made.access; effect = Steps leads })))) (on : OnOk r (GoesOn w (Step p flick) w')) (setup : OnOk r (w'.setup ≡ w.setup)) where
  -- a Step without a mark
  abbrev step_quiet : (one : AccessMade) → r ≡ Ok one → leads ≡ step.Nothing → IfOk r (λ (made : AccessMade). KeepsTheMainTheorem w p (act_of (length w.history) (record { access = Some made.access; effect = Steps leads }))) → StepsQuietly w p flick w'
  step_quiet one made nothing main_theorem = record {
    access = one.access;
    adds = subst (λ leads. Adds w (Step p flick) p (act_of (length w.history) (record { access = Some one.access; effect = Steps leads }))) nothing
        (subst (λ (r : Result AccessMade Refusal). IfOk r (λ (made : AccessMade). Adds w (Step p flick) p (act_of (length w.history) (record { access = Some made.access; effect = Steps leads })))) made adds);
    shows = subst (λ (r : Result AccessMade Refusal). OnOk r (GoesOn w (Step p flick) w')) made on;
    main_theorem = subst (λ leads. KeepsTheMainTheorem w p (act_of (length w.history) (record { access = Some one.access; effect = Steps leads }))) nothing
        (subst (λ (r : Result AccessMade Refusal). IfOk r (λ (made : AccessMade). KeepsTheMainTheorem w p (act_of (length w.history) (record { access = Some made.access; effect = Steps leads })))) made main_theorem);
    setup = subst (λ (r : Result AccessMade Refusal). OnOk r (w'.setup ≡ w.setup)) made setup;
  }

  -- a Step without a mark, which is observed
  pub step_observed : {L : Type 0} (R : L → Setup → List Happening → List Happening → L → Type 0) (one : AccessMade) (number : ℕ) (was is : L) → r ≡ Ok one → leads ≡ step.Nothing → IfOk r (λ (made : AccessMade). KeepsTheMainTheorem w p (act_of (length w.history) (record { access = Some made.access; effect = Steps leads }))) → IfOk r (λ (made : AccessMade). ReportsOverlapped w made.access made.overlapped) →
      ((events : List Event) → Shows w events → number ≡ number_read (doing w.setup p (past_of w.setup events))) → ObservesUnmarked R (record { process = p; flick = flick; access = one.access; overlapped = one.overlapped; number = Some number }) was is → ObservesStep R w p flick w' was is
  step_observed R one number was is made nothing main_theorem overlaps number_is observed =
      let q = step_quiet one made nothing main_theorem in
      record { step = q; observes = λ before shows. observed w.setup before (steps_on w w' p flick (Some number) before q shows (λ n some. some_is number n some ∙ number_is (tried before) shows) (λ none. absurd (cc)) one.overlapped (overlaps_of w r one made overlaps)) }

  -- a Step that is reported, made or refused
  pub step_reported : (place : ℕ) (taken : List Taken) (answer : TurnReport) → ((one : AccessMade) → r ≡ Ok one → leads ≡ step.Nothing → ⊥) → ((events : List Event) → Shows w events → taken ≡ history w.setup (past_of w.setup events)) → place ≡ length taken → IfErr r (λ refusal. IsRefused w (Step p flick) (Some refusal)) → OnErr r (w' ≡ w) → IfOk r (λ (made : AccessMade). ReportsOverlapped w made.access made.overlapped) →
      answer ≡ reported_step p flick place leads r → ReportsStep w p flick answer w'
  step_reported place taken answer marked taken_is place_at away same overlaps reported = subst (λ answer. ReportsStep w p flick answer w') (sym reported) (by r marked adds on setup away same overlaps)
    where
      by : (r : Result AccessMade Refusal) → ((one : AccessMade) → r ≡ Ok one → leads ≡ step.Nothing → ⊥) → IfOk r (λ (made : AccessMade). Adds w (Step p flick) p (act_of (length w.history) (record { access = Some made.access; effect = Steps leads }))) → OnOk r (GoesOn w (Step p flick) w') → OnOk r (w'.setup ≡ w.setup) → IfErr r (λ refusal. IsRefused w (Step p flick) (Some refusal)) → OnErr r (w' ≡ w) → IfOk r (λ (made : AccessMade). ReportsOverlapped w made.access made.overlapped) →
          ReportsStep w p flick (reported_step p flick place leads r) w'
      by (Ok one) marked adds on setup away same overlaps = record {
        marked = leads_marked place leads (marked one refl);
        reports = λ events shows. (refl, subst (λ n. entry_of w.setup (past_of w.setup events) (Step p flick) ≡ Some (record { process = p; access = Some one.access; marks = map (placed n) (marks_of (Steps leads)) })) (place_is w events taken place shows (taken_is events shows) place_at) (adds events shows), overlaps events shows);
        shows = on;
        setup = setup;
      }
      by (Err refusal) marked adds on setup away same overlaps = record {
        marked = tt;
        reports = λ events shows. (refl, away events shows);
        shows = λ events shows. subst (λ (w : WorldState). Shows w (Step p flick ∷ events)) (sym same) (shows_refused w events (Step p flick) refusal shows refl (away events shows));
        setup = ap (λ (w : WorldState). w.setup) same;
      }
