use Rattle.std.proofs.Common.{Some, None, ◌≡◌, ◌<◌, ◌∙◌, ap, arith, inl, inr, refl, sym, subst}
use Rattle.model.specs.declared.refusals.Refusal.TheVariants.{NoProcess}
use Rattle.scenario.specs.declared.lines.Line.TheVariants.{Go as GoLine}
use Rattle.scenario_run.specs.{ComesOn, ComesTo, ScenarioRunState, Follows, IsAlone, Makes, Run, RunsTo, scenario_run, rest_of, turn_of}
use Rattle.scenario_run.specs.declared.reports.TurnReport.TheVariants as reported
use Rattle.scenario_run.proofs.ScenarioRunTurns.{go_ends, go_lacks, turn_made}
use Rattle.scenario_run.proofs.Goes.{go_tires, is_away}
use Rattle.scenario_run.proofs.Played.{on_fault}
use Rattle.scenario_run.proofs.Runnings.{at_once, comes_down, line_stops}
use Rattle.scenario_run.proofs.turns.ScenarioRun.run_to.Goals as goal

pub returns-in_default-clause-observed : goal.returns-in_default-clause-observed
returns-in_default-clause-observed g c = λ run follows.
    let i = c.self.inside in
    let s = c.args.self.now.world.setup in
    let l = GoLine c.args.process c.args.target in
    let new = scenario_run i.world i.flicks 0 in
    let remaining = ap (λ (old : ScenarioRunState). old.remaining) c.self.view_is in
    let family : ScenarioRunState → Type 0 = λ old. (run : Run) → Follows old run → Makes old run (turn_of old.world.setup l old.remaining run) (Some (reported.Refused c.args.process NoProcess)) new in
    let answer = Some (reported.Refused c.args.process NoProcess) in
    let some_remaining : i.remaining ≡ 0 → ⊥ = λ none. omega (arith, none, remaining, c.requires.floor) in
    subst (λ n. (c.args.floor < n) × ComesTo g.L.RunObserver.Observes s l c.args.self.now.remaining run c.args.observer.now c.args.observer.now n answer new) (sym remaining) (
      omega (arith, c.requires.floor),
      at_once g.L.RunObserver.Observes l run c.args.self.now new c.args.observer.now answer (g.met.L.RunObserver.observes_nothing c.args.observer.now s run.happened)
          (subst family c.self.view_is (turn_made (scenario_run i.world i.flicks i.remaining) new l l (Some (reported.Refused c.args.process NoProcess)) some_remaining refl
          (go_lacks i.world i.flicks i.remaining _ c.args.process c.args.target (λ events shows. sym c.in_default.is ∙ c.stage.ensures events shows))) run follows),
    )

pub returns-then-is_there-clause-observed : goal.returns-then-is_there-clause-observed
returns-then-is_there-clause-observed g c = λ run follows.
    let i = c.self.inside in
    let s = c.args.self.now.world.setup in
    let l = GoLine c.args.process c.args.target in
    let new = scenario_run i.world i.flicks 0 in
    let remaining = ap (λ (old : ScenarioRunState). old.remaining) c.self.view_is in
    let family : ScenarioRunState → Type 0 = λ old. (run : Run) → Follows old run → Makes old run (turn_of old.world.setup l old.remaining run) None new in
    let some_remaining : i.remaining ≡ 0 → ⊥ = λ none. omega (arith, none, remaining, c.requires.floor) in
    inr (subst (λ n. (c.args.floor < n) × ComesTo g.L.RunObserver.Observes s l c.args.self.now.remaining run c.args.observer.now c.args.observer.now n None new) (sym remaining) (
      omega (arith, c.requires.floor),
      at_once g.L.RunObserver.Observes l run c.args.self.now new c.args.observer.now None (g.met.L.RunObserver.observes_nothing c.args.observer.now s run.happened)
          (subst family c.self.view_is (turn_made (scenario_run i.world i.flicks i.remaining) new l l None some_remaining refl
          (go_ends i.world i.flicks i.remaining _ c.args.process c.args.target c.in-Some.stage (sym c.is_there.ensures ∙ c.if-is_there.true) (λ events shows. sym c.in-Some.is ∙ c.stage.ensures events shows))) run follows),
    ))

pub returns-in_err-reported-clause-cut : goal.returns-in_err-reported-clause-cut
returns-in_err-reported-clause-cut g c =
    let i = c.self.inside in
    let s = c.args.self.now.world.setup in
    let p = c.args.process in
    let target = c.args.target in
    let l = GoLine p target in
    let family : ScenarioRunState → Type 0 = λ old. (run : Run) → Follows old run → IsAlone p c.max.result old.world.setup l run in
    let alone : family c.args.self.now = subst family c.self.view_is
    (λ run follows. inr (target, refl, is_away i.world p target c.in-Some.stage (sym c.is_there.ensures ∙ c.if-is_there.false) (λ events shows. sym c.in-Some.is ∙ c.stage.ensures events shows) i.flicks i.remaining run follows, omega (arith, c.max.ensures))) in
    on_fault c.from_residual.result c.in_err-reported.field-0.0 (λ fault. (run : Run) → Follows c.args.self.now run → g.L.RunObserver.Stops c.args.observer.now s run.happened (rest_of s l c.args.self.now.remaining run).happened fault c.run_alone.new.observer) c.from_residual.ensures.1
    (λ run follows. line_stops g.L.RunObserver.Stops s l c.args.self.now.remaining run c.args.observer.now c.run_alone.new.observer c.in_err-reported.field-0.0 c.run_alone.new.self (IsAlone p c.max.result) g.met.L.RunObserver.stops_before (c.in_err-reported.ensures.cut l run follows (alone run follows)) c.requires.bounded)

pub returns-in-Some-2-clause-observed : goal.returns-in-Some-2-clause-observed
returns-in-Some-2-clause-observed g c = λ run follows.
    let i = c.self.inside in
    let p = c.args.process in
    let target = c.args.target in
    let l = GoLine p target in
    let family : ScenarioRunState → Type 0 = λ old. (run : Run) → Follows old run → IsAlone p c.max.result old.world.setup l run in
    let alone : family c.args.self.now = subst family c.self.view_is
    (λ run follows. inr (target, refl, is_away i.world p target c.in-Some.stage (sym c.is_there.ensures ∙ c.if-is_there.false) (λ events shows. sym c.in-Some.is ∙ c.stage.ensures events shows) i.flicks i.remaining run follows, omega (arith, c.max.ensures))) in
    let to = subst (λ reported. RunsTo g.L.RunObserver.Observes c.args.self.now.world.setup l c.args.self.now.remaining run c.args.observer.now c.run_alone.new.observer p c.max.result c.run_alone.new.before reported c.run_alone.new.self) c.in-Some-2.is (c.in_ok-reported.ensures.observed l run follows (alone run follows)) in
    let above = to.0 in
    (omega (arith, above, c.max.ensures), to.1)

pub returns-then-floor-gt0-clause-observed : goal.returns-then-floor-gt0-clause-observed
returns-then-floor-gt0-clause-observed g c = λ run follows.
    let i = c.self.inside in
    let s = c.args.self.now.world.setup in
    let p = c.args.process in
    let target = c.args.target in
    let l = GoLine p target in
    let family : ScenarioRunState → Type 0 = λ old. (run : Run) → Follows old run → IsAlone p c.max.result old.world.setup l run in
    let alone : family c.args.self.now = subst family c.self.view_is
    (λ run follows. inr (target, refl, is_away i.world p target c.in-Some.stage (sym c.is_there.ensures ∙ c.if-is_there.false) (λ events shows. sym c.in-Some.is ∙ c.stage.ensures events shows) i.flicks i.remaining run follows, omega (arith, c.max.ensures))) in
    let on = subst (λ reported. RunsTo g.L.RunObserver.Observes s l c.args.self.now.remaining run c.args.observer.now c.run_alone.new.observer p c.max.result c.run_alone.new.before reported c.run_alone.new.self) c.in_default-2.is (c.in_ok-reported.ensures.observed l run follows (alone run follows)) in
    let ended = c.in_ok-reported.ensures.ended c.in_default-2.is in
    let at = c.in_ok-reported.ensures.floor c.in_default-2.is in
    inl (comes_down g.L.RunObserver.Observes s l c.args.self.now.remaining run c.args.observer.now c.run_alone.new.observer c.args.floor c.run_alone.new.before c.run_alone.new.self (IsAlone p c.max.result) (omega (arith, ended, c.max.ensures, c.if-floor-gt0.true)) (omega (arith, at, c.max.ensures, c.if-floor-gt0.true)) on)

pub returns-clause-observed : goal.returns-clause-observed
returns-clause-observed g c = λ run follows.
    let i = c.self.inside in
    let j = c.self-2.inside in
    let mid : ScenarioRunState = c.run_alone.new.self in
    let s = c.args.self.now.world.setup in
    let p = c.args.process in
    let target = c.args.target in
    let l = GoLine p target in
    let family : ScenarioRunState → Type 0 = λ old. (run : Run) → Follows old run → IsAlone p c.max.result old.world.setup l run in
    let alone : family c.args.self.now = subst family c.self.view_is
    (λ run follows. inr (target, refl, is_away i.world p target c.in-Some.stage (sym c.is_there.ensures ∙ c.if-is_there.false) (λ events shows. sym c.in-Some.is ∙ c.stage.ensures events shows) i.flicks i.remaining run follows, omega (arith, c.max.ensures))) in
    let last : c.max.result ≡ 1 = omega (arith, c.max.ensures, c.if-floor-gt0.false) in
    let on = subst (λ reported. RunsTo g.L.RunObserver.Observes s l c.args.self.now.remaining run c.args.observer.now c.run_alone.new.observer p c.max.result c.run_alone.new.before reported mid) c.in_default-2.is (c.in_ok-reported.ensures.observed l run follows (alone run follows)) in
    let on_one = subst (λ n. ComesOn g.L.RunObserver.Observes s l c.args.self.now.remaining run c.args.observer.now c.run_alone.new.observer mid (IsAlone p n)) last on in
    let end : scenario_run mid.world mid.flicks 0 ≡ scenario_run j.world j.flicks 0 = ap (λ (c : ScenarioRunState). scenario_run c.world c.flicks 0) (sym c.self-2.view_is) in
    let at : c.run_alone.new.before ≡ 1 = c.in_ok-reported.ensures.floor c.in_default-2.is ∙ last in
    let answer = Some (reported.Tired p) in
    subst (λ n. (c.args.floor < n) × ComesTo g.L.RunObserver.Observes s l c.args.self.now.remaining run c.args.observer.now c.run_alone.new.observer n answer (scenario_run j.world j.flicks 0)) (sym at) (
      omega (arith, c.if-floor-gt0.false),
      subst (λ (new : ScenarioRunState). ComesTo g.L.RunObserver.Observes s l c.args.self.now.remaining run c.args.observer.now c.run_alone.new.observer 1 answer new) end
          (go_tires g.L.RunObserver.Observes s p target c.args.self.now.remaining run c.args.observer.now c.run_alone.new.observer mid (c.in_ok-reported.ensures.ended c.in_default-2.is ∙ last) on_one),
    )
