use Rattle.std.proofs.Common.{[], None, Ok, ◌∷◌, ◌≡◌, ◌≤◌, ◌<◌, ◌+◌, ◌-◌, ◌∙◌, ℕ, ap, arith, inl, inr, length, refl, set, slice_index, sym, subst, true≢false}
use Rattle.std.specs.Prelude.{not}
use Rattle.std.proofs.lemmas.Bool.{not-false, not-true}
use Rattle.scenario.specs.declared.lines.Line.TheVariants.{Step as StepLine, Wander as WanderLine}
use Rattle.world.specs.{remaining_in}
use Rattle.world.specs.choices.{FlickState, after_flick, after_pick, flicks_after, is_constant, pick_of}
use Rattle.scenario_run.specs.{ComesAlong, ComesOn, ComesTo, ScenarioRunState, Follows, IsAlone, IsCounted, LeavesRoom, Makes, Run, StopsBy, scenario_run, enabled, past_in, rest_of, turn_of, turns_drawn}
use Rattle.scenario_run.proofs.Counted.{counted_put, none_known}
use Rattle.scenario_run.proofs.Lone.{lone_run, lone_on, lone_whole, only_one}
use Rattle.scenario_run.proofs.Enabled.{none_remaining, some_remaining}
use Rattle.scenario_run.proofs.Played.{any_ok, ok_same, on_fault, wanted_by, where_err, where_ok}
use Rattle.scenario_run.proofs.Runnings.{at_once, comes_start, line_stops, room_after, room_now}
use Rattle.scenario_run.proofs.Wanders.{ArePicked, drawn_more, drawn_none, drawn_to, picks_first, wander_ends, wander_on, wander_stops, wander_to}
use Rattle.scenario_run.proofs.turns.ScenarioRun.run_random.Goals as goal
use Rattle.scenario_run.proofs.turns.ScenarioRun.run_random.Goals.{else-not-is_quiet, then-remaining-eq0-via-else-remaining-eq0+then-not-goes_on, then-remaining-eq0-via-then-remaining-eq0, then-not-is_quiet}

pub returns-then-is_empty-clause-observed : goal.returns-then-is_empty-clause-observed
returns-then-is_empty-clause-observed g c = λ steps run follows.
    let i = c.self.inside in
    let s = c.args.self.now.world.setup in
    let ps = c.as_slice-among.result.now in
    let l = WanderLine steps in
    let new = scenario_run i.world i.flicks 0 in
    let remaining = ap (λ (old : ScenarioRunState). old.remaining) c.self.view_is in
    let family : ScenarioRunState → Type 0 = λ old. (run : Run) → Follows old run → ps ≡ enabled old.world.setup (past_in old.world.setup run) → Makes old run (turn_of old.world.setup l old.remaining run) None new in
    inr (subst (λ n. (c.args.floor < n) × ComesTo g.L.RunObserver.Observes s l c.args.self.now.remaining run c.args.observer.now c.args.observer.now n None new) (sym remaining) (
      c.requires.floor,
      at_once g.L.RunObserver.Observes l run c.args.self.now new c.args.observer.now None (g.met.L.RunObserver.observes_nothing c.args.observer.now s run.happened)
          (subst family c.self.view_is (wander_ends i.world i.flicks i.remaining steps ps (none_remaining ps (sym c.is_empty.ensures ∙ c.if-is_empty.true))) run follows (c.as_slice-among.ensures ∙ c.enabled-enabled.ensures.enabled run follows)),
    ))

-- only one process has a Step to make
pub returns-then-is_constant-clause-observed : goal.returns-then-is_constant-clause-observed
returns-then-is_constant-clause-observed g c = λ steps run follows.
    let i = c.self.inside in
    let j = c.self-then-is_constant.inside in
    let old = c.args.self.now in
    let ps = c.as_slice-among.result.now in
    let p = slice_index ps 0 in
    let mid : ScenarioRunState = c.run_alone.new.self in
    let reported = c.in_ok-reported.reported in
    let before = c.run_alone.new.before in
    let constant = ap is_constant (sym follows.flicks ∙ ap (λ (old : ScenarioRunState). old.flicks) (sym c.self.view_is)) ∙ sym c.is_constant.ensures ∙ c.if-is_constant.true in
    let lone = sym (c.as_slice-among.ensures ∙ c.enabled-enabled.ensures.enabled run follows) ∙ only_one ps (omega (arith, c.if-among-eq1.true)) in
    let taken : scenario_run j.world c.skip_picks.new.self j.remaining ≡ lone_run old.remaining mid = (λ k. scenario_run j.world (c.skip_picks.ensures k) j.remaining) ∙ (λ k. lone_run (c.self.view_is k).remaining (c.self-then-is_constant.view_is k)) in
    subst (λ (new : ScenarioRunState). ComesAlong g.L.RunObserver.Observes old.world.setup (WanderLine steps) old.remaining run c.args.observer.now c.run_alone.new.observer c.args.floor before reported new) (sym taken)
    (lone_whole g.L.RunObserver.Observes old.world.setup 0 steps p old.remaining run c.args.observer.now c.run_alone.new.observer mid constant lone c.args.floor before reported c.in_ok-reported.ensures.ended c.in_ok-reported.ensures.floor
    (c.in_ok-reported.ensures.observed (StepLine p 0) run follows (inl (0, refl))))

pub returns-in_err-reported-clause-cut : goal.returns-in_err-reported-clause-cut
returns-in_err-reported-clause-cut g c =
    let Stops = g.L.RunObserver.Stops in
    let old = c.args.self.now in
    let ps = c.as_slice-among.result.now in
    let p = slice_index ps 0 in
    let mid : ScenarioRunState = c.run_alone.new.self in
    let fault = c.in_err-reported.field-0.0 in
    on_fault c.from_residual.result fault (λ fault. (steps : ℕ) (run : Run) → Follows old run → old.remaining ≤ steps → Stops c.args.observer.now old.world.setup run.happened (rest_of old.world.setup (WanderLine steps) old.remaining run).happened fault c.run_alone.new.observer) c.from_residual.ensures.1
    (λ steps run follows few.
    let constant = ap is_constant (sym follows.flicks ∙ ap (λ (old : ScenarioRunState). old.flicks) (sym c.self.view_is)) ∙ sym c.is_constant.ensures ∙ c.if-is_constant.true in
    let lone = sym (c.as_slice-among.ensures ∙ c.enabled-enabled.ensures.enabled run follows) ∙ only_one ps (omega (arith, c.if-among-eq1.true)) in
    line_stops Stops old.world.setup (WanderLine steps) old.remaining run c.args.observer.now c.run_alone.new.observer fault (lone_run old.remaining mid) (ArePicked (p ∷ [])) g.met.L.RunObserver.stops_before
    (lone_on (StopsBy Stops fault) old.world.setup 0 steps p old.remaining run c.args.observer.now c.run_alone.new.observer mid constant lone (IsAlone p c.args.floor)
    (c.in_err-reported.ensures.cut (StepLine p 0) run follows (inl (0, refl)))) few)

pub steps-init : goal.steps-init
steps-init g c =
    let i = c.self.inside in
    let ps = c.as_slice-among.result.now in
    let floor : ℕ = c.args.floor in
    let remaining = ap (λ (old : ScenarioRunState). old.remaining) c.self.view_is in
    let flicks = ap (λ (old : ScenarioRunState). old.flicks) c.self.view_is in
    let all : i.remaining ≡ floor + (i.remaining - floor) = omega (arith, remaining, c.requires.floor) in
    let none : drawn_to c.args.self.now (floor + (i.remaining - floor)) ≡ i.flicks = drawn_none c.args.self.now i.flicks (floor + (i.remaining - floor)) flicks (sym all ∙ remaining) in
    record {
      on = λ steps run follows. subst (λ n. ComesOn g.L.RunObserver.Observes c.args.self.now.world.setup (WanderLine steps) c.args.self.now.remaining run c.args.observer.now c.args.observer.now (scenario_run i.world (drawn_to c.args.self.now (floor + (i.remaining - floor))) n) (ArePicked ps)) all
          (subst (λ (f : FlickState). ComesOn g.L.RunObserver.Observes c.args.self.now.world.setup (WanderLine steps) c.args.self.now.remaining run c.args.observer.now c.args.observer.now (scenario_run i.world f i.remaining) (ArePicked ps)) (sym none) (comes_start g.L.RunObserver.Observes (WanderLine steps) run c.args.self.now (scenario_run i.world i.flicks i.remaining) c.args.observer.now (ArePicked ps) (g.met.L.RunObserver.observes_nothing c.args.observer.now c.args.self.now.world.setup run.happened) c.self.view_is follows (c.as_slice-among.ensures ∙ c.enabled-enabled.ensures.enabled run follows)));
      same = flicks;
      none = refl;
      kept = record { are = c.self.invariant.are; few = c.self.invariant.few };
      more = omega (arith, remaining, c.requires.floor);
      remaining = omega (arith, remaining, c.requires.floor);
      process = let count : c.new-count.result ≡ length ps = omega (arith, c.new-count.ensures, c.enabled-enabled.ensures.bounded, ap length c.as_slice-among.ensures) in ap (slice_index ps) (c.pick.ensures.index ∙ (λ k. pick_of (count k) ((c.twin-ahead.ensures ∙ sym none) k)));
      below = omega arith;
      ahead = c.pick.ensures.after ∙ ap after_pick (c.twin-ahead.ensures ∙ sym none);
      counted = none_known i.world.seats;
      room = λ more room. g.met.L.RunObserver.room_less c.args.observer.now (more + (floor + (i.remaining - floor))) (more + c.args.self.now.remaining) (omega (arith, remaining, all)) room;
    }

pub turn_step-is_quiet-requires-clause-room : goal.turn_step-is_quiet-requires-clause-room
turn_step-is_quiet-requires-clause-room g c = room_now g.L.RunObserver.HasRoom g.met.L.RunObserver.room_less c.args.observer.now c.steps.observer c.args.self.now.remaining (c.args.floor + c.steps.remaining) c.steps.invariant.room 1 (omega (arith, c.steps.invariant.more)) c.requires.room

pub turn_step-is_quiet-requires-clause-known : goal.turn_step-is_quiet-requires-clause-known
turn_step-is_quiet-requires-clause-known g c =
    let inv = c.steps.invariant in
    let known = inv.counted.known c.steps.next inv.below in
    subst (λ at. slice_index c.steps.within at ≤ remaining_in c.steps.self-inside.world.seats c.steps.next + 1) (sym c.from.ensures) (omega (arith, known))

pub steps-preserved : goal.steps-preserved
steps-preserved g c =
    let laws = g.met.L.RunObserver in
    let i = c.steps.self-inside in
    let inv = c.steps.invariant in
    let one = c.turn_step-is_quiet in
    let old = c.args.self.now in
    let ps = c.as_slice-among.result.now in
    let some = some_remaining ps (sym c.is_empty.ensures ∙ c.if-is_empty.false) in
    let floor : ℕ = c.args.floor in
    let remaining : ℕ = floor + c.steps.remaining in
    let more : 0 < remaining = omega (arith, inv.more) in
    let less : remaining - 1 ≡ floor + (c.steps.remaining - 1) = omega (arith, inv.more) in
    let none : one.new.outcome ≡ Ok None = elim c.if-not-is_quiet.branch [
      | then-not-is_quiet w ↦ w.goes_on.ensures.none (not-false w.goes_on.result (sym w.value-is ∙ c.if-not-goes_on.false))
      | else-not-is_quiet w ↦ one.ensures.quiet w.if-not-is_quiet.false
    ] in
    let same : c.flick.new.self ≡ drawn_to old (floor + (c.steps.remaining - 1)) = c.flick.ensures.after ∙ ap after_flick inv.ahead ∙ sym (drawn_more old remaining more inv.remaining) ∙ ap (drawn_to old) less in
    let apart = c.if-remaining-eq0.false in
    record {
      on = λ steps run follows. subst (λ n. ComesOn g.L.RunObserver.Observes old.world.setup (WanderLine steps) old.remaining run c.args.observer.now one.new.observer (scenario_run one.new.world (drawn_to old n) n) (ArePicked ps)) less
          (wander_on g.L.RunObserver.Observes laws.observes_on old steps remaining c.steps.next ps run c.args.observer.now c.steps.observer one.new.observer i.world one.new.world c.twin-source.result more inv.remaining some inv.process (c.twin-source.ensures ∙ inv.ahead) (inv.on steps run follows) (rw none at one.ensures.observed));
      same = inv.same;
      none = none;
      kept = record { are = inv.kept.are ∙ ap (λ s. s.processes) (sym one.ensures.setup); few = inv.kept.few };
      more = omega (arith, inv.more, apart);
      remaining = omega (arith, inv.more, inv.remaining);
      process = let count : c.new-count.result ≡ length ps = omega (arith, c.new-count.ensures, c.enabled-enabled.ensures.bounded, ap length c.as_slice-among.ensures) in ap (slice_index ps) (c.pick-in-steps.ensures.index ∙ (λ k. pick_of (count k) (same k)));
      below = omega arith;
      ahead = c.pick-in-steps.ensures.after ∙ ap after_pick same;
      counted = subst (λ at. IsCounted (set c.steps.within at one.new.known) one.new.world.seats) (sym c.from.ensures) (counted_put c.steps.within c.steps.next one.new.known i.world.seats one.new.world.seats inv.counted one.ensures.nonzero (omega (arith, one.ensures.known)) one.ensures.others);
      room = subst (λ n. LeavesRoom g.L.RunObserver.HasRoom c.args.observer.now old.remaining one.new.observer n None) less (room_after g.L.RunObserver.HasRoom laws.room_less c.args.observer.now c.steps.observer old.remaining remaining inv.room one.new.observer None more (rw none at one.ensures.room));
    }

pub returns-then-remaining-eq0-clause-remaining : goal.returns-then-remaining-eq0-clause-remaining
returns-then-remaining-eq0-clause-remaining g c = wanted_by c.turn_step-is_quiet.new.outcome (c.args.floor + (c.steps.remaining - 1)) c.left_before.result c.left_before.ensures.none c.left_before.ensures.reported

pub returns-then-remaining-eq0-clause-fewer : goal.returns-then-remaining-eq0-clause-fewer
returns-then-remaining-eq0-clause-fewer g c = any_ok c.turn_step-is_quiet.new.outcome (c.left_before.result ≤ c.args.self.now.remaining) (omega (arith, c.left_before.ensures.fewer, c.steps.invariant.more, c.steps.invariant.remaining))

pub returns-then-remaining-eq0-clause-observed : goal.returns-then-remaining-eq0-clause-observed
returns-then-remaining-eq0-clause-observed g c =
    let laws = g.met.L.RunObserver in
    let i = c.steps.self-inside in
    let inv = c.steps.invariant in
    let one = c.turn_step-is_quiet in
    let old = c.args.self.now in
    let ps = c.as_slice-among.result.now in
    let some = some_remaining ps (sym c.is_empty.ensures ∙ c.if-is_empty.false) in
    let floor : ℕ = c.args.floor in
    let remaining : ℕ = floor + c.steps.remaining in
    let before : ℕ = c.left_before.result in
    let more : 0 < remaining = omega (arith, inv.more) in
    let above : floor < remaining = omega (arith, inv.more) in
    let less : remaining - 1 ≡ floor + (c.steps.remaining - 1) = omega (arith, inv.more) in
    let all = ap (λ (old : ScenarioRunState). old.remaining) c.self.view_is in
    let turns : ℕ = c.self.inside.remaining - floor - (c.steps.remaining - 1) in
    let made : turns ≡ old.remaining - (remaining - 1) = omega (arith, all, inv.more, inv.remaining) in
    let drawn : c.skip.new.self ≡ drawn_to old (remaining - 1) = c.skip.ensures ∙ ap (flicks_after turns) c.skip_picks-then-remaining-eq0.ensures ∙ picks_first turns i.flicks ∙ (λ k. turns_drawn (made k) (inv.same k)) in
    let last : one.new.outcome ≡ Ok None → c.steps.remaining - 1 ≡ 0 = λ none. elim c.then-remaining-eq0.branch [
      | then-remaining-eq0-via-then-remaining-eq0 w ↦ w.if-remaining-eq0.true
      | then-remaining-eq0-via-else-remaining-eq0+then-not-goes_on w ↦ elim w.if-not-is_quiet.branch [
        | then-not-is_quiet w' ↦ absurd (w'.goes_on.ensures.outcome (not-true w'.goes_on.result (sym w'.value-is ∙ w.if-not-goes_on.true)) none)
        | else-not-is_quiet w' ↦ absurd (true≢false (sym w.if-not-goes_on.true ∙ w'.value-is ∙ ap not w'.if-not-is_quiet.false))
      ]
    ] in
    where_ok one.new.outcome _ (λ reported. (steps : ℕ) (run : Run) → Follows old run → ComesAlong g.L.RunObserver.Observes old.world.setup (WanderLine steps) old.remaining run c.args.observer.now one.new.observer floor before reported (scenario_run one.new.world c.skip.new.self (floor + (c.steps.remaining - 1)))) one.ensures.observed (λ reported is makes steps run follows.
    subst (λ n. ComesAlong g.L.RunObserver.Observes old.world.setup (WanderLine steps) old.remaining run c.args.observer.now one.new.observer floor before reported (scenario_run one.new.world c.skip.new.self n)) less
    (wander_to g.L.RunObserver.Observes laws.observes_on old steps remaining c.steps.next ps run c.args.observer.now c.steps.observer one.new.observer i.world one.new.world c.twin-source.result more inv.remaining some inv.process (c.twin-source.ensures ∙ inv.ahead) (inv.on steps run follows)
    laws.observes_nothing floor before reported c.skip.new.self above makes
    (λ none. let ended = last (is ∙ ap Ok none) in let at = c.left_before.ensures.none (is ∙ ap Ok none) in (omega (arith, ended, less), omega (arith, at, ended)))
    (λ reports. let at = c.left_before.ensures.reported (λ none. reports (ok_same reported None (sym is ∙ none))) in omega (arith, at, inv.more)) drawn))

pub returns-then-remaining-eq0-clause-room : goal.returns-then-remaining-eq0-clause-room
returns-then-remaining-eq0-clause-room g c =
    let one = c.turn_step-is_quiet in
    let remaining : ℕ = c.args.floor + c.steps.remaining in
    let more : 0 < remaining = omega (arith, c.steps.invariant.more) in
    let less : remaining - 1 ≡ c.args.floor + (c.steps.remaining - 1) = omega (arith, c.steps.invariant.more) in
    where_ok one.new.outcome _ _ one.ensures.room (λ reported is leaves. subst (λ n. LeavesRoom g.L.RunObserver.HasRoom c.args.observer.now c.args.self.now.remaining one.new.observer n reported) less
    (room_after g.L.RunObserver.HasRoom g.met.L.RunObserver.room_less c.args.observer.now c.steps.observer c.args.self.now.remaining remaining c.steps.invariant.room one.new.observer reported more leaves))

pub returns-then-remaining-eq0-clause-cut : goal.returns-then-remaining-eq0-clause-cut
returns-then-remaining-eq0-clause-cut g c =
    let laws = g.met.L.RunObserver in
    let Stops = g.L.RunObserver.Stops in
    let old = c.args.self.now in
    let i = c.steps.self-inside in
    let inv = c.steps.invariant in
    let one = c.turn_step-is_quiet in
    let ps = c.as_slice-among.result.now in
    let some = some_remaining ps (sym c.is_empty.ensures ∙ c.if-is_empty.false) in
    let remaining : ℕ = c.args.floor + c.steps.remaining in
    let more : 0 < remaining = omega (arith, inv.more) in
    where_err one.new.outcome _ (λ fault. (steps : ℕ) (run : Run) → Follows old run → old.remaining ≤ steps → Stops c.args.observer.now old.world.setup run.happened (rest_of old.world.setup (WanderLine steps) old.remaining run).happened fault one.new.observer) one.ensures.cut
    (λ fault stops steps run follows within. wander_stops g.L.RunObserver.Observes laws.observes_on old steps remaining c.steps.next ps run c.args.observer.now c.steps.observer one.new.observer i.world one.new.world c.twin-source.result more inv.remaining some inv.process (c.twin-source.ensures ∙ inv.ahead) (inv.on steps run follows)
    Stops laws.stops_on laws.stops_before fault stops within)
