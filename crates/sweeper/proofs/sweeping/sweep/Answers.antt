use Rattle.std.proofs.Common.{◌≡◌, ℕ, ◌+◌, ◌-◌, ◌^◌, ◌≤◌, List, ◌∷◌, reverse, take, sym, subst, arith}
use Rattle.std.proofs.lemmas.List.{take_all}
use Rattle.model.specs.{Event}
use Rattle.sweeper.specs.{SweptBy, can_sweep_less}
use Rattle.sweeper.proofs.Counting.{events_more}
use Rattle.sweeper.proofs.sweeping.sweep.Goals as goal

pub loop-event-init : goal.loop-event-init
loop-event-init c = let none = c.in_ok-sweeper.ensures in record { swept = none.swept c.args.calls.now; room = none.room c.args.calls.now (omega (arith, c.if-calls-gt-MOST.false)) }

pub loop-event-preserved : goal.loop-event-preserved
loop-event-preserved c =
    let k : ℕ = c.loop-event.event-index in
    let s = c.args.setup.now in
    let had = c.loop-event.invariant in
    let more : reverse (take (k + 1) c.args.events.now) ≡ c.event-item.result ∷ reverse (take k c.args.events.now) = events_more c.args.events.now k c.event-item.result c.loop-event-test.true c.event-item.is in
    let less : 2 ^ 56 - (k + 1) + 1 ≤ 2 ^ 56 - k = omega (arith, c.loop-event-test.true, c.if-events-gt-MOST.false) in
    record {
      swept = subst (λ (before : List Event). SweptBy s c.args.calls.now before c.event.new.self) (sym more) (c.event.ensures.swept s (reverse (take k c.args.events.now)) had.swept);
      room = c.event.ensures.room (2 ^ 56 - (k + 1)) (can_sweep_less c.args.calls.now c.loop-event.sweeper (2 ^ 56 - (k + 1) + 1) (2 ^ 56 - k) less had.room);
    }

pub returns : goal.returns
returns c =
    let s = c.args.setup.now in
    let calls = c.args.calls.now in
    let before : List Event = reverse c.args.events.now in
    let swept = subst (λ (l : List Event). SweptBy s calls (reverse l) c.loop-event.sweeper) (take_all c.loop-event.event-index c.args.events.now (omega (arith, c.loop-event-test.false))) c.loop-event.invariant.swept in
    let found = c.found.ensures in
    record { swept = found.found s calls before swept; good = found.good s calls before swept; main_theorem = found.main_theorem s calls before swept; down = found.down s calls before swept }
