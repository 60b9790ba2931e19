-- The number of commands that are taken or may still be taken, before and after an event.
use Rattle.std.proofs.Common.{◌≡◌, ℕ, ◌+◌, ◌≤◌, Bool, true, false, cond, List, [], ◌∷◌, ◌++◌, length, Option, None, Some, refl, ap, arith}
use Rattle.std.proofs.lemmas.List.{length-map, length_push}
use Rattle.std.proofs.lemmas.List.FromFn.{length-range_with_len}
use Rattle.plain_store.proofs.GoodSetups.{few-processes}
use Rattle.plain_store.specs.{Reply, Setup}
use Rattle.model.specs.{Entry, Event, Past, Taken, entry_of, history, is_call, past_of, processes, reply_taken}
use Rattle.world.specs.process.{EventOutcome}
use Rattle.world.specs.{CoreState, Seat, pending_in, seat_of, taking, with_history}
use Rattle.world.specs.Shows.{Shows, WorldState}
use Rattle.world.proofs.WorldPending.{pending-most}
use Rattle.sweeper.specs.{Follows, RunnerState, due}

-- there are at most 16 seats
pub few_seats : (c : CoreState) (taken : List Taken) (events : List Event) → Shows (with_history c taken) events → length c.seats ≤ 16
few_seats c taken events shows =
    let are = ap (λ (w : WorldState). length w.seats) shows.shown in
    let mapped = length-map (processes c.setup) (seat_of c.setup (past_of c.setup events)) in
    let many = length-range_with_len 0 c.setup.processes in
    let few = few-processes c.setup shows.good in
    omega (arith, are, mapped, many, few)

-- the number of commands taken is at most the number of events
few_taken : (s : Setup) (events : List Event) → length (history s (past_of s events)) ≤ length events
few_taken s [] = omega arith
few_taken s (event ∷ events) = by (entry_of s (past_of s events) event) (few_taken s events)
  where
    taken : List Taken
    taken = history s (past_of s events)

    with_one : (t : Reply → Taken) (o : Option Reply) → length taken ≤ length events → length (elim o as (λ _. List Taken) [ None ↦ taken | Some r ↦ taken ++ t r ∷ [] ]) ≤ length (event ∷ events)
    with_one t None few = omega (arith, few)
    with_one t (Some r) few = let more = length_push taken (t r) in omega (arith, few, more)

    by : (o : Option Entry) → length taken ≤ length events → length (history s (elim o as (λ _. Past) [ None ↦ past_of s events | Some e ↦ e ∷ past_of s events ])) ≤ length (event ∷ events)
    by None few = omega (arith, few)
    by (Some e) few = with_one _ (reply_taken e.marks) few

-- at most 16 commands may still be taken, so this bounds both together
pub few_due : (r : RunnerState) (events : List Event) → Follows r events → due r ≤ length events + 16
few_due r events follows =
    let taken = follows.taken in
    let few = few_taken r.core.setup events in
    let pending = pending-most r.core.seats in
    let seats = few_seats r.core (history r.core.setup (past_of r.core.setup events)) events follows.shows in
    omega (arith, taken, few, pending, seats)

-- only a call increases the number
pub few_made : (event : Event) (effect : EventOutcome) (seats new : List Seat) (taken then : ℕ) → length seats ≤ 16 → then ≡ taken + taking effect →
    (is_call event ≡ false → pending_in new + taking effect ≤ pending_in seats) → pending_in new + taking effect ≤ length seats →
    then + pending_in new ≤ taken + pending_in seats + cond (is_call event) 16 0
few_made event effect seats new taken then few is pending most = by (is_call event) pending
  where
    by : (b : Bool) → (b ≡ false → pending_in new + taking effect ≤ pending_in seats) → then + pending_in new ≤ taken + pending_in seats + cond b 16 0
    by true pending = omega (arith, is, most, few)
    by false pending = let less = pending refl in omega (arith, is, less)
