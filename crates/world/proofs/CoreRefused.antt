-- Why an event is refused, by the seat of its process.
use Rattle.std.proofs.lemmas.Option.{slice_get_within}
use Rattle.std.proofs.Common.{◌≡◌, ℕ, ◌<◌, ◌≤◌, ◌==◌, ◌&&◌, Bool, true, false, cond, List, Option, Some, None, refl, sym, ap, subst, ◌∙◌, arith}
use Rattle.std.proofs.lemmas.Bool.Decides.{nat_tests}
use Rattle.std.specs.Prelude.{nat_le, nat_lt, slice_get}
use Rattle.plain_store.specs.{Setup}
use Rattle.model.specs.{Event, Past, Refusal, Taken, calls_full, calls_in, is_call, own, past_of, process_of, refused, refused_at, stage}
use Rattle.model.specs.declared.events.Event.TheVariants.{Step}
use Rattle.model.specs.declared.refusals.Refusal.TheVariants.{NoProcess, NotRunning, CallsFull}
use Rattle.model.proofs.Width.{is_good}
use Rattle.process.specs.{is_full, remaining_at, may_step, refusal_of, stage_doing}
use Rattle.world.specs.{CoreRefuses, CoreState, Seat, seat_of, with_history}
use Rattle.world.specs.Shows.{Shows}
use Rattle.world.proofs.WorldOpen.{many-seats, seat-shown, seatless}
use Rattle.world.proofs.WorldStages.{remaining-may, stage-process, step-refused}

refused-by : (s : Setup) (past : Past) (what : Event) (b : Bool) (r : Option Refusal) (f : Bool) → nat_lt (process_of what) s.processes ≡ b → refused_at what (stage (process_of what) past) ≡ r → calls_full s past what ≡ f →
    refused s past what ≡ cond b (elim r as (λ _. Option Refusal) [ Some x ↦ Some x | None ↦ cond f (Some CallsFull) None ]) (Some NoProcess)
refused-by s past what b r f i j k = λ n. cond (i n) (elim (j n) as (λ _. Option Refusal) [ Some x ↦ Some x | None ↦ cond (k n) (Some CallsFull) None ]) (Some NoProcess)

pub is-above : (p n : ℕ) → n ≤ p → nat_lt p n ≡ false
is-above p n h = grind (arith, nat_tests)

pub is-below : (p n : ℕ) → p < n → nat_lt p n ≡ true
is-below p n h = grind (arith, nat_tests)

-- the case of a process that does not exist
pub refused-beyond : (c : CoreState) (what : Event) → slice_get c.seats (process_of what) ≡ None → CoreRefuses c what (Some NoProcess)
refused-beyond c what none taken events shows =
    let past : Past = past_of c.setup events in
    let above = is-above (process_of what) c.setup.processes (seatless (with_history c taken) events (process_of what) shows none) in
    refused-by c.setup past what false (refused_at what (stage (process_of what) past)) (calls_full c.setup past what) above refl refl

-- the case of a process that exists, with one history
module _ (c : CoreState) (taken : List Taken) (events : List Event) (what : Event) (seat : Seat) (shows : Shows (with_history c taken) events) (there : slice_get c.seats (process_of what) ≡ Some seat) where
  abbrev s : Setup
  s = c.setup

  abbrev past : Past
  past = past_of s events

  abbrev p : ℕ
  p = process_of what

  seat_is : seat ≡ seat_of s past p
  seat_is = seat-shown (with_history c taken) events p seat shows there

  pub below-is : nat_lt p s.processes ≡ true
  below-is = let many = many-seats (with_history c taken) events shows in let l = slice_get_within c.seats p seat there in is-below p s.processes (omega (arith, many, l))

  pub stage-reported : stage_doing seat.process.doing ≡ stage p past
  stage-reported = ap (λ (x : Seat). stage_doing x.process.doing) seat_is ∙ stage-process s (is_good s shows.good) events p

  pub full-is : is_full seat.process.setup seat.process.number what ≡ calls_full s past what
  full-is = ap (λ (x : Seat). is_full x.process.setup x.process.number what) seat_is ∙ by (is_call what) (s.version == 2)
    where
      by : (b v : Bool) → (b && v && nat_le 65535 (cond v (calls_in (own p past)) 0)) ≡ (b && v && nat_le 65535 (calls_in (own p past)))
      by true true = refl
      by true false = refl
      by false v = refl

  reported-refused : refused s past what ≡ refusal_of seat.process what
  reported-refused = refused-by s past what true (refused_at what (stage_doing seat.process.doing)) (is_full seat.process.setup seat.process.number what) below-is (ap (refused_at what) (sym stage-reported)) (sym full-is)

-- an event is refused for the reason that its process gives
pub refused-reported : (c : CoreState) (what : Event) (seat : Seat) → slice_get c.seats (process_of what) ≡ Some seat → CoreRefuses c what (refusal_of seat.process what)
refused-reported c what seat there taken events shows = reported-refused c taken events what seat shows there

-- a step is refused unless the process has one to make
pub refused-step : (c : CoreState) (p : ℕ) (flick : Bool) (seat : Seat) → slice_get c.seats p ≡ Some seat → CoreRefuses c (Step p flick) (cond (may_step seat.process.doing) None (Some NotRunning))
refused-step c p flick seat there taken events shows =
    let s : Setup = c.setup in
    let past : Past = past_of s events in
    refused-by s past (Step p flick) true (cond (may_step seat.process.doing) None (Some NotRunning)) false (below-is c taken events (Step p flick) seat shows there)
    (step-refused s (is_good s shows.good) events p flick ∙ ap (λ (x : Seat). cond (may_step x.process.doing) None (Some NotRunning)) (sym (seat-shown (with_history c taken) events p seat shows there))) refl
    ∙ by (may_step seat.process.doing)
  where
    by : (b : Bool) → (elim (cond b None (Some NotRunning)) as (λ _. Option Refusal) [ Some x ↦ Some x | None ↦ None ]) ≡ cond b None (Some NotRunning)
    by true = refl
    by false = refl

-- within a register access a step is not refused
pub step-within : (c : CoreState) (p : ℕ) (flick : Bool) (seat : Seat) → slice_get c.seats p ≡ Some seat → 0 < remaining_at seat.process → CoreRefuses c (Step p flick) None
step-within c p flick seat there some = subst (λ b. CoreRefuses c (Step p flick) (cond b None (Some NotRunning))) (remaining-may seat.process some) (refused-step c p flick seat there)
