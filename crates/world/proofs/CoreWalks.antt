-- Steps of a process within a register access, and the core after them.
use Rattle.std.proofs.Common.{◌≡◌, ℕ, zero, suc, ◌+◌, ◌<◌, ◌≤◌, ◌&&◌, ◌||◌, Bool, true, false, cond, List, [], ◌∷◌, Some, map, refl, sym, ap, subst, ◌∙◌, arith}
use Rattle.std.specs.Prelude.{is_some, slice_get, slice_set}
use Rattle.std.proofs.lemmas.List.{get_or-set_same, length-set, set-get_or, set-set}
use Rattle.std.proofs.lemmas.Option.{get_or_from_slice_get, slice_get-get_or, slice_get_within}
use Rattle.model.specs.safe_bit.Cell.{Cell}
use Rattle.model.specs.{Access, Event, Part, Past, Raises, Taken, doorway_begin, is_fresh, is_over, past_of, process_of, value_of}
use Rattle.model.proofs.Width.{is_good}
use Rattle.laws.specs.{Closes, Doing, Lies, Rests, Runs, doing}
use Rattle.laws.proofs.DoorwayParts.{has_begun}
use Rattle.model.specs.declared.events.Event.TheVariants.{Step}
use Rattle.choices.specs.{FlickState, flick_of}
use Rattle.process.specs.declared.outcomes.EventOutcome.TheVariants.{Steps}
use Rattle.process.specs.declared.outcomes.StepOutcome.TheVariants.{Nothing}
use Rattle.process.specs.{ProcessState, answered_at, answered_next, remaining_at, newest_of, overlapped_steps, is_reported, overlaps_step, process_after, step_by, steps_of}
use Rattle.world.specs.{CoreGoes, CoreState, CoreReportsOverlapped, CoreWalks, KeepOthers, KeepsCore, Seat, StepsQuietly, core_after, is_waiting, remaining_in, pending_in, seat_after, seat_at_door, seat_of, seat_stepped, seat_with, reported, with_history}
use Rattle.world.proofs.CoreKeeps.{IsNext, next-goes, next-keeps}
use Rattle.world.proofs.CoreOverlaps.{reports-overlapped}
use Rattle.world.proofs.CoreRefused.{step-within}
use Rattle.process.proofs.Left.{remaining-fewer, remaining-quiet, remaining-stays}
use Rattle.world.proofs.WorldMainTheorem.{keeps_main_theorem}
use Rattle.world.proofs.WorldReporting.{reported-same}
use Rattle.world.proofs.QueueBegun.{begun-at}
use Rattle.world.proofs.WorldOpen.{is-seated, seat-remaining, seat-shown}

-- The number of accesses left to another process.

-- the number is as before after the seat of this process was replaced
remaining-other : (seats : List Seat) (p : ℕ) (then : Seat) → KeepOthers seats p (slice_set seats p then)
remaining-other [] p then q apart = refl
remaining-other (x ∷ seats) zero then zero apart = absurd (apart refl)
remaining-other (x ∷ seats) zero then (suc q) apart = refl
remaining-other (x ∷ seats) (suc p) then zero apart = refl
remaining-other (x ∷ seats) (suc p) then (suc q) apart = remaining-other seats p then q (λ same. apart (ap suc same))

-- the number is as before after all seats were updated
remaining-reported : (seats : List Seat) (p q : ℕ) (waited waits : Bool) → remaining_in (map (reported p waited waits) seats) q ≡ remaining_in seats q
remaining-reported [] p q waited waits = refl
remaining-reported (x ∷ seats) p zero waited waits = refl
remaining-reported (x ∷ seats) p (suc q) waited waits = remaining-reported seats p q waited waits

pub next-others : (c d new : CoreState) (what : Event) (seat : Seat) → c ≡ d → new ≡ core_after c seat what → KeepOthers d.seats (process_of what) new.seats
next-others c d new what seat view is = subst (λ (d : CoreState). KeepOthers d.seats (process_of what) new.seats) view (subst (λ (new : CoreState). KeepOthers c.seats (process_of what) new.seats) (sym is)
    (λ q apart. let then : Seat = seat_after c seat what in remaining-reported (slice_set c.seats (process_of what) then) (process_of what) q (is_waiting seat) (is_waiting then) ∙ remaining-other c.seats (process_of what) then q apart))

-- One step.

-- the core after one step
abbrev core_within : CoreState → ℕ → Seat → List (List Cell) → CoreState
core_within c p then registers = record c { registers = registers; seats = slice_set c.seats p then }

-- it is the core after any step, since no process starts to wait
within-after : (c : CoreState) (p : ℕ) (flick : Bool) (seat : Seat) → 0 < remaining_at seat.process →
    core_within c p (seat_stepped (step_by flick (seat.process, c.registers)).0 seat) (step_by flick (seat.process, c.registers)).1 ≡ core_after c seat (Step p flick)
within-after c p flick seat some = λ i. let core : CoreState = record c { registers = (step_by flick (seat.process, c.registers)).1; seats = sym seats i } in core
  where
    v : Bool
    v = value_of (answered_at seat.process c.registers flick).how

    then : Seat
    then = seat_stepped (step_by flick (seat.process, c.registers)).0 seat

    seats : map (reported p (is_waiting seat) (is_waiting then)) (slice_set c.seats p then) ≡ slice_set c.seats p then
    seats = ap (λ b. map (reported p (is_waiting seat) b) (slice_set c.seats p then)) (remaining-stays seat.process flick v some).0 ∙ reported-same p (is_waiting seat) (slice_set c.seats p then)

-- a step with the outcome `Nothing` has no mark
quietly-by : (c new : CoreState) (p : ℕ) (flick : Bool) (access : Access) → CoreGoes c (Step p flick) (Steps Nothing) (Some access) new → (taken : List Taken) → StepsQuietly (with_history c taken) p flick (with_history new taken)
quietly-by c new p flick access g taken = record {
  access = access;
  adds = g.adds taken;
  shows = g.makes.goes taken;
  main_theorem = keeps_main_theorem (with_history c taken) (with_history new taken) (Step p flick) p _ (g.adds taken) (g.makes.goes taken) g.setup;
  setup = g.setup;
}

-- a step within a register access is an event that is not refused
within-next : (c : CoreState) (p : ℕ) (flick : Bool) (seat : Seat) → slice_get c.seats p ≡ Some seat → 0 < remaining_at seat.process → IsNext c (Step p flick) seat
within-next c p flick seat there some = record { given = refl; there = there; allowed = step-within c p flick seat there some }

within-goes : (c d new : CoreState) (p : ℕ) (flick : Bool) (access : Access) (seat : Seat) → c ≡ d → slice_get c.seats p ≡ Some seat → 0 < remaining_at seat.process → access ≡ answered_at seat.process c.registers flick →
    new ≡ core_after c seat (Step p flick) → CoreGoes d (Step p flick) (Steps Nothing) (Some access) new
within-goes c d new p flick access seat view there some access_is is =
    next-goes c d new (Step p flick) (Steps Nothing) (Some access) seat view (within-next c p flick seat there some) (ap Some access_is)
    (sym (remaining-quiet seat.process flick (value_of (answered_at seat.process c.registers flick).how) some)) is

-- a seat that was stored
seat-set : (seats : List Seat) (p : ℕ) (then seat : Seat) → slice_get seats p ≡ Some seat → slice_get (slice_set seats p then) p ≡ Some then
seat-set seats p then seat is =
    let l = slice_get_within seats p seat is in
    slice_get-get_or (slice_set seats p then) p then (omega (arith, l, length-set seats p then)) ∙ ap Some (get_or-set_same seats p then then l)

seat-again : (seats : List Seat) (p : ℕ) (seat : Seat) → slice_get seats p ≡ Some seat → slice_set seats p seat ≡ seats
seat-again seats p seat is = ap (slice_set seats p) (sym (get_or_from_slice_get seats p seat seat is)) ∙ set-get_or seats p seat

-- Its doorway has begun.

unreported-begun : (x : Part) (fresh : Bool) → (fresh && is_reported x) ≡ false → has_begun x fresh ≡ true
unreported-begun Raises true h = absurd (cc)
unreported-begun Raises false h = refl
unreported-begun _ fresh h = refl

unreported : (over reported : Bool) (n : ℕ) → 0 < cond over 0 (cond reported 0 n) → reported ≡ false
unreported true reported n some = absurd (omega (arith, some))
unreported false true n some = absurd (omega (arith, some))
unreported false false n some = refl

pub remaining-begun : (c : CoreState) (p : ℕ) (seat : Seat) → KeepsCore c → slice_get c.seats p ≡ Some seat → 0 < remaining_at seat.process → seat.begun ≡ true
remaining-begun c p seat k there some = ap (λ (x : Seat). x.begun) shown ∙ by (doing c.setup p past) refl (subst (λ (x : Seat). 0 < remaining_at x.process) shown some)
  where
    past : Past
    past = past_of c.setup k.events

    shown : seat ≡ seat_of c.setup past p
    shown = seat-shown (with_history c k.taken) k.events p seat k.shows there

    by : (d : Doing) → doing c.setup p past ≡ d → 0 < remaining_at (record (process_after c.setup past p) { doing = d }) → is_some (doorway_begin p past) ≡ true
    by Rests is some = absurd (omega (arith, some))
    by Lies is some = absurd (omega (arith, some))
    by (Closes command number at) is some = absurd (omega (arith, some))
    by (Runs command number at) is some = begun-at c.setup (is_good c.setup k.shows.good) k.events p command number at is (unreported-begun at.part (is_fresh at.run) (unreported (is_over at.part) _ _ some))

-- Several steps.

-- the core after n steps
pub record HasRun (c : CoreState) (f : FlickState) (p n : ℕ) (newest : Access) (overlapped : ℕ) (new : CoreState) (g : FlickState) : Type 0 where
  pub keeps : KeepsCore new
  pub runs : CoreWalks c f p n newest overlapped new g
  pub fewer : remaining_in c.seats p ≡ remaining_in new.seats p + n
  pub others : KeepOthers c.seats p new.seats

module _ (c : CoreState) (p : ℕ) (seat : Seat) (f : FlickState) (there : slice_get c.seats p ≡ Some seat) (begun : seat.begun ≡ true) where
  -- the process, the registers and the flicks after n steps
  abbrev ran : ℕ → ProcessState × List (List Cell) × FlickState
  ran n = steps_of n (seat.process, c.registers, f)

  -- the seat: its doorway had begun
  abbrev seat_ran : ℕ → Seat
  seat_ran n = seat_with (ran n).0 seat

  abbrev pub core_ran : ℕ → CoreState
  core_ran n = core_within c p (seat_ran n) (ran n).1

  pub remaining-ran : (n : ℕ) → n ≤ remaining_at seat.process → remaining_at (ran n).0 + n ≡ remaining_at seat.process
  remaining-ran zero l = omega arith
  remaining-ran (suc n) l =
      let before = remaining-ran n (omega (arith, l)) in
      let flick = flick_of (ran n).2 in
      let fewer = remaining-fewer (ran n).0 flick (value_of (answered_at (ran n).0 (ran n).1 flick).how) (omega (arith, before, l)) in
      omega (arith, before, fewer)

  seat-more : (n : ℕ) → seat_stepped (ran (suc n)).0 (seat_ran n) ≡ seat_ran (suc n)
  seat-more n = λ i. let x : Seat = record seat { process = (ran (suc n)).0; begun = (ap (λ b. b || seat_at_door (seat_ran n)) begun ∙ sym begun) i } in x

  -- one more step
  core-more : (n : ℕ) → suc n ≤ remaining_at seat.process → core_after (core_ran n) (seat_ran n) (Step p (flick_of (ran n).2)) ≡ core_ran (suc n)
  core-more n l = sym (within-after (core_ran n) p flick (seat_ran n) some) ∙ (λ i. let core : CoreState = record c { registers = (ran (suc n)).1; seats = seats i } in core)
    where
      flick : Bool
      flick = flick_of (ran n).2

      some : 0 < remaining_at (seat_ran n).process
      some = let before = remaining-ran n (omega (arith, l)) in omega (arith, before, l)

      seats : slice_set (slice_set c.seats p (seat_ran n)) p (seat_stepped (step_by flick ((seat_ran n).process, (ran n).1)).0 (seat_ran n)) ≡ slice_set c.seats p (seat_ran (suc n))
      seats = set-set c.seats p (seat_ran n) (seat_stepped (step_by flick ((seat_ran n).process, (ran n).1)).0 (seat_ran n))
          ∙ ap (slice_set c.seats p) (seat-more n)

  core-zero : core_ran zero ≡ c
  core-zero = λ i. let core : CoreState = record c { seats = seat-again c.seats p seat there i } in core

  seat-is : (n : ℕ) → slice_get (core_ran n).seats p ≡ Some (seat_ran n)
  seat-is n = seat-set c.seats p (seat_ran n) seat there

  -- the number of accesses left after them
  remaining-core : (n : ℕ) → n ≤ remaining_at seat.process → remaining_in c.seats p ≡ remaining_in (core_ran n).seats p + n
  remaining-core n l =
      let was = seat-remaining c.seats p seat there in
      let at = seat-remaining (core_ran n).seats p (seat_ran n) (seat-is n) in
      let remaining = remaining-ran n l in
      omega (arith, was, at, remaining)

  -- each is a step without a mark
  abbrev pub IsRun : ℕ → Type 0
  IsRun n = HasRun c f p n (newest_of n (seat.process, c.registers, f)) (overlapped_steps n (seat.process, c.registers, f)) (core_ran n) (ran n).2

  run-more : (n : ℕ) → suc n ≤ remaining_at seat.process → IsRun n → IsRun (suc n)
  unfolding quietly-by
  run-more n l before = record {
    keeps = next-keeps (core_ran n) (core_ran (suc n)) (Step p flick) (seat_ran n) before.keeps (within-next (core_ran n) p flick (seat_ran n) (seat-is n) some) (sym (core-more n l));
    runs = record {
      there = slice_get_within (core_ran (suc n)).seats p (seat_ran (suc n)) (seat-is (suc n));
      walks = λ taken. (
        with_history (core_ran n) taken,
        (ran n).2,
        newest_of n (seat.process, c.registers, f),
        overlapped_steps n (seat.process, c.registers, f),
        before.runs.walks taken,
        overlaps_step (ran n),
        record { within = remaining; steps = quietly-by (core_ran n) (core_ran (suc n)) p flick access goes taken; access_is = refl; reports = reports taken },
        refl,
        refl,
      );
      pending = let was = before.runs.pending in let now = goes.pending refl in omega (arith, was, now);
    };
    fewer = remaining-core (suc n) l;
    others = remaining-other c.seats p (seat_ran (suc n));
  }
    where
      flick : Bool
      flick = flick_of (ran n).2

      remaining : 0 < remaining_in (core_ran n).seats p
      remaining = let fewer = remaining-core n (omega (arith, l)) in let was = seat-remaining c.seats p seat there in omega (arith, fewer, was, l)

      some : 0 < remaining_at (seat_ran n).process
      some = let at = seat-remaining (core_ran n).seats p (seat_ran n) (seat-is n) in omega (arith, remaining, at)

      access : Access
      access = answered_next (ran n)

      goes : CoreGoes (core_ran n) (Step p flick) (Steps Nothing) (Some access) (core_ran (suc n))
      goes = within-goes (core_ran n) (core_ran n) (core_ran (suc n)) p flick access (seat_ran n) refl (seat-is n) some refl (sym (core-more n l))

      reports : CoreReportsOverlapped (core_ran n) access (overlaps_step (ran n))
      reports = reports-overlapped (core_ran n) (core_ran n) p flick access (Steps Nothing) (overlaps_step (ran n)) (seat_ran n).process.setup refl
          (is-seated (core_ran n) before.keeps.taken before.keeps.events p (seat_ran n) before.keeps.shows (seat-is n)).setup
          refl goes.adds

  pub has-run : KeepsCore c → (n : ℕ) → n ≤ remaining_at seat.process → IsRun n
  has-run k zero l = record {
    keeps = subst KeepsCore (sym core-zero) k;
    runs = record {
      there = slice_get_within (core_ran zero).seats p (seat_ran zero) (seat-is zero);
      walks = λ taken. (ap (λ (x : CoreState). with_history x taken) core-zero, refl, refl);
      pending = let same = ap (λ (x : CoreState). pending_in x.seats) core-zero in omega (arith, same);
    };
    fewer = remaining-core zero l;
    others = remaining-other c.seats p (seat_ran zero);
  }
  has-run k (suc n) l = run-more n l (has-run k n (omega (arith, l)))
