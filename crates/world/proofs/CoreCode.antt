-- The core that a method leaves is the core after its event.
use Rattle.std.proofs.Common.{◌≡◌, ◌++◌, ℕ, ◌<◌, ◌≤◌, Bool, true, List, Option, None, Some, length, map, take, refl, sym, ap, subst, ◌∙◌, arith}
use Rattle.std.proofs.lemmas.List.{length-set}
use Rattle.std.proofs.lemmas.Option.{slice_get_within}
use Rattle.std.specs.Prelude.{slice_get, slice_index_or, slice_set}
use Rattle.model.specs.safe_bit.Cell.{Cell}
use Rattle.model.specs.{Access, Event, is_call, process_of}
use Rattle.model.specs.declared.events.Event.TheVariants as event
use Rattle.process.specs.{EventOutcome, ProcessState, remaining_at, marks_of, newest_of, overlapped_steps, refusal_of, steps_of}
use Rattle.world.specs.{CoreGoes, CoreState, KeepOthers, KeepsCore, Seat, access_made, core_after, is_waiting, remaining_in, marks_made, registers_made, seat_after, seat_made, seat_with, reported, waiting_in}
use Rattle.world.proofs.CoreKeeps.{IsNext, next-goes, next-keeps}
use Rattle.world.proofs.CoreRefused.{refused-reported}
use Rattle.choices.specs.{FlickState}
use Rattle.world.proofs.CoreWalks.{HasRun, has-run, remaining-begun, next-others}
use Rattle.world.proofs.WorldOpen.{IsSeated, is-seated, seat-indexed, seat-remaining, seat-there}
use Rattle.world.proofs.WorldReporting.{reported-back}

-- a process that exists, by its seat
pub seated : (c : CoreState) (p : ℕ) (seat : Seat) → KeepsCore c → slice_get c.seats p ≡ Some seat → IsSeated c p seat
seated c p seat k there = is-seated c k.taken k.events p seat k.shows there

-- a process with n accesses left in its register access
pub record IsLeft (c : CoreState) (p n : ℕ) (seat : Seat) : Type 0 where
  pub there : slice_get c.seats p ≡ Some seat
  pub within : n ≤ remaining_at seat.process

pub remaining-there : (c d : CoreState) (p n : ℕ) → c ≡ d → 0 < n → n ≤ remaining_in d.seats p → p < length c.seats
remaining-there c d p n view some within = let found = seat-there c.seats p (omega (arith, ap (λ (x : CoreState). remaining_in x.seats p) view, some, within)) in slice_get_within c.seats p found.0 found.1

pub is-remaining : (c d : CoreState) (p i n : ℕ) (seat : Seat) → c ≡ d → 0 < n → n ≤ remaining_in d.seats p → i ≡ p → seat ≡ slice_index_or c.seats i seat → IsLeft c p n seat
is-remaining c d p i n seat view some within index at = record {
  there = there;
  within = let same = seat-remaining c.seats p seat there in let remaining = ap (λ (x : CoreState). remaining_in x.seats p) view in omega (arith, within, same, remaining);
}
  where
    there : slice_get c.seats p ≡ Some seat
    there = let l = remaining-there c d p n view some within in seat-indexed c.seats i p seat index (omega (arith, l, index)) at

-- its process does not refuse an event that the core does not
pub not-refused : (c : CoreState) (what : Event) (seat : Seat) → KeepsCore c → IsNext c what seat → refusal_of seat.process what ≡ None
not-refused c what seat k n = sym (refused-reported c what seat n.there k.taken k.events k.shows) ∙ n.allowed k.taken k.events k.shows

-- its seat, given which processes wait before a call
pub seat-made : (c : CoreState) (seat : Seat) (what : Event) (before : List Bool) → (is_call what ≡ true → before ≡ waiting_in c.seats) → seat_made c.registers before seat what ≡ seat_after c seat what
seat-made c seat (event.Call p command) before h = ap (λ before. seat_made c.registers before seat (event.Call p command)) (h refl)
seat-made c seat (event.Step p flick) before h = refl
seat-made c seat (event.Fail p) before h = refl
seat-made c seat (event.Withdraw p) before h = refl
seat-made c seat (event.Restart p) before h = refl

-- After an event the core keeps its invariant and shows the event.
pub record HasMade (d : CoreState) (what : Event) (effect : EventOutcome) (access : Option Access) (new : CoreState) : Type 0 where
  pub keeps : KeepsCore new
  pub goes : CoreGoes d what effect access new
  pub others : KeepOthers d.seats (process_of what) new.seats

-- The new seat was stored, and all seats were updated.
pub made-code : (c d : CoreState) (what : Event) (effect : EventOutcome) (access : Option Access) (seat then : Seat) (registers : List (List Cell)) (was new rest : List Seat) (waited waits : Bool) (i p n : ℕ) →
    KeepsCore c → c ≡ d → IsNext c what seat → i ≡ p → p ≡ process_of what → length c.seats ≡ n →
    then ≡ seat_after c seat what → registers ≡ registers_made c.registers seat what → access ≡ access_made c.registers seat what → marks_of effect ≡ marks_made c.registers seat what →
    waited ≡ is_waiting seat → waits ≡ is_waiting then → was ≡ slice_set c.seats i then → new ≡ map (reported p waited waits) was →
    HasMade d what effect access (record c { registers = registers; seats = take n (new ++ rest) })
made-code c d what effect access seat then registers was new rest waited waits i p n k view next index own many then_is registers_is access_is marks was_waiting waits_now put observed = record {
  keeps = next-keeps c remaining what seat k next is;
  goes = next-goes c d remaining what effect access seat view next access_is marks is;
  others = next-others c d remaining what seat view is;
}
  where
    remaining : CoreState
    remaining = record c { registers = registers; seats = take n (new ++ rest) }

    seats : take n (new ++ rest) ≡ map (reported p waited waits) (slice_set c.seats i then)
    seats = reported-back (reported p waited waits) n new was (slice_set c.seats i then) rest observed put (length-set c.seats i then ∙ many)

    is : remaining ≡ core_after c seat what
    is = λ k. let core : CoreState = record c {
      registers = registers_is k;
      seats = (seats ∙ (λ m. map (reported (own m) (was_waiting m) ((waits_now ∙ ap is_waiting then_is) m)) (slice_set c.seats ((index ∙ own) m) (then_is m)))) k;
    } in core

-- Several steps within a register access, which the process has made.
pub run-code : (c d : CoreState) (p i : ℕ) (seat : Seat) (process : ProcessState) (registers : List (List Cell)) (f g : FlickState) (n : ℕ) (newest : Access) (overlapped : ℕ) → KeepsCore c → c ≡ d → IsLeft c p n seat → 0 < n → i ≡ p →
    (let now : ProcessState × List (List Cell) × FlickState = (process, registers, g) in now ≡ steps_of n (seat.process, c.registers, f)) → newest ≡ newest_of n (seat.process, c.registers, f) → overlapped ≡ overlapped_steps n (seat.process, c.registers, f) →
    HasRun d f p n newest overlapped (record c { registers = registers; seats = slice_set c.seats i (seat_with process seat) }) g
run-code c d p i seat process registers f g n newest overlapped k view remaining some index is newest_is count =
    subst (λ (x : CoreState × Access × ℕ × CoreState × FlickState). HasRun x.0 f p n x.1 x.2 x.3 x.4)
    (λ j. (view j, sym newest_is j, sym count j, (let new : CoreState = record c { registers = (sym is j).1; seats = slice_set c.seats (sym index j) (seat_with (sym is j).0 seat) } in new), (sym is j).2))
    (has-run c p seat f remaining.there (remaining-begun c p seat k remaining.there (let within = remaining.within in omega (arith, some, within))) k n remaining.within)
