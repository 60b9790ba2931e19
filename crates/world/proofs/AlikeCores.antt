-- Cores that behave alike do so after each event too.
use Rattle.std.proofs.Common.{◌≡◌, ℕ, ◌<◌, Bool, List, ◌∷◌, Option, None, Some, Ok, map, refl, set, sym, subst, ap, ◌∙◌, arith}
use Rattle.std.specs.Prelude.{slice_get}
use Rattle.plain_store.specs.{Setup, checked}
use Rattle.model.specs.{Access, Entry, Event, Field, Past, ended, entry_of, past_of, process_of, processes, refused, value_of}
use Rattle.model.specs.declared.events.Event.TheVariants.{Call, Step, Fail, Withdraw, Restart}
use Rattle.model.specs.safe_bit.Cell.{Cell, MayMove, read_answer}
use Rattle.model.proofs.Width.{is_good}
use Rattle.laws.specs.{IsThere, cell_held, reads_of}
use Rattle.laws.proofs.HeldThere.{access_there}
use Rattle.laws.proofs.HeldTurns.{comes_in_turn}
use Rattle.process.specs.{ProcessState, answered_at, dropped, next_at, process_after, stepped}
use Rattle.process.specs.registers.{AreAlikeMemories, applied, cell_at, lane_number, lane_of_access, without_reads}
use Rattle.process.specs.registers.reader_copies.{without_unused_flag}
use Rattle.process.proofs.Memories.{with-cell}
use Rattle.world.specs.{AreAlikeCores, CoreState, Seat, core_after, is_waiting, registers_made, reported, seat_made, seat_of, seat_stepped, waiting_in}
use Rattle.world.proofs.CoreGoes.{core-goes, entry_made, made}
use Rattle.world.proofs.WorldLists.{get-mapped}
use Rattle.world.proofs.WorldOpen.{core_of, is-allowed}
use Rattle.world.proofs.WorldRegisters.{registers_at}
use Rattle.world.proofs.WorldShows.{past-after}
use Rattle.world.proofs.AlikeMemories.{alike_after, alike_cell, alike_dropped, alike_ended}

-- after a process has dropped its open read
alike_without : (now : ProcessState) (memory other : List (List Cell)) → AreAlikeMemories memory other → AreAlikeMemories (dropped now memory) (dropped now other)
alike_without now memory other alike = by (reads_of now.setup now.process now.doing)
  where
    by : (o : Option (ℕ × Field)) → AreAlikeMemories
        (elim o as (λ _. List (List Cell)) [ None ↦ memory | Some register ↦ without_reads memory (lane_number now.setup.processes (record { owner = register.0; field = register.1 }) now.process) ])
        (elim o as (λ _. List (List Cell)) [ None ↦ other | Some register ↦ without_reads other (lane_number now.setup.processes (record { owner = register.0; field = register.1 }) now.process) ])
    by None = alike
    by (Some register) = alike_dropped memory other alike (lane_number now.setup.processes (record { owner = register.0; field = register.1 }) now.process)

-- an event that is not refused, on the registers of its past and on others that behave alike
module _ (s : Setup) (good : checked s ≡ Ok tt) (x : List Event) (other : List (List Cell)) (alike : AreAlikeMemories (registers_at s (past_of s x)) other) where
  -- a step makes the same access: a read that it ends is open, so its flag is equal in both
  same_access : (p : ℕ) (flick : Bool) → refused s (past_of s x) (Step p flick) ≡ None → answered_at (process_after s (past_of s x) p) (registers_at s (past_of s x)) flick ≡ answered_at (process_after s (past_of s x) p) other flick
  same_access p flick allowed = λ i. record next { how = same i }
    where
      past : Past
      past = past_of s x

      next : Access
      next = next_at (process_after s past p) flick

      a : Access
      a = answered_at (process_after s past p) (registers_at s past) flick

      e : Entry
      e = entry_made s past (Step p flick)

      is : entry_of s past (Step p flick) ≡ Some e
      is = made s good x (Step p flick) allowed

      there : IsThere s a
      there = access_there s (is_good s good) x (Step p flick) e is a refl

      turn : MayMove (cell_at (registers_at s past) (lane_of_access s.processes a) a.bit) a.how
      turn = subst (λ (c : Cell). MayMove c a.how) (sym (with-cell (cell_held s past) s a (λ a how. refl) there)) (comes_in_turn s (is_good s good) x (Step p flick) e is a refl)

      c : Cell
      c = cell_at (registers_at s past) (lane_of_access s.processes next) next.bit

      d : Cell
      d = cell_at other (lane_of_access s.processes next) next.bit

      same : ended (read_answer c flick) next.how ≡ ended (read_answer d flick) next.how
      same = alike_ended c d flick next.how (alike_cell (registers_at s past) other alike (lane_of_access s.processes next) next.bit) turn

  -- the seat of the process is the same, and the registers behave alike
  same_made : (before : List Bool) (what : Event) → refused s (past_of s x) what ≡ None → let seat : Seat = seat_of s (past_of s x) (process_of what) in
      seat_made (registers_at s (past_of s x)) before seat what ≡ seat_made other before seat what
  same_made before (Call p command) allowed = refl
  same_made before (Step p flick) allowed =
      let seat : Seat = seat_of s (past_of s x) p in
      ap (λ (a : Access). seat_stepped (stepped seat.process flick (value_of a.how)) seat) (same_access p flick allowed)
  same_made before (Fail p) allowed = refl
  same_made before (Withdraw p) allowed = refl
  same_made before (Restart p) allowed = refl

  alike_made : (what : Event) → refused s (past_of s x) what ≡ None → let seat : Seat = seat_of s (past_of s x) (process_of what) in
      AreAlikeMemories (registers_made (registers_at s (past_of s x)) seat what) (registers_made other seat what)
  alike_made (Call p command) allowed = alike
  alike_made (Step p flick) allowed =
      let a : Access = answered_at (process_after s (past_of s x) p) (registers_at s (past_of s x)) flick in
      alike_after (registers_at s (past_of s x)) other alike (lane_of_access s.processes a) a.bit a.how
      ∙ ap (λ (a : Access). map (map without_unused_flag) (applied s.processes other a)) (same_access p flick allowed)
  alike_made (Fail p) allowed = alike_without (process_after s (past_of s x) p) (registers_at s (past_of s x)) other alike
  alike_made (Withdraw p) allowed = alike_without (process_after s (past_of s x) p) (registers_at s (past_of s x)) other alike
  alike_made (Restart p) allowed = alike

-- the core after an event that is not refused
core_then : (s : Setup) → checked s ≡ Ok tt → (x : List Event) (what : Event) → refused s (past_of s x) what ≡ None → core_of s (past_of s (what ∷ x)) ≡ core_after (core_of s (past_of s x)) (seat_of s (past_of s x) (process_of what)) what
core_then s good x what allowed = ap (core_of s) (past-after s x what (entry_made s (past_of s x) what) (made s good x what allowed)) ∙ sym (core-goes s good x what allowed)

-- the seat of a process that exists
pub same_seat : (s : Setup) (x y : Past) → map (seat_of s x) (processes s) ≡ map (seat_of s y) (processes s) → (p : ℕ) → p < s.processes → seat_of s x p ≡ seat_of s y p
same_seat s x y same p below =
    let both : Some (seat_of s x p) ≡ Some (seat_of s y p) = sym (get-mapped (seat_of s x) 0 s.processes p p below (omega arith)) ∙ ap (λ (seats : List Seat). slice_get seats p) same ∙ get-mapped (seat_of s y) 0 s.processes p p below (omega arith) in
    cc

-- after an event that both accept
pub alike-goes : (s : Setup) → checked s ≡ Ok tt → (x y : List Event) (what : Event) → refused s (past_of s x) what ≡ None → refused s (past_of s y) what ≡ None → AreAlikeCores (core_of s (past_of s x)) (core_of s (past_of s y)) →
    AreAlikeCores (core_of s (past_of s (what ∷ x))) (core_of s (past_of s (what ∷ y)))
alike-goes s good x y what allowed allowed_too alike = subst (λ (c : CoreState). AreAlikeCores c (core_of s (past_of s (what ∷ y)))) (sym (core_then s good x what allowed))
    (subst (AreAlikeCores (core_after (core_of s (past_of s x)) (seat_of s (past_of s x) (process_of what)) what)) (sym (core_then s good y what allowed_too)) both)
  where
    p : ℕ
    p = process_of what

    one : CoreState
    one = core_of s (past_of s x)

    two : CoreState
    two = core_of s (past_of s y)

    seat : seat_of s (past_of s x) p ≡ seat_of s (past_of s y) p
    seat = same_seat s (past_of s x) (past_of s y) alike.seats p (is-allowed s (past_of s x) what allowed).below

    then : seat_made one.registers (waiting_in one.seats) (seat_of s (past_of s x) p) what ≡ seat_made two.registers (waiting_in two.seats) (seat_of s (past_of s y) p) what
    then = same_made s good x two.registers alike.registers (waiting_in one.seats) what allowed ∙ (λ i. seat_made two.registers (waiting_in (alike.seats i)) (seat i) what)

    both : AreAlikeCores (core_after one (seat_of s (past_of s x) p) what) (core_after two (seat_of s (past_of s y) p) what)
    both = record {
      setup = refl;
      registers = alike_made s good x two.registers alike.registers what allowed ∙ ap (λ (seat : Seat). map (map without_unused_flag) (registers_made two.registers seat what)) seat;
      seats = λ i. map (reported p (is_waiting (seat i)) (is_waiting (then i))) (set (alike.seats i) p (then i));
    }
