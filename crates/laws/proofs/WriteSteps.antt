-- A step of a process that writes a register advances the write by one access. Until its last access the process continues this write.
use Rattle.std.proofs.Common.{◌≡◌, ℕ, ◌<◌, ◌==◌, Bool, true, false, cond, List, [], ◌∷◌, Option, Some, None, refl, sym, ap, subst, ◌∙◌, arith}
use Rattle.std.proofs.lemmas.Bool.Decides.{nat_tests}
use Rattle.std.specs.Prelude.{nat_lt}
use Rattle.model.specs.{Access, Call, Entry, Event, Over, Part, Past, Reading, Refusal, Run, Writing, access_of, calls_full, enter, entry_of, is_fresh, is_over, next_written, part_after, past_of, place_after, refused, refused_at, stage, value_of, valued, write_moved}
use Rattle.model.specs.declared.events.Event.TheVariants.{Step}
use Rattle.model.specs.declared.refusals.Refusal.TheVariants.{CallsFull, NoProcess}
use Rattle.model.specs.Closings.{Withdraws, Settles, Frees, Lowers, Quit, Ended, closing_after, no_ticket}
use Rattle.model.specs.Parts as part
use Rattle.model.specs.safe_number.{new_write}
use Rattle.plain_store.specs.{Setup}
use Rattle.model.proofs.Accepted.{accepted_adds}
use Rattle.model.proofs.Width.{IsGood}
use Rattle.laws.specs.{Closes, Doing, IsLive, Lies, RegisterWrite, Rests, Runs, call, closes, does_then, doing, next_of, register_write, runs, write_at}
use Rattle.laws.proofs.Always.{inv_of}
use Rattle.laws.proofs.ClosingWrites.{some_write, written_so_far}
use Rattle.laws.proofs.Doings.{stage_of}
use Rattle.laws.proofs.FrameInside.{stage-is}
use Rattle.laws.proofs.Invariant.{Inv, Corresponds, PartCorresponds, wires}
use Rattle.laws.proofs.Notes.{Notes, notes}
use Rattle.laws.proofs.Steps.{StepIs, step_is}
use Rattle.laws.proofs.Theorems.{is_process}
use Rattle.laws.proofs.Writing.{Advanced, advances}

-- the write after its next access, with n copies of each bit
abbrev pub one_further : ℕ → RegisterWrite → RegisterWrite
one_further n w = record { field = w.field; bits = w.bits; run = write_moved n w.bits w.run }

-- whether its next access is its last one
abbrev pub ends_next : ℕ → RegisterWrite → Bool
ends_next n w = (write_moved n w.bits w.run).bit == w.run.width

-- By what a process does.

-- the next access is one of the write
next_is : (s : Setup) (p : ℕ) (d : Doing) (flick : Bool) (w : RegisterWrite) → register_write s p d ≡ Some w → next_of s p d flick ≡ Some (access_of p w.field (next_written w.bits w.run))
next_is s p Rests flick w h = cc
next_is s p Lies flick w h = cc
next_is s p (Runs command number at) flick w h = go at.part at.run h
  where
    go : (x : Part) (run : Run) → write_at (call s p command number) x run ≡ Some w → next_of s p (Runs command number (record { part = x; run = run })) flick ≡ Some (access_of p w.field (next_written w.bits w.run))
    go x (Writing y) i = ap (λ (w : RegisterWrite). Some (access_of p w.field (next_written w.bits w.run))) (some_write _ w i)
    go x (Reading bits begun) i = cc
next_is s p (Closes command number (Withdraws y)) flick w h = ap (λ (w : RegisterWrite). Some (access_of p w.field (next_written w.bits w.run))) (some_write _ w h)
next_is s p (Closes command number (Settles f k begun taken is t)) flick w h = cc
next_is s p (Closes command number (Frees is y)) flick w h = ap (λ (w : RegisterWrite). Some (access_of p w.field (next_written w.bits w.run))) (some_write _ w h)
next_is s p (Closes command number (Lowers y)) flick w h = ap (λ (w : RegisterWrite). Some (access_of p w.field (next_written w.bits w.run))) (some_write _ w h)
next_is s p (Closes command number Quit) flick w h = cc
next_is s p (Closes command number Ended) flick w h = cc

-- if a write continues, it has one more access made then
abbrev GoesOn : Setup → ℕ → Doing → RegisterWrite → Type 0
GoesOn s p d w = ends_next s.processes w ≡ false → register_write s p d ≡ Some (one_further s.processes w)

then_is : (s : Setup) (p : ℕ) (d : Doing) (flick v : Bool) (w : RegisterWrite) → IsLive d → register_write s p d ≡ Some w → GoesOn s p (does_then s p d flick v) w
then_is s p Rests flick v w live h = cc
then_is s p Lies flick v w live h = cc
then_is s p (Runs command number at) flick v w live h = go at.part at.run live h
  where
    c : Call
    c = call s p command number

    go : (x : Part) (run : Run) → is_over x ≡ false → write_at c x run ≡ Some w → GoesOn s p (runs command number (place_after c (record { part = x; run = run }) v)) w
    go x (Writing y) over i = subst (GoesOn s p (runs command number (place_after c (record { part = x; run = Writing y }) v))) (some_write _ w i) (λ more.
        ap (λ b. register_write s p (runs command number (cond b (enter c (part_after c x [])) (record { part = x; run = Writing (write_moved s.processes (part.written_at c x).1 y) })))) more
        ∙ ap (λ b. register_write s p (cond b Rests (Runs command number (record { part = x; run = Writing (write_moved s.processes (part.written_at c x).1 y) })))) over)
    go x (Reading bits begun) over i = cc
then_is s p (Closes command number (Withdraws y)) flick v w live h =
    let c : Call = call s p command number in
    subst (GoesOn s p (closes command number (closing_after c (Withdraws y) flick))) (some_write _ w h)
    (ap (λ b. register_write s p (closes command number (cond b Quit (Withdraws (write_moved s.processes (no_ticket c) y))))))
then_is s p (Closes command number (Settles f k begun taken is t)) flick v w live h = cc
then_is s p (Closes command number (Frees is y)) flick v w live h =
    let c : Call = call s p command number in
    subst (GoesOn s p (closes command number (closing_after c (Frees is y) flick))) (some_write _ w h)
    (ap (λ b. register_write s p (closes command number (cond b (Lowers (new_write 1)) (Frees is (write_moved s.processes (no_ticket c) y))))))
then_is s p (Closes command number (Lowers y)) flick v w live h =
    let c : Call = call s p command number in
    subst (GoesOn s p (closes command number (closing_after c (Lowers y) flick))) (some_write _ w h)
    (ap (λ b. register_write s p (closes command number (cond b Ended (Lowers (write_moved s.processes (false ∷ []) y))))))
then_is s p (Closes command number Quit) flick v w live h = cc
then_is s p (Closes command number Ended) flick v w live h = cc

less_is : (a b : ℕ) → a < b → nat_lt a b ≡ true
less_is a b h = grind (arith, nat_tests)

-- its stage lets it make a step
steps_at : (p : ℕ) (flick : Bool) (x : Part) (fresh : Bool) → is_over x ≡ false → refused_at (Step p flick) (part.stage_of x fresh) ≡ None
steps_at p flick Over fresh over = cc
steps_at p flick (part.Clears a) true over = refl
steps_at p flick (part.Clears a) false over = refl
steps_at p flick _ fresh over = refl

may_step : (s : Setup) (p : ℕ) (d : Doing) (flick : Bool) (w : RegisterWrite) → IsLive d → register_write s p d ≡ Some w → refused_at (Step p flick) (stage_of d) ≡ None
may_step s p Rests flick w live h = cc
may_step s p Lies flick w live h = cc
may_step s p (Runs command number at) flick w live h = steps_at p flick at.part (is_fresh at.run) live
may_step s p (Closes command number (Withdraws y)) flick w live h = refl
may_step s p (Closes command number (Settles f k begun taken is t)) flick w live h = refl
may_step s p (Closes command number (Frees is y)) flick w live h = refl
may_step s p (Closes command number (Lowers y)) flick w live h = refl
may_step s p (Closes command number Quit) flick w live h = cc
may_step s p (Closes command number Ended) flick w live h = cc

-- In every record.

live_part : (s : Setup) (p : ℕ) (n : Notes) (x : Part) (fresh : Bool) → PartCorresponds s p n x fresh → is_over x ≡ false
live_part s p n Over fresh corresponds = absurd corresponds
live_part s p n _ fresh corresponds = refl

-- a call that is run has an access to make
pub live : (s : Setup) → IsGood s → (events : List Event) (p : ℕ) → p < s.processes → IsLive (doing s p (past_of s events))
live s g events p there = go (doing s p past) refl
  where
    past : Past
    past = past_of s events

    go : (d : Doing) → doing s p past ≡ d → IsLive d
    go Rests does = tt
    go Lies does = tt
    go (Runs command number at) does =
        let inv : Inv s past = inv_of s g events in
        live_part s p (notes s p past) at.part (is_fresh at.run) (subst (Corresponds s p (notes s p past) (wires s past p)) does (inv.own p there).corresponds).1
    go (Closes command number at) does = tt

-- the result of a step of a write: an entry that advances the write by one access
pub record StepsOn (s : Setup) (events : List Event) (p : ℕ) (w : RegisterWrite) : Type 0 where
  pub advanced : Advanced s.processes w.bits w.run (wires s (past_of s (Step p false ∷ events)) p) w.field
  pub goes_on : GoesOn s p (doing s p (past_of s (Step p false ∷ events))) w

pub steps_on : (s : Setup) → IsGood s → (events : List Event) (p : ℕ) (w : RegisterWrite) → register_write s p (doing s p (past_of s events)) ≡ Some w → StepsOn s events p w
steps_on s g events p w h = record {
  advanced = subst (λ x. Advanced s.processes w.bits w.run (wires s x p) w.field) (sym grown) (advances s past p e w.field w.bits w.run false made (written_so_far s g events p w h));
  goes_on = subst (λ x. GoesOn s p (doing s p x) w) (sym grown)
      (subst (λ d. GoesOn s p d w) (sym step.does) (then_is s p (doing s p past) false (value_of (valued s past false step.next).how) w alive h));
}
  where
    past : Past
    past = past_of s events

    there : p < s.processes
    there = is_process s g events p (λ r. let f : None ≡ Some w = sym (ap (register_write s p) r) ∙ h in cc)

    alive : IsLive (doing s p past)
    alive = live s g events p there

    stage_lets : refused_at (Step p false) (stage p past) ≡ None
    stage_lets = ap (refused_at (Step p false)) (stage-is s g events p) ∙ may_step s p (doing s p past) false w alive h

    is_there : nat_lt p s.processes ≡ true
    is_there = less_is p s.processes there

    accepted : refused s past (Step p false) ≡ None
    accepted = λ i. cond (is_there i) (elim (stage_lets i) as (λ _. Option Refusal) [ Some r ↦ Some r | None ↦ cond (calls_full s past (Step p false)) (Some CallsFull) None ]) (Some NoProcess)

    adds : (e : Entry) × (entry_of s past (Step p false) ≡ Some e)
    adds = accepted_adds s g events (Step p false) accepted

    e : Entry
    e = adds.0

    grown : past_of s (Step p false ∷ events) ≡ e ∷ past
    grown = ap (λ (o : Option Entry). elim o as (λ _. Past) [ None ↦ past | Some x ↦ x ∷ past ]) adds.1

    step : StepIs s past p false e
    step = step_is s g events p false e adds.1

    some_access : (x y : Access) → Some x ≡ Some y → x ≡ y
    some_access x y i = cc

    next : step.next ≡ access_of p w.field (next_written w.bits w.run)
    next = some_access step.next (access_of p w.field (next_written w.bits w.run)) (sym step.is_next ∙ next_is s p (doing s p past) false w h)

    made : e.access ≡ Some (valued s past false (access_of p w.field (next_written w.bits w.run)))
    made = step.access ∙ ap (λ a. Some (valued s past false a)) next
