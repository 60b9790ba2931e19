-- The progress of each write of a register, including writes of a withdrawal or of a memory unit: all copies before its place are done.
use Rattle.std.proofs.Common.{◌≡◌, ℕ, ◌<◌, Bool, true, false, cond, List, [], ◌∷◌, Option, Some, None, refl, sym, ap, subst, ◌∙◌, arith, inl, inr}
use Rattle.std.proofs.lemmas.Bool.{cases_eq}
use Rattle.std.specs.Prelude.{option_map}
use Rattle.model.specs.{Access, Call, Entry, Event, Next, Part, Past, Place, Reading, Run, Writing, entry_of, last_write, own, past-induction, past_of, place_after, unfinished, value_of, valued, write_moved}
use Rattle.model.specs.declared.access.Field.TheVariants.{Choosing, Ticket}
use Rattle.model.specs.safe_number.{new_write}
use Rattle.plain_store.specs.{Command, Setup}
use Rattle.model.specs.Closings.{Closing, Withdraws, Settles, Frees, Lowers, Quit, Ended, closing_next, closing_after, freeing, settling_from, is_last_settled, is_last_written, no_ticket}
use Rattle.model.specs.reader_copies.Runs as copies
use Rattle.model.proofs.safe_number.Bits.{length-bits_of_number}
use Rattle.model.proofs.Width.{IsGood}
use Rattle.laws.specs.{Closes, Doing, Lies, Rests, RegisterWrite, Runs, call, closes, doing, register_write, write_at}
use Rattle.laws.proofs.Always.{inv_of}
use Rattle.laws.proofs.Frame.{Happens, a_call, a_withdrawal, a_failure, a_restart, a_step, a_closing, doing-other}
use Rattle.laws.proofs.FrameEvents.{accepted}
use Rattle.laws.proofs.FrameSteps.{entry-by}
use Rattle.laws.proofs.FrameWires.{wires-others}
use Rattle.laws.proofs.Invariant.{Inv, Corresponds, RunCorresponds, Wires, Written, wires}
use Rattle.laws.proofs.Notes.{notes}
use Rattle.laws.proofs.Ready.{unwritten}
use Rattle.laws.proofs.Theorems.{is_process}
use Rattle.laws.proofs.Writing.{Advanced, advances}

-- The writes of closings.

-- the progress of the write of a closing
abbrev ClosingWritten : Setup → ℕ → Wires → Doing → Type 0
ClosingWritten s p m (Closes command number (Withdraws w)) = Written s.processes (no_ticket (call s p command number)) w m Ticket
ClosingWritten s p m (Closes command number (Frees is w)) = Written s.processes (no_ticket (call s p command number)) w m Ticket
ClosingWritten s p m (Closes command number (Lowers w)) = Written s.processes (false ∷ []) w m Choosing
ClosingWritten s p m _ = Unit {0}

-- nothing is made of the clearing of a ticket
new_ticket : (s : Setup) → IsGood s → (p : ℕ) (command : Command) (number : ℕ) (m : Wires) → Written s.processes (no_ticket (call s p command number)) (new_write s.ticket_bits) m Ticket
new_ticket s g p command number m =
    unwritten s.processes (no_ticket (call s p command number)) s.ticket_bits m Ticket (omega (arith, g.processes_is)) (sym (length-bits_of_number s.ticket_bits 0)) (omega (arith, g.ticket_is))

-- nothing is made of the lowering of `Choosing`
new_choosing : (s : Setup) → IsGood s → (m : Wires) → Written s.processes (false ∷ []) (new_write 1) m Choosing
new_choosing s g m = unwritten s.processes (false ∷ []) 1 m Choosing (omega (arith, g.processes_is)) refl (omega arith)

-- a call has no write of a closing
runs_written : (s : Setup) (p : ℕ) (m : Wires) (command : Command) (number : ℕ) (at : Place) (over : Bool) → ClosingWritten s p m (cond over Rests (Runs command number at))
runs_written s p m command number at true = tt
runs_written s p m command number at false = tt

-- a unit begins with a settling, or with a clearing of which nothing is made
cut_written : (s : Setup) → IsGood s → (p : ℕ) (command : Command) (number : ℕ) (mine : Past) (m : Wires) (torn : Option Access) →
    ClosingWritten s p m (Closes command number (settling_from (call s p command number) mine torn))
cut_written s g p command number mine m None = new_ticket s g p command number m
cut_written s g p command number mine m (Some a) = tt

-- a step of a closing
closing_written : (s : Setup) → IsGood s → (past : Past) (e : Entry) (p : ℕ) (command : Command) (number : ℕ) (at : Closing) (flick : Bool) →
    e.access ≡ option_map (λ (n : Next). valued s past flick n.access) (closing_next (call s p command number) at flick) → ClosingWritten s p (wires s past p) (Closes command number at) →
    ClosingWritten s p (wires s (e ∷ past) p) (closes command number (closing_after (call s p command number) at flick))
closing_written s g past e p command number (Withdraws w) flick h was = go (is_last_written c (no_ticket c) w) refl
  where
    c : Call
    c = call s p command number

    advanced : Advanced s.processes (no_ticket c) w (wires s (e ∷ past) p) Ticket
    advanced = advances s past p e Ticket (no_ticket c) w flick h was

    go : (last : Bool) → is_last_written c (no_ticket c) w ≡ last → ClosingWritten s p (wires s (e ∷ past) p) (closes command number (cond last Quit (Withdraws (write_moved s.processes (no_ticket c) w))))
    go true i = tt
    go false i = advanced.on i
closing_written s g past e p command number (Settles f k begun taken is t) flick h was = go (is_last_settled c t (copies.settled_at t flick))
  where
    c : Call
    c = call s p command number

    go : (last : Bool) → ClosingWritten s p (wires s (e ∷ past) p) (closes command number (cond last (freeing c is) (Settles f k begun taken is (copies.settle_after t (copies.settled_at t flick)))))
    go true = new_ticket s g p command number (wires s (e ∷ past) p)
    go false = tt
closing_written s g past e p command number (Frees is w) flick h was = go (is_last_written c (no_ticket c) w) refl
  where
    c : Call
    c = call s p command number

    advanced : Advanced s.processes (no_ticket c) w (wires s (e ∷ past) p) Ticket
    advanced = advances s past p e Ticket (no_ticket c) w flick h was

    go : (last : Bool) → is_last_written c (no_ticket c) w ≡ last →
        ClosingWritten s p (wires s (e ∷ past) p) (closes command number (cond last (Lowers (new_write 1)) (Frees is (write_moved s.processes (no_ticket c) w))))
    go true i = new_choosing s g (wires s (e ∷ past) p)
    go false i = advanced.on i
closing_written s g past e p command number (Lowers w) flick h was = go (is_last_written c (false ∷ []) w) refl
  where
    c : Call
    c = call s p command number

    advanced : Advanced s.processes (false ∷ []) w (wires s (e ∷ past) p) Choosing
    advanced = advances s past p e Choosing (false ∷ []) w flick h was

    go : (last : Bool) → is_last_written c (false ∷ []) w ≡ last → ClosingWritten s p (wires s (e ∷ past) p) (closes command number (cond last Ended (Lowers (write_moved s.processes (false ∷ []) w))))
    go true i = tt
    go false i = advanced.on i
closing_written s g past e p command number Quit flick h was = tt
closing_written s g past e p command number Ended flick h was = tt

-- an accepted event
happens_written : (s : Setup) → IsGood s → (past : Past) (p : ℕ) (e : Entry) (d d' : Doing) → Happens s past p e d d' → ClosingWritten s p (wires s past p) d → ClosingWritten s p (wires s (e ∷ past) p) d'
happens_written s g past p e d d' (a_call command number was none marks goes) before = subst (ClosingWritten s p (wires s (e ∷ past) p)) (sym goes) tt
happens_written s g past p e d d' (a_withdrawal command number t w ws run was none marks goes) before =
    subst (ClosingWritten s p (wires s (e ∷ past) p)) (sym goes) (new_ticket s g p command number (wires s (e ∷ past) p))
happens_written s g past p e d d' (a_failure command number may none marks goes) before =
    subst (ClosingWritten s p (wires s (e ∷ past) p)) (sym goes) (cut_written s g p command number (own p past) (wires s (e ∷ past) p) (unfinished s.processes (last_write (own p past))))
happens_written s g past p e d d' (a_restart was none marks goes) before = subst (ClosingWritten s p (wires s (e ∷ past) p)) (sym goes) tt
happens_written s g past p e d d' (a_step command number at a flick was over access is marks goes) before =
    subst (ClosingWritten s p (wires s (e ∷ past) p)) (sym goes)
    (runs_written s p (wires s (e ∷ past) p) command number (place_after (call s p command number) at (value_of a.how)) _)
happens_written s g past p e d d' (a_closing command number at flick n was next access same marks goes) before =
    subst (ClosingWritten s p (wires s (e ∷ past) p)) (sym goes)
    (closing_written s g past e p command number at flick (access ∙ ap Some (sym same) ∙ ap (option_map (λ (n : Next). valued s past flick n.access)) (sym next))
    (subst (ClosingWritten s p (wires s past p)) was before))

abbrev Each : Setup → Past → Type 0
Each s past = IsGood s → (p : ℕ) → ClosingWritten s p (wires s past p) (doing s p past)

closings_written : (s : Setup) (events : List Event) → Each s (past_of s events)
closings_written s = past-induction Each s (λ g p. tt) more
  where
    more : (events : List Event) (what : Event) (e : Entry) → entry_of s (past_of s events) what ≡ Some e → Each s (past_of s events) → Each s (e ∷ past_of s events)
    more events what e h was g p = elim (cases_eq e.process p) [
      | inl is ↦ subst (λ q. ClosingWritten s q (wires s (e ∷ past) q) (doing s q (e ∷ past))) is
          (happens_written s g past e.process e (doing s e.process past) (doing s e.process (e ∷ past)) (accepted s g events what e h).happens (was g e.process))
      | inr ne ↦ subst (λ m. ClosingWritten s p m (doing s p (e ∷ past))) (sym (wires-others s past e e.process p (entry-by s g events what e h) (λ o. ne (sym o))))
          (subst (ClosingWritten s p (wires s past p)) (sym (doing-other s p e past ne)) (was g p))
    ]
      where
        past : Past
        past = past_of s events

-- All writes.

pub some_write : (x y : RegisterWrite) → Some x ≡ Some y → x ≡ y
some_write x y h = cc

-- the progress of a write
abbrev pub WrittenSoFar : Setup → Wires → RegisterWrite → Type 0
WrittenSoFar s m w = Written s.processes w.bits w.run m w.field

run_written : (c : Call) (m : Wires) (part : Part) (run : Run) (w : RegisterWrite) → RunCorresponds c m part run → write_at c part run ≡ Some w → WrittenSoFar c.setup m w
run_written c m part (Writing x) w corresponds h = subst (WrittenSoFar c.setup m) (some_write _ w h) corresponds.1
run_written c m part (Reading bits begun) w corresponds h = cc

-- in every record: the progress of the write that a process, or its memory unit, makes
pub written_so_far : (s : Setup) → IsGood s → (events : List Event) (p : ℕ) (w : RegisterWrite) → register_write s p (doing s p (past_of s events)) ≡ Some w → WrittenSoFar s (wires s (past_of s events) p) w
written_so_far s g events p w h = go (doing s p past) refl h
  where
    past : Past
    past = past_of s events

    m : Wires
    m = wires s past p

    there : p < s.processes
    there = is_process s g events p (λ r. let f : None ≡ Some w = sym (ap (register_write s p) r) ∙ h in cc)

    closing : (command : Command) (number : ℕ) (at : Closing) → ClosingWritten s p m (Closes command number at) → register_write s p (Closes command number at) ≡ Some w → WrittenSoFar s m w
    closing command number (Withdraws x) corresponds i = subst (WrittenSoFar s m) (some_write _ w i) corresponds
    closing command number (Settles f k begun taken is t) corresponds i = cc
    closing command number (Frees is x) corresponds i = subst (WrittenSoFar s m) (some_write _ w i) corresponds
    closing command number (Lowers x) corresponds i = subst (WrittenSoFar s m) (some_write _ w i) corresponds
    closing command number Quit corresponds i = cc
    closing command number Ended corresponds i = cc

    go : (d : Doing) → doing s p past ≡ d → register_write s p d ≡ Some w → WrittenSoFar s m w
    go Rests does i = cc
    go Lies does i = cc
    go (Runs command number at) does i =
        let inv : Inv s past = inv_of s g events in
        run_written (call s p command number) m at.part at.run w (subst (Corresponds s p (notes s p past) m) does (inv.own p there).corresponds).0 i
    go (Closes command number at) does i = closing command number at (subst (ClosingWritten s p m) does (closings_written s events g p)) i
