-- Every accepted event of every record is a step.
use Rattle.std.proofs.Common.{◌≡◌, ◌≢◌, ℕ, ◌<◌, ◌≤◌, ◌==◌, ◌%◌, ◌&&◌, Bool, true, false, cond, List, [], ◌∷◌, Option, Some, None, refl, sym, ap, subst, ◌∙◌, arith, true≢false, eqb-true, eq-eqb}
use Rattle.std.specs.Prelude.{is_none}
use Rattle.model.specs.safe_bit.{Move, is_of_write, read_value}
use Rattle.model.specs.safe_bit.declared.Move.TheVariants.{BeginWrite, EndWrite, BeginRead, EndRead, Settle}
use Rattle.model.specs.reader_copies.Runs as copies
use Rattle.model.specs.{Access, Call, Entry, Event, Field, Next, Part, Past, Raises, Reading, Run, Wait, Waits, Writing, access_at, bit_written, ended, ended_with, entry_of, inside, is_called, is_fresh, last_read, last_write, made_with, moves_of, opening_bit, own, past-induction, past_of, process_of, read_so_far, since, unfinished, value_begun, value_of, valued, written_at}
use Rattle.model.specs.declared.access.Field.TheVariants.{Ticket}
use Rattle.model.specs.safe_number.{NumberWrite}
use Rattle.plain_store.specs.{Command, Setup}
use Rattle.model.specs.Closings.{Closing, Withdraws, Settles, Frees, Lowers, Quit, Ended, no_ticket, is_unwritten, freeing, settling_from, failing, closing_next, reply_with}
use Rattle.model.proofs.PlaceTurns.{access_in}
use Rattle.model.proofs.Turns.{and_false}
use Rattle.model.proofs.Width.{IsGood}
use Rattle.model.proofs.Opens.{last-none}
use Rattle.model.proofs.CutRecords.{inside-own}
use Rattle.laws.specs.{Doing, Rests, Lies, Runs, Closes, call, doing, is_inside, is_inside_at}
use Rattle.laws.proofs.Doings.{IsCut, Step, calls, withdraws, fails, restarts, steps, closes_on}
use Rattle.laws.proofs.Doings as doings
use Rattle.laws.proofs.Frame.{may_fail, Happens, a_call, a_withdrawal, a_failure, a_restart, a_step, a_closing, doing-other, own-own, own-other}
use Rattle.laws.proofs.FrameCells.{ByProcess, EntryBy, marks_only, makes}
use Rattle.laws.proofs.FrameCuts.{remaining, LeftBy, nothing, one_bit, LeftRun, LeftIn, last-made, enter-remaining, new-ticket, unit-remaining, step-remaining, closing-remaining}
use Rattle.laws.proofs.FrameEvents.{Accepted, accepted}
use Rattle.laws.proofs.FrameInside.{inside-is}

-- The unfinished access after an access.

ended-write : (v : Bool) (m : Move) → is_of_write m ≡ true → ended v m ≡ m
ended-write v (BeginWrite b) h = refl
ended-write v EndWrite h = refl
ended-write v (Settle b) h = refl
ended-write v BeginRead h = cc
ended-write v (EndRead b) h = cc

pub is_of_write-ended : (v : Bool) (m : Move) → is_of_write (ended v m) ≡ is_of_write m
is_of_write-ended v (BeginWrite b) = refl
is_of_write-ended v _ = refl

-- an access of a write does not depend on the cell
pub valued-write : (s : Setup) (past : Past) (flick : Bool) (x : Access) → is_of_write x.how ≡ true → valued s past flick x ≡ x
valued-write s past flick x h = λ i. record { owner = x.owner; field = x.field; bit = x.bit; reader = x.reader; how = ended-write (read_value (opening_bit s x) (moves_of x past) flick) x.how h i }

made-write : (e : Entry) (mine : Past) (x : Access) → e.access ≡ Some x → is_of_write x.how ≡ true → last_write (e ∷ mine) ≡ Some x
made-write e mine x h w = last-made e mine x h ∙ ap (λ b. cond b (Some x) (last_write mine)) w

made-read : (e : Entry) (mine : Past) (x : Access) → e.access ≡ Some x → is_of_write x.how ≡ false → last_write (e ∷ mine) ≡ last_write mine
made-read e mine x h w = last-made e mine x h ∙ ap (λ b. cond b (Some x) (last_write mine)) w

waits-remaining : (c : Call) (torn : Option Access) (t : ℕ) (w : Wait) (ws : List Wait) (run : Run) → LeftRun c torn (Waits t w ws) run → torn ≡ None
waits-remaining c torn t w ws (Writing q) l = let f : true ≡ false = l.0 in cc
waits-remaining c torn t w ws (Reading bits begun) l = l.1

remaining-happens : (s : Setup) → IsGood s → (past : Past) (p : ℕ) (e : Entry) (d d' : Doing) → Happens s past p e d d' → LeftIn s p (remaining s (own p past)) d → LeftIn s p (remaining s (e ∷ own p past)) d'
remaining-happens s g past p e d d' (a_call command number was none marks then) l =
    subst (LeftIn s p (remaining s (e ∷ own p past))) (sym then) (enter-remaining (call s p command number) g (remaining s (e ∷ own p past)) Raises refl (ap (unfinished s.processes) (last-none e (own p past) none) ∙ subst (LeftIn s p (remaining s (own p past))) was l))
remaining-happens s g past p e d d' (a_withdrawal command number t w ws run was none marks then) l =
    subst (LeftIn s p (remaining s (e ∷ own p past))) (sym then) (
      new-ticket (call s p command number) g,
      nothing (ap (unfinished s.processes) (last-none e (own p past) none) ∙ waits-remaining (call s p command number) (remaining s (own p past)) t w ws run (subst (LeftIn s p (remaining s (own p past))) was l)),
    )
remaining-happens s g past p e d d' (a_failure command number may none marks then) l =
    subst (LeftIn s p (remaining s (e ∷ own p past))) (sym then) (unit-remaining (call s p command number) g (own p past) (remaining s (own p past)) (remaining s (e ∷ own p past)))
remaining-happens s g past p e d d' (a_restart was none marks then) l =
    subst (LeftIn s p (remaining s (e ∷ own p past))) (sym then) (ap (unfinished s.processes) (last-none e (own p past) none) ∙ subst (LeftIn s p (remaining s (own p past))) was l)
remaining-happens s g past p e d d' (a_step command number at a flick was over access is marks then) l =
    subst (LeftIn s p (remaining s (e ∷ own p past))) (sym then)
    (step-remaining s g p (remaining s (own p past)) (remaining s (e ∷ own p past)) command number at.part at.run (value_of a.how) over (subst (LeftIn s p (remaining s (own p past))) was l) writes reads)
  where
    x : Access
    x = access_at (call s p command number) at.part at.run

    writes : is_of_write x.how ≡ true → remaining s (e ∷ own p past) ≡ unfinished s.processes (Some x)
    writes w = ap (unfinished s.processes) (made-write e (own p past) x (access ∙ ap Some (is ∙ valued-write s past flick x w)) w)

    reads : is_of_write x.how ≡ false → remaining s (e ∷ own p past) ≡ remaining s (own p past)
    reads w = ap (unfinished s.processes) (made-read e (own p past) a access (ap (λ (b : Access). is_of_write b.how) is ∙ is_of_write-ended (read_value (opening_bit s x) (moves_of x past) flick) x.how ∙ w))
remaining-happens s g past p e d d' (a_closing command number at flick n was next access same marks then) l =
    subst (LeftIn s p (remaining s (e ∷ own p past))) (sym then)
    (closing-remaining s g p (remaining s (own p past)) (remaining s (e ∷ own p past)) command number at flick n (subst (LeftIn s p (remaining s (own p past))) was l) next (λ w. ap (unfinished s.processes) (made-write e (own p past) n.access access w)))

abbrev LeftAll : Setup → Past → Type 0
LeftAll s past = IsGood s → (p : ℕ) → LeftIn s p (remaining s (own p past)) (doing s p past)

-- in every record the unfinished access of a process is that of its state
pub remaining-is : (s : Setup) → IsGood s → (events : List Event) (p : ℕ) → LeftIn s p (remaining s (own p (past_of s events))) (doing s p (past_of s events))
remaining-is s g events p = past-induction LeftAll s (λ g p. refl) more events g p
  where
    more : (events : List Event) (what : Event) (e : Entry) → entry_of s (past_of s events) what ≡ Some e → LeftAll s (past_of s events) → LeftAll s (e ∷ past_of s events)
    more events what e h ih g p = go (e.process == p) refl
      where
        past : Past
        past = past_of s events

        acc : Accepted s past what e
        acc = accepted s g events what e h

        go : (b : Bool) → (e.process == p) ≡ b → LeftIn s p (remaining s (own p (e ∷ past))) (doing s p (e ∷ past))
        go true i = subst (λ q. LeftIn s q (remaining s (own q (e ∷ past))) (doing s q (e ∷ past))) (eqb-true e.process p i)
            (subst (λ mine. LeftIn s e.process (remaining s mine) (doing s e.process (e ∷ past))) (sym (own-own e.process e past refl))
            (remaining-happens s g past e.process e (doing s e.process past) (doing s e.process (e ∷ past)) acc.happens (ih g e.process)))
        go false i =
            let other : e.process ≢ p = λ u. true≢false (sym (eq-eqb e.process p u) ∙ i) in
            subst (LeftIn s p (remaining s (own p (e ∷ past)))) (sym (doing-other s p e past other))
            (subst (λ mine. LeftIn s p (remaining s mine) (doing s p past)) (sym (own-other p e past other)) (ih g p))

-- The beginning of a unit.

-- the remaining settling of the bit of an access
abbrev torn_settling : Access → copies.Settling
torn_settling a = record { made = made_with a; reader = 0; begun = false; value = None }

begins-clear : (c : Call) (mine : Past) (torn : Option Access) (was : Bool) → torn ≡ None → inside c.process mine ≡ was → settling_from c mine torn ≡ freeing c was
begins-clear c mine torn was h i = ap (settling_from c mine) h ∙ ap (freeing c) i

unfresh : (w : NumberWrite) → is_none w.run ≡ false → is_unwritten w ≡ false
unfresh w h = ap (λ b. (w.bit == 0) && b) h ∙ and_false (w.bit == 0)

-- the unit settles the bit of an access
unit-settles : (c : Call) (mine : Past) (torn : Option Access) (a : Access) (f : Field) (was : Bool) → torn ≡ Some a → a.field ≡ f → inside c.process mine ≡ was →
    settling_from c mine torn ≡ Settles f a.bit (value_begun mine) (reply_with c f (last_read (read_so_far c.setup (since is_called mine)).finished)) was (torn_settling a)
unit-settles c mine torn a f was h k i = ap (settling_from c mine) h
    ∙ (λ j. Settles (k j) a.bit (value_begun mine) (reply_with c (k j) (last_read (read_so_far c.setup (since is_called mine)).finished)) (i j) (torn_settling a))

cut-run : (s : Setup) (p : ℕ) (c : Call) (mine : Past) (torn : Option Access) (command : Command) (number : ℕ) (x : Part) (run : Run) → inside c.process mine ≡ is_inside_at x (is_fresh run) →
    LeftRun (call s p command number) torn x run → IsCut s p c (settling_from c mine torn) (Runs command number (record { part = x; run = run }))
cut-run s p c mine torn command number x (Reading bits begun) i l = doings.between command number _ (begins-clear c mine torn (is_inside_at x (is_fresh (Reading bits begun))) l.1 i)
cut-run s p c mine torn command number x (Writing w) i l = go l.2
  where
    go : LeftBy torn (written_at (call s p command number) x).0 w → IsCut s p c (settling_from c mine torn) (Runs command number (record { part = x; run = Writing w }))
    go (nothing h) = doings.between command number (record { part = x; run = Writing w }) (begins-clear c mine torn (is_inside_at x (is_fresh (Writing w))) h i)
    go (one_bit a h f r) = doings.within command number (record { part = x; run = Writing w }) a.bit (value_begun mine) _ (torn_settling a)
        (unit-settles c mine torn a (written_at (call s p command number) x).0 (is_inside_at x (is_fresh (Writing w))) h f i) l.0 (unfresh w r)

cut-withdrawal : (s : Setup) (p : ℕ) (c : Call) (mine : Past) (torn : Option Access) (command : Command) (number : ℕ) (w : NumberWrite) → inside c.process mine ≡ false → LeftBy torn Ticket w →
    IsCut s p c (settling_from c mine torn) (Closes command number (Withdraws w))
cut-withdrawal s p c mine torn command number w i (nothing h) = doings.leaving command number w (begins-clear c mine torn false h i)
cut-withdrawal s p c mine torn command number w i (one_bit a h f r) = doings.clearing command number w a.bit (value_begun mine) (torn_settling a) (unit-settles c mine torn a Ticket false h f i) (unfresh w r)

cut-is : (s : Setup) (p : ℕ) (c : Call) (mine : Past) (torn : Option Access) (d : Doing) → may_fail d ≡ true → inside c.process mine ≡ is_inside d → LeftIn s p torn d → IsCut s p c (settling_from c mine torn) d
cut-is s p c mine torn Rests may i l = doings.at_rest (begins-clear c mine torn false l i)
cut-is s p c mine torn Lies may i l = cc
cut-is s p c mine torn (Runs command number at) may i l = cut-run s p c mine torn command number at.part at.run i l
cut-is s p c mine torn (Closes command number (Withdraws w)) may i l = cut-withdrawal s p c mine torn command number w i l.1
cut-is s p c mine torn _ may i l = cc

step-from : (s : Setup) (past : Past) (p : ℕ) (e : Entry) (d d' : Doing) → Happens s past p e d d' → inside p past ≡ is_inside d → LeftIn s p (remaining s (own p past)) d → Step s past p e d d'
step-from s past p e d d' (a_call command number was none marks then) i l = calls command number was none then
step-from s past p e d d' (a_withdrawal command number t w ws run was none marks then) i l = withdraws command number t w ws run was none then
step-from s past p e d d' (a_failure command number may none marks then) i l =
    fails command number (failing (call s p command number) (own p past)) (cut-is s p (call s p command number) (own p past) (remaining s (own p past)) d may (inside-own p past ∙ i) l) none then
step-from s past p e d d' (a_restart was none marks then) i l = restarts was none then
step-from s past p e d d' (a_step command number at a flick was over access is marks then) i l = steps command number at a flick was over access is then
step-from s past p e d d' (a_closing command number at flick n was next access same marks then) i l = closes_on command number at flick n was next (access ∙ ap Some (sym same)) then

-- Every accepted event is of a process that exists, and is a step of it.
pub step_of : (s : Setup) → IsGood s → (events : List Event) (what : Event) (e : Entry) → entry_of s (past_of s events) what ≡ Some e →
    (e.process ≡ process_of what) × (e.process < s.processes) × Step s (past_of s events) e.process e (doing s e.process (past_of s events)) (doing s e.process (e ∷ past_of s events))
step_of s g events what e h =
    let past : Past = past_of s events in
    let acc : Accepted s past what e = accepted s g events what e h in
    (acc.process, acc.below, step-from s past e.process e (doing s e.process past) (doing s e.process (e ∷ past)) acc.happens (inside-is s g events e.process) (remaining-is s g events e.process))

-- a process that does not exist rests
abbrev AboveAll : Setup → Past → Type 0
AboveAll s past = IsGood s → (p : ℕ) → s.processes ≤ p → doing s p past ≡ Rests

pub doing-above : (s : Setup) → IsGood s → (events : List Event) (p : ℕ) → s.processes ≤ p → doing s p (past_of s events) ≡ Rests
doing-above s g events p l = past-induction AboveAll s (λ g p l. refl) more events g p l
  where
    more : (events : List Event) (what : Event) (e : Entry) → entry_of s (past_of s events) what ≡ Some e → AboveAll s (past_of s events) → AboveAll s (e ∷ past_of s events)
    more events what e h ih g p l =
        let below : e.process < s.processes = (accepted s g events what e h).below in
        doing-other s p e (past_of s events) (λ u. omega (arith, u, below, l)) ∙ ih g p l

-- The accesses of p: it writes its own bits, and reads its own copies.

place-by : (c : Call) (x : Part) (run : Run) (v : Bool) → ByProcess c.process (ended_with v (access_at c x run))
place-by c x (Writing w) v = record {
  writes = λ _. refl;
  reads = λ h. absurd (true≢false (sym (even ((bit_written (written_at c x).1 w).made % 2 == 0)) ∙ h));
}
  where
    even : (b : Bool) → is_of_write (ended v (cond b (BeginWrite (bit_written (written_at c x).1 w).value) EndWrite)) ≡ true
    even true = refl
    even false = refl
place-by c x (Reading bits begun) v = record { writes = λ h. absurd (true≢false (sym h ∙ read begun)); reads = λ _. refl }
  where
    read : (b : Bool) → is_of_write (ended v (cond b (EndRead false) BeginRead)) ≡ false
    read true = refl
    read false = refl

-- a closing only writes, and its owner's bits
pub closing-writes : (c : Call) (at : Closing) (flick : Bool) (n : Next) → closing_next c at flick ≡ Some n → (is_of_write n.access.how ≡ true) × (n.access.owner ≡ c.process)
closing-writes c at flick n h = subst (λ (a : Access). (is_of_write a.how ≡ true) × (a.owner ≡ c.process)) (ap access_in h) (go at flick h)
  where
    write : (b : Bool) (v : Bool) → is_of_write (cond b (BeginWrite v) EndWrite) ≡ true
    write true v = refl
    write false v = refl

    settle : (b d : Bool) (v : Bool) → is_of_write (cond b EndWrite (cond d (Settle v) (BeginWrite v))) ≡ true
    settle true d v = refl
    settle false true v = refl
    settle false false v = refl

    go : (at : Closing) (flick : Bool) → closing_next c at flick ≡ Some n → (is_of_write (access_in (closing_next c at flick)).how ≡ true) × ((access_in (closing_next c at flick)).owner ≡ c.process)
    go (Withdraws w) flick h = (write ((bit_written (no_ticket c) w).made % 2 == 0) (bit_written (no_ticket c) w).value, refl)
    go (Settles f bit begun taken is t) flick h = (settle t.begun (copies.is_open_at t.made t.reader) (copies.settled_at t flick), refl)
    go (Frees is w) flick h = (write ((bit_written (no_ticket c) w).made % 2 == 0) (bit_written (no_ticket c) w).value, refl)
    go (Lowers w) flick h = (write ((bit_written (false ∷ []) w).made % 2 == 0) (bit_written (false ∷ []) w).value, refl)
    go Quit flick h = cc
    go Ended flick h = cc

by-happens : (s : Setup) (past : Past) (p : ℕ) (e : Entry) (d d' : Doing) → Happens s past p e d d' → EntryBy p e
by-happens s past p e d d' (a_call command number was none marks then) = marks_only none
by-happens s past p e d d' (a_withdrawal command number t w ws run was none marks then) = marks_only none
by-happens s past p e d d' (a_failure command number may none marks then) = marks_only none
by-happens s past p e d d' (a_restart was none marks then) = marks_only none
by-happens s past p e d d' (a_step command number at a flick was over access is marks then) =
    makes a access (subst (ByProcess p) (sym is) (place-by (call s p command number) at.part at.run (read_value (opening_bit s (access_at (call s p command number) at.part at.run)) (moves_of (access_at (call s p command number) at.part at.run) past) flick)))
by-happens s past p e d d' (a_closing command number at flick n was next access same marks then) =
    let w = closing-writes (call s p command number) at flick n next in
    makes n.access access (record { writes = λ _. w.1; reads = λ h. absurd (true≢false (sym w.0 ∙ h)) })

-- an accepted entry writes bits of its process alone, and reads that process's copies alone
pub entry-by : (s : Setup) → IsGood s → (events : List Event) (what : Event) (e : Entry) → entry_of s (past_of s events) what ≡ Some e → EntryBy e.process e
entry-by s g events what e h = by-happens s (past_of s events) e.process e (doing s e.process (past_of s events)) (doing s e.process (e ∷ past_of s events)) (accepted s g events what e h).happens
