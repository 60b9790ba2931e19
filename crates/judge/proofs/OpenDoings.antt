-- The open access of a process fits its next access.
use Rattle.std.proofs.Common.{◌≡◌, ◌≢◌, ℕ, ◌<◌, ◌+◌, ◌==◌, ◌&&◌, ◌||◌, Bool, true, false, cond, List, [], ◌∷◌, Option, Some, None, length, refl, sym, ap, subst, ◌∙◌, arith, true≢false, eqb-true, ne_eqb}
use Rattle.std.proofs.lemmas.Bool.{and_parts}
use Rattle.std.specs.Prelude.{fold}
use Rattle.model.specs.reader_copies.Runs as copies
use Rattle.model.specs.safe_bit.{Move, is_of_read, read_value}
use Rattle.model.specs.safe_bit.declared.Move.TheVariants.{BeginWrite, EndWrite, BeginRead, EndRead, Settle}
use Rattle.model.specs.safe_number.{new_write}
use Rattle.model.specs.{Access, Call, Entry, Event, Field, Mark, Next, Part, Past, Raises, Reading, Run, Wait, Waits, Writing, access_at, access_of, bits_with, ended_with, enter, history, is_last, is_over, is_read, last_write, made_with, moves_of, new_run, next_written, opening_bit, own, part_after, past_of, place_after, read_at, run_after, same_bit, unfinished, value_of, width, write_moved, written_at}
use Rattle.model.specs.declared.access.Field.TheVariants.{Choosing, Ticket}
use Rattle.plain_store.specs.{Command, Setup}
use Rattle.model.specs.declared.marks.Mark.TheVariants as mark
use Rattle.model.specs.Closings.{Closing, Withdraws, Settles, Frees, Lowers, Quit, Ended, closing_after, closing_next, failing, freeing, is_last_written, no_ticket, settling_from}
use Rattle.model.proofs.PlaceTurns.{access_in}
use Rattle.model.proofs.Width.{IsGood}
use Rattle.any_lock.specs.safe_monitor.laws.{Closes, Doing, IsThere, Rests, Runs, call, closes, doing, next_of, runs}
use Rattle.any_lock.proofs.safe_monitor.laws.AtPlaces.{own-induction}
use Rattle.any_lock.proofs.safe_monitor.laws.Frame.{Happens, a_call, a_withdrawal, a_failure, a_restart, a_step, a_closing, doing-other}
use Rattle.any_lock.proofs.safe_monitor.laws.FrameCuts.{LeftClosing, LeftIn, LeftRun, remaining}
use Rattle.any_lock.proofs.safe_monitor.laws.FrameEvents.{accepted}
use Rattle.any_lock.proofs.safe_monitor.laws.FrameSteps.{remaining-is}
use Rattle.any_lock.proofs.safe_monitor.laws.HeldThere.{access_there}
use Rattle.any_lock.specs.{BegunAccess, ProcessView, begun_by, left_open, opened, write_of}
use Rattle.any_lock.proofs.Markings.{ArePlain}
use Rattle.any_lock.proofs.Steps.{opened-mine, process_view-other}
use Rattle.judge.proofs.Opened.{Fits, FitsNext, LeadsOn, open_by, same_copy, write_leads}
use Rattle.judge.proofs.StepMarks.{plain_closing, plain_step}

-- Accesses at a place.

-- no access of the register was made: the first one does not end another
new_fits : (c : Call) (part : Part) → Fits None (access_at c part (new_run c part))
new_fits c part = go (is_read part)
  where
    go : (b : Bool) → Fits None (access_at c part (cond b (Reading [] false) (Writing (new_write (width c.setup (written_at c part).0)))))
    go true = refl
    go false = refl

-- a call enters a part with no open access
enter_fits : (s : Setup) (p : ℕ) (command : Command) (number : ℕ) (part : Part) (o : Option BegunAccess) (flick : Bool) → o ≡ None →
    FitsNext o (next_of s p (runs command number (enter (call s p command number) part)) flick)
enter_fits s p command number part o flick none = subst (λ (x : Option BegunAccess). FitsNext x (next_of s p (runs command number (enter (call s p command number) part)) flick)) (sym none) (go (is_over part))
  where
    go : (b : Bool) → FitsNext None (next_of s p (cond b Rests (Runs command number (enter (call s p command number) part))) flick)
    go true = refl
    go false = new_fits (call s p command number) part

-- a register access continues
still_fits : (s : Setup) (p : ℕ) (command : Command) (number : ℕ) (part : Part) (run : Run) (o : Option BegunAccess) (flick : Bool) → is_over part ≡ false → Fits o (access_at (call s p command number) part run) →
    FitsNext o (next_of s p (runs command number (record { part = part; run = run })) flick)
still_fits s p command number part run o flick over fits =
    subst (λ b. FitsNext o (next_of s p (cond b Rests (Runs command number (record { part = part; run = run }))) flick)) (sym over) fits

-- the next access after the one at a place
place_fits : (s : Setup) (p : ℕ) (command : Command) (number : ℕ) (part : Part) (run : Run) (torn : Option Access) (entry : ℕ) (u v flick : Bool) → is_over part ≡ false → LeftRun (call s p command number) torn part run →
    FitsNext (open_by entry (ended_with u (access_at (call s p command number) part run))) (next_of s p (runs command number (place_after (call s p command number) (record { part = part; run = run }) v)) flick)
place_fits s p command number part (Writing w) torn entry u v flick over l = go (is_last c part (Writing w)) refl
  where
    c : Call
    c = call s p command number

    o : Option BegunAccess
    o = open_by entry (ended_with u (access_at c part (Writing w)))

    leads : LeadsOn p (written_at c part).0 (written_at c part).1 o w.width (write_moved s.processes (written_at c part).1 w)
    leads = write_leads s.processes p (written_at c part).0 (written_at c part).1 w entry u l.1.goes.inside

    go : (b : Bool) → is_last c part (Writing w) ≡ b →
        FitsNext o (next_of s p (runs command number (cond b (enter c (part_after c part [])) (record { part = part; run = Writing (write_moved s.processes (written_at c part).1 w) }))) flick)
    go true last = enter_fits s p command number (part_after c part []) o flick (leads.done last)
    go false more = still_fits s p command number part (Writing (write_moved s.processes (written_at c part).1 w)) o flick over (leads.going more)
place_fits s p command number part (Reading bits false) torn entry u v flick over l =
    let c : Call = call s p command number in
    still_fits s p command number part (Reading bits true) (open_by entry (ended_with u (access_at c part (Reading bits false)))) flick over
    (ap (λ b. b && true) (same_copy (read_at c part).0 (read_at c part).1 (length bits) p p BeginRead (EndRead false) refl))
place_fits s p command number part (Reading bits true) torn entry u v flick over l = go (is_last c part (Reading bits true))
  where
    c : Call
    c = call s p command number

    go : (b : Bool) → FitsNext None (next_of s p (runs command number (cond b (enter c (part_after c part (bits_with (Reading bits true) v))) (record { part = part; run = run_after c part (Reading bits true) v }))) flick)
    go true = enter_fits s p command number (part_after c part (bits_with (Reading bits true) v)) None flick refl
    go false = still_fits s p command number part (run_after c part (Reading bits true) v) None flick over refl

-- Accesses in a closing.

-- a settling that has begun no access of its next copy
settle_fits : (p : ℕ) (f : Field) (bit made reader : ℕ) (value : Option Bool) (v : Bool) → Fits None (access_of p f (bit, copies.next_settle (record { made = made; reader = reader; begun = false; value = value }) v))
settle_fits p f bit made reader value v = go (copies.is_open_at made reader)
  where
    go : (b : Bool) → Fits None (access_of p f (bit, record { reader = reader; how = cond b (Settle v) (BeginWrite v) }))
    go true = refl
    go false = refl

-- a unit that begins
unit_fits : (s : Setup) (p : ℕ) (command : Command) (number : ℕ) (mine : Past) (o : Option Access) (flick : Bool) → FitsNext None (next_of s p (Closes command number (settling_from (call s p command number) mine o)) flick)
unit_fits s p command number mine None flick = refl
unit_fits s p command number mine (Some a) flick = settle_fits p a.field a.bit (made_with a) 0 None flick

-- the next access after one of a closing
closing_fits : (s : Setup) (p : ℕ) (command : Command) (number : ℕ) (at : Closing) (flick : Bool) (n : Next) (torn : Option Access) (entry : ℕ) (u now : Bool) → closing_next (call s p command number) at flick ≡ Some n →
    LeftClosing (call s p command number) torn at → ended_with u n.access ≡ n.access → n.access.reader < s.processes →
    FitsNext (open_by entry n.access) (next_of s p (closes command number (closing_after (call s p command number) at flick)) now)
closing_fits s p command number at flick n torn entry u now next l same below =
    subst (λ (o : Option BegunAccess). FitsNext o (next_of s p (closes command number (closing_after (call s p command number) at flick)) now)) (ap (open_by entry) same)
    (subst (λ (a : Access). FitsNext (open_by entry (ended_with u a)) (next_of s p (closes command number (closing_after (call s p command number) at flick)) now)) (ap access_in next)
    (go at next l (subst (λ (a : Access). a.reader < s.processes) (sym (ap access_in next)) below)))
  where
    c : Call
    c = call s p command number

    X : Closing → Option BegunAccess → Type 0
    X at o = FitsNext o (next_of s p (closes command number at) now)

    go : (at : Closing) → closing_next c at flick ≡ Some n → LeftClosing c torn at → (access_in (closing_next c at flick)).reader < s.processes → X (closing_after c at flick) (open_by entry (ended_with u (access_in (closing_next c at flick))))
    go (Withdraws w) h l below = by (is_last_written c (no_ticket c) w) refl
      where
        leads : LeadsOn p Ticket (no_ticket c) (open_by entry (ended_with u (access_of p Ticket (next_written (no_ticket c) w)))) w.width (write_moved s.processes (no_ticket c) w)
        leads = write_leads s.processes p Ticket (no_ticket c) w entry u l.0.goes.inside

        by : (b : Bool) → is_last_written c (no_ticket c) w ≡ b → X (cond b Quit (Withdraws (write_moved s.processes (no_ticket c) w))) (open_by entry (ended_with u (access_of p Ticket (next_written (no_ticket c) w))))
        by true last = leads.done last
        by false more = leads.going more
    go (Settles f bit begun taken is t) h l below = by t.begun refl (copies.is_open_at t.made t.reader) refl
      where
        v : Bool
        v = copies.settled_at t flick

        -- the access, and what comes after it, by whether its copy is begun, and was open
        x : Bool → Bool → Access
        x b o = access_of p f (bit, record { reader = t.reader; how = cond b EndWrite (cond o (Settle v) (BeginWrite v)) })

        to : Bool → copies.Settling
        to b = cond b (record { made = t.made; reader = t.reader + 1; begun = false; value = Some v }) (record { made = t.made; reader = t.reader; begun = true; value = Some v })

        then : Bool → Bool → Closing
        then last b = cond last (freeing c is) (Settles f bit begun taken is (to b))

        over : (last : Bool) → X (then last true) None
        over true = refl
        over false = settle_fits p f bit t.made (t.reader + 1) (Some v) v

        again : (last : Bool) → (t.reader == s.processes) ≡ last → X (then last false) (open_by entry (ended_with u (x false false)))
        again true h = let all : t.reader ≡ s.processes = eqb-true t.reader s.processes h in absurd (omega (arith, below, all))
        again false h = ap (λ b. b && true) (same_copy p f bit t.reader t.reader (BeginWrite v) EndWrite refl)

        by : (b : Bool) → t.begun ≡ b → (o : Bool) → copies.is_open_at t.made t.reader ≡ o → X (then ((to (b || o)).reader == s.processes) (b || o)) (open_by entry (ended_with u (x b o)))
        by true i o j = over (t.reader + 1 == s.processes)
        by false i true j = over (t.reader + 1 == s.processes)
        by false i false j = again (t.reader == s.processes) refl
    go (Frees is w) h l below = by (is_last_written c (no_ticket c) w) refl
      where
        leads : LeadsOn p Ticket (no_ticket c) (open_by entry (ended_with u (access_of p Ticket (next_written (no_ticket c) w)))) w.width (write_moved s.processes (no_ticket c) w)
        leads = write_leads s.processes p Ticket (no_ticket c) w entry u l.goes.inside

        by : (b : Bool) → is_last_written c (no_ticket c) w ≡ b → X (cond b (Lowers (new_write 1)) (Frees is (write_moved s.processes (no_ticket c) w))) (open_by entry (ended_with u (access_of p Ticket (next_written (no_ticket c) w))))
        by true last = subst (λ (o : Option BegunAccess). X (Lowers (new_write 1)) o) (sym (leads.done last)) refl
        by false more = leads.going more
    go (Lowers w) h l below = by (is_last_written c (false ∷ []) w) refl
      where
        leads : LeadsOn p Choosing (false ∷ []) (open_by entry (ended_with u (access_of p Choosing (next_written (false ∷ []) w)))) w.width (write_moved s.processes (false ∷ []) w)
        leads = write_leads s.processes p Choosing (false ∷ []) w entry u l.goes.inside

        by : (b : Bool) → is_last_written c (false ∷ []) w ≡ b → X (cond b Ended (Lowers (write_moved s.processes (false ∷ []) w))) (open_by entry (ended_with u (access_of p Choosing (next_written (false ∷ []) w))))
        by true last = leads.done last
        by false more = leads.going more
    go Quit h l below = cc
    go Ended h l below = cc

-- Entries.

-- plain marks do not change the open access
open_plain : (o : Option BegunAccess) (ms : List Mark) → ArePlain ms → fold left_open o ms ≡ o
open_plain o [] h = refl
open_plain o (mark.Called c ∷ ms) h = absurd (true≢false h)
open_plain o (mark.Failed ∷ ms) h = absurd (true≢false h)
open_plain o (mark.Withdrew ∷ ms) h = absurd (true≢false h)
open_plain o (mark.Restarted ∷ ms) h = absurd (true≢false h)
open_plain o (_ ∷ ms) h = open_plain o ms h

-- the access of an entry is open after it, if it begins
pub opened_access : (past : Past) (e : Entry) (a : Access) → e.access ≡ Some a → ArePlain e.marks → opened e.process (e ∷ past) ≡ open_by (length past) a
opened_access past e a acc plain =
    opened-mine e.process e past refl ∙ open_plain (begun_by (length past) e.access (opened e.process past)) e.marks plain ∙ ap (λ o. begun_by (length past) o (opened e.process past)) acc

-- the open access after an entry with a mark alone
pub opened_marked : (past : Past) (e : Entry) (m : Mark) → e.access ≡ None → e.marks ≡ m ∷ [] → opened e.process (e ∷ past) ≡ left_open (opened e.process past) m
opened_marked past e m none marks =
    opened-mine e.process e past refl ∙ (λ i. fold left_open (begun_by (length past) (none i) (opened e.process past)) (marks i))

-- the open access of a process fits its next one
abbrev pub Opens : Setup → Past → ℕ → Type 0
Opens s past p = (flick : Bool) → FitsNext (opened p past) (next_of s p (doing s p past) flick)

-- a waiting process has no open write
read_only : (s : Setup) (p : ℕ) (command : Command) (number t : ℕ) (w : Wait) (ws : List Wait) (run : Run) (torn : Option Access) (o : Option BegunAccess) →
    LeftRun (call s p command number) torn (Waits t w ws) run → Fits o (access_at (call s p command number) (Waits t w ws) run) → write_of o ≡ None
read_only s p command number t w ws (Writing n) torn o l fits = absurd (true≢false l.0)
read_only s p command number t w ws (Reading bits false) torn o l fits = ap write_of fits
read_only s p command number t w ws (Reading bits true) torn None l fits = refl
read_only s p command number t w ws (Reading bits true) torn (Some b) l fits =
    of_read b.access.how (and_parts (same_bit b.access (access_at (call s p command number) (Waits t w ws) (Reading bits true))) (is_of_read b.access.how) fits).1
  where
    of_read : (m : Move) → is_of_read m ≡ true → elim m as (λ _. Option BegunAccess) [ BeginWrite v ↦ Some b | EndWrite ↦ None | BeginRead ↦ None | EndRead v ↦ None | Settle v ↦ None ] ≡ None
    of_read BeginRead r = refl
    of_read (EndRead v) r = refl
    of_read (BeginWrite v) r = absurd (true≢false (sym r))
    of_read EndWrite r = absurd (true≢false (sym r))
    of_read (Settle v) r = absurd (true≢false (sym r))

opens_by : (s : Setup) (past : Past) (e : Entry) (torn : Option Access) (d' : Doing) → Happens s past e.process e (doing s e.process past) d' → LeftIn s e.process torn (doing s e.process past) →
    ((a : Access) → e.access ≡ Some a → IsThere s a) → Opens s past e.process → (flick : Bool) → FitsNext (opened e.process (e ∷ past)) (next_of s e.process d' flick)
opens_by s past e torn d' (a_call command number i none m k) l there before flick =
    let now : opened e.process (e ∷ past) ≡ None = opened_marked past e (mark.Called command) none m ∙ subst (λ d. FitsNext (opened e.process past) (next_of s e.process d flick)) i (before flick) in
    subst (λ d. FitsNext (opened e.process (e ∷ past)) (next_of s e.process d flick)) (sym k)
    (subst (λ (o : Option BegunAccess). FitsNext o (next_of s e.process (Runs command number (enter (call s e.process command number) Raises)) flick)) (sym now) refl)
opens_by s past e torn d' (a_withdrawal command number t w ws run i none m k) l there before flick =
    let was : Fits (opened e.process past) (access_at (call s e.process command number) (Waits t w ws) run) = subst (λ d. FitsNext (opened e.process past) (next_of s e.process d flick)) i (before flick) in
    let now : opened e.process (e ∷ past) ≡ None = opened_marked past e mark.Withdrew none m ∙ read_only s e.process command number t w ws run torn (opened e.process past) (subst (LeftIn s e.process torn) i l) was in
    subst (λ d. FitsNext (opened e.process (e ∷ past)) (next_of s e.process d flick)) (sym k)
    (subst (λ (o : Option BegunAccess). FitsNext o (next_of s e.process (Closes command number (Withdraws (new_write s.ticket_bits))) flick)) (sym now) refl)
opens_by s past e torn d' (a_failure command number may none m k) l there before flick =
    subst (λ d. FitsNext (opened e.process (e ∷ past)) (next_of s e.process d flick)) (sym k)
    (subst (λ (o : Option BegunAccess). FitsNext o (next_of s e.process (Closes command number (failing (call s e.process command number) (own e.process past))) flick)) (sym (opened_marked past e mark.Failed none m))
    (unit_fits s e.process command number (own e.process past) (unfinished s.processes (last_write (own e.process past))) flick))
opens_by s past e torn d' (a_restart i none m k) l there before flick =
    subst (λ d. FitsNext (opened e.process (e ∷ past)) (next_of s e.process d flick)) (sym k)
    (opened_marked past e mark.Restarted none m ∙ subst (λ d. FitsNext (opened e.process past) (next_of s e.process d flick)) i (before flick))
opens_by s past e torn d' (a_step command number at a now i over acc made m k) l there before flick =
    let c : Call = call s e.process command number in
    let x : Access = access_at c at.part at.run in
    subst (λ d. FitsNext (opened e.process (e ∷ past)) (next_of s e.process d flick)) (sym k)
    (subst (λ (o : Option BegunAccess). FitsNext o (next_of s e.process (runs command number (place_after c at (value_of a.how))) flick))
    (sym (opened_access past e a acc (plain_step c at (value_of a.how) (length (history s past)) e.marks m) ∙ ap (open_by (length past)) made))
    (place_fits s e.process command number at.part at.run torn (length past) (read_value (opening_bit s x) (moves_of x past) now) (value_of a.how) flick over (subst (LeftIn s e.process torn) i l)))
opens_by s past e torn d' (a_closing command number at now n i next acc same m k) l there before flick =
    let c : Call = call s e.process command number in
    subst (λ d. FitsNext (opened e.process (e ∷ past)) (next_of s e.process d flick)) (sym k)
    (subst (λ (o : Option BegunAccess). FitsNext o (next_of s e.process (closes command number (closing_after c at now)) flick))
    (sym (opened_access past e n.access acc (plain_closing c at now n next (length (history s past)) e.marks m)))
    (closing_fits s e.process command number at now n torn (length past) (read_value (opening_bit s n.access) (moves_of n.access past) now) flick next (subst (LeftIn s e.process torn) i l) same (there n.access acc).reader))

-- In the record of every list of events, the open access of each process fits its next one.
pub opens : (s : Setup) → IsGood s → (events : List Event) (p : ℕ) → Opens s (past_of s events) p
opens s g = own-induction s (Opens s) (λ p flick. refl) others
    (λ events event e is before. opens_by s (past_of s events) e (remaining s (own e.process (past_of s events))) (doing s e.process (e ∷ past_of s events)) (accepted s g events event e is).happens (remaining-is s g events e.process)
    (access_there s g events event e is) before)
  where
    others : (past : Past) (e : Entry) (p : ℕ) → e.process ≢ p → Opens s past p → Opens s (e ∷ past) p
    others past e p apart before flick =
        subst (λ d. FitsNext (opened p (e ∷ past)) (next_of s p d flick)) (sym (doing-other s p e past apart))
        (subst (λ (o : Option BegunAccess). FitsNext o (next_of s p (doing s p past) flick)) (sym (ap (λ (k : ProcessView). k.opened) (process_view-other s p e past (ne_eqb e.process p apart)))) (before flick))
