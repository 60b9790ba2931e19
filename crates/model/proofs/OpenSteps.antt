-- The copies that a step of a process opens and closes.
use Rattle.std.proofs.Common.{◌≡◌, ℕ, ◌*◌, ◌<◌, ◌==◌, ◌&&◌, Bool, true, false, cond, not, List, [], ◌∷◌, Option, Some, None, length, map, refl, sym, ap, subst, ◌∙◌, arith, true≢false, inl}
use Rattle.std.specs.Prelude.{◌⊎◌, fold}
use Rattle.std.specs.List.{list_any}
use Rattle.safe_bit.specs.{read_value}
use Rattle.safe_bit.specs.declared.Move.TheVariants.{BeginWrite, EndWrite, Settle}
use Rattle.reader_copies.specs.Runs as copies
use Rattle.model.specs.{Access, Call, Entry, Event, Field, Leads, Mark, Next, Numbers, Past, Place, ReadSoFar, Stage, TornBit, Turn, access_at, accesses_of, before, bits_with, ended, ended_with, enter, entry_at, has, history, is_called, is_failed, is_last, is_running, last_call, last_start, last_write, marks_of, moves_of, open_after, open_closing, open_place, opening_bit, own, past_of, place_after, place_of, read_so_far, run_after, same_bit, since, stage, stage_after, starts, stepped, torn_at, torn_in, value_of, value_written, with_access, write_moved}
use Rattle.model.specs.declared.access.Field.TheVariants.{Choosing, Ticket}
use Rattle.safe_number.specs.{NumberWrite}
use Rattle.plain_store.specs.{Command, Setup}
use Rattle.plain_store.specs.declared.Answer.TheVariants as answer
use Rattle.model.specs.declared.marks.Mark.TheVariants.{Called, Failed, Withdrew, Answered, Settled, Taken, Left, Down}
use Rattle.model.specs.declared.stages.Stage.TheVariants as stages
use Rattle.model.specs.Closings.{Closing, Withdraws, Settles, Frees, Lowers, Quit, Ended, withdrawing, failing, freeing, no_ticket, is_last_written, is_last_settled, is_unwritten, closing_next, closing_after, closing_of}
use Rattle.model.specs.Parts.{Part, Raises, Asks, TakesTicket, Lowers as LowersChoosing, Refuses, Waits, AsksCommit, AsksStamp, AsksImage, WritesImage, WritesStamp, WritesCommit, Clears, Over, is_over, stage_of, part_after}
use Rattle.model.proofs.Closing.{Fit}
use Rattle.model.proofs.ClosingAccesses.{is_unit}
use Rattle.model.proofs.Follow.{Spot, moved_on}
use Rattle.model.proofs.Knows.{Knows, knows-place}
use Rattle.model.proofs.Left.{remaining-written, remaining-new, remaining-done, value_at, value_closing}
use Rattle.model.proofs.Local.{Running, start-plain, since-plain, since_called-plain, call-plain, running_steps, over-idle, stage-moved}
use Rattle.model.proofs.Marking.{spot_marks}
use Rattle.model.proofs.Opens.{opened, opened-entry, Torn, IsBegun, torn-write, torn-place, begun-write, begun-place, write-kind}
use Rattle.model.proofs.PlaceTurns.{enter-closed, place-leads, same-write, access_in}
use Rattle.model.proofs.Staging.{stage-placed}
use Rattle.model.proofs.NextAccesses.{at_place, running_next}
use Rattle.model.proofs.Ties.{Tied, tied-on, tied-marks, end-with}
use Rattle.model.proofs.Width.{IsGood}

-- where the process is in its call, its withdrawal, or its unit's work
abbrev pub place_at : Setup → ℕ → Past → Place
place_at s p mine = place_of (last_call s p mine) (accesses_of (since starts mine))

abbrev pub leaving_at : Setup → ℕ → Past → Closing
leaving_at s p mine = closing_of (last_call s p mine) (withdrawing (last_call s p mine)) (map value_written (since starts mine))

abbrev pub failing_at : Setup → ℕ → Past → Closing
failing_at s p mine = closing_of (last_call s p mine) (failing (last_call s p mine) (before is_failed mine)) (map value_written (since is_failed mine))

-- the unit has written since it has settled
abbrev pub IsLate : Closing → Type 0
IsLate (Lowers w) = Unit {0}
IsLate Ended = Unit {0}
IsLate _ = ⊥

-- the torn bit of a withdrawal's write, or of a unit's
abbrev pub torn_late : Closing → Option TornBit
torn_late (Withdraws w) = torn_in Ticket w
torn_late (Frees is w) = torn_in Ticket w
torn_late (Lowers w) = torn_in Choosing w
torn_late _ = None

-- the state in which a failure would find a process at a place, with these numbers read
pub record Cuts (c : Call) (mine : Past) (at : Place) (finished : Numbers) : Type 0 where
  pub torn : Torn c.setup.processes c.process mine (torn_at c at)
  pub begun : IsBegun mine (torn_at c at) (value_at c at)
  pub knows : Knows c at.part finished

-- the state in which a failure would find a process that withdrew
pub record CutsLate (c : Call) (mine : Past) (at : Closing) : Type 0 where
  pub torn : Torn c.setup.processes c.process mine (torn_late at)
  pub begun : IsBegun mine (torn_late at) (value_closing c at)

-- the copies that a process has open are those that its machine has open
pub data Opens (s : Setup) (p : ℕ) (mine : Past) (st : Stage) : Type 0 where
  closed : ((st ≡ stages.Idle) ⊎ (st ≡ stages.Down)) → ((a : Access) → opened mine a ≡ false) → Torn s.processes p mine None → Opens s p mine st
  runs_at : (command : Command) → last_start mine ≡ Some (Called command) → is_running st ≡ true → ((a : Access) → opened mine a ≡ open_place (last_call s p mine) (place_at s p mine) a) →
      Cuts (last_call s p mine) mine (place_at s p mine) (read_so_far s (since is_called mine)).finished → Opens s p mine st
  leaves : last_start mine ≡ Some Withdrew → st ≡ stages.Leaving → ((a : Access) → opened mine a ≡ open_closing (last_call s p mine) (leaving_at s p mine) a) → CutsLate (last_call s p mine) mine (leaving_at s p mine) → Opens s p mine st
  settles : last_start mine ≡ Some Failed → st ≡ stages.Settling → ((a : Access) → opened mine a ≡ open_closing (last_call s p mine) (failing_at s p mine) a) →
      ((b : Access) → last_write (before is_failed mine) ≡ Some b → b.reader < s.processes) → (IsLate (failing_at s p mine) → Torn s.processes p mine (torn_late (failing_at s p mine))) → Opens s p mine st

-- an entry of the process comes in its turn, and what is open then is known again
pub record Out (s : Setup) (p : ℕ) (mine : Past) (e : Entry) (st : Stage) : Type 0 where
  pub turns : (a x : Access) → e.access ≡ Some x → same_bit a x ≡ true → Turn (opened mine a) x.how
  pub opens : Opens s p (e ∷ mine) st

-- the turn of the access that was made
pub turn-of : (mine : Past) (e : Entry) (y : Access) (was then : Access → Bool) → e.access ≡ Some y → ((a : Access) → opened mine a ≡ was a) → Leads was y then → (a x : Access) → e.access ≡ Some x → same_bit a x ≡ true → Turn (opened mine a) x.how
turn-of mine e y was then h w lead a x k same =
    let f : Some y ≡ Some x = sym h ∙ k in
    let is : y ≡ x = cc in
    subst (λ x. same_bit a x ≡ true → Turn (opened mine a) x.how) is (λ same. subst (λ b. Turn b y.how) (sym (w a)) (lead.turn a same)) same

pub then-of : (mine : Past) (e : Entry) (y : Access) (was then : Access → Bool) → e.access ≡ Some y → ((a : Access) → opened mine a ≡ was a) → Leads was y then → (a : Access) → opened (e ∷ mine) a ≡ then a
then-of mine e y was then h w lead a = opened-entry a y e mine h ∙ ap (λ b. open_after b (same_bit a y) y.how) (w a) ∙ sym (lead.after a)

over-remaining : (c : Call) (at : Place) (v : Bool) → is_over at.part ≡ false → is_over (place_after c at v).part ≡ true → torn_at c (place_after c at v) ≡ None
over-remaining c at v o h = go (is_last c at.part at.run) h
  where
    go : (b : Bool) → is_over (cond b (enter c (part_after c at.part (bits_with at.run v))) (record { part = at.part; run = run_after c at.part at.run v })).part ≡ true →
        torn_at c (cond b (enter c (part_after c at.part (bits_with at.run v))) (record { part = at.part; run = run_after c at.part at.run v })) ≡ None
    go true h = remaining-new c (part_after c at.part (bits_with at.run v))
    go false h = absurd (true≢false (sym h ∙ o))

over-closed : (c : Call) (at : Place) (v : Bool) → is_over at.part ≡ false → is_over (place_after c at v).part ≡ true → (a : Access) → open_place c (place_after c at v) a ≡ false
over-closed c at v o h a = go (is_last c at.part at.run) h
  where
    go : (b : Bool) → is_over (cond b (enter c (part_after c at.part (bits_with at.run v))) (record { part = at.part; run = run_after c at.part at.run v })).part ≡ true →
        open_place c (cond b (enter c (part_after c at.part (bits_with at.run v))) (record { part = at.part; run = run_after c at.part at.run v })) a ≡ false
    go true h = enter-closed c (part_after c at.part (bits_with at.run v)) a
    go false h = absurd (true≢false (sym h ∙ o))

running-part : (part : Part) (fresh : Bool) → is_over part ≡ false → is_running (stage_of part fresh) ≡ true
running-part Raises f o = refl
running-part (Asks j js ts) f o = refl
running-part (TakesTicket t) f o = refl
running-part (LowersChoosing t) f o = refl
running-part (Refuses q) f o = refl
running-part (Waits t w ws) f o = refl
running-part (AsksCommit k ks vs) f o = refl
running-part (AsksStamp k ks vs b) f o = refl
running-part (AsksImage vs) f o = refl
running-part (WritesImage vs st) f o = refl
running-part (WritesStamp vs st) f o = refl
running-part (WritesCommit vs st) f o = refl
running-part (Clears a) true o = refl
running-part (Clears a) false o = refl
running-part Over f o = cc

-- a step of a process that runs
pub running-out : (s : Setup) → IsGood s → (events : List Event) (p : ℕ) (flick : Bool) (e : Entry) (command : Command)
    → let past : Past = past_of s events in
    let mine : Past = own p past in
    last_start mine ≡ Some (Called command) → is_running (stage p past) ≡ true → ((a : Access) → opened mine a ≡ open_place (last_call s p mine) (place_at s p mine) a) →
    Cuts (last_call s p mine) mine (place_at s p mine) (read_so_far s (since is_called mine)).finished → stepped s past p flick ≡ Some e → Out s p mine e (fold stage_after (stage p past) e.marks)
running-out s g events p flick e command b run w t h = record { turns = turn-of mine e y (open_place c at) (open_place c to) access w lead; opens = go (is_over spot.part) refl }
  where
    past : Past
    past = past_of s events

    mine : Past
    mine = own p past

    c : Call
    c = last_call s p mine

    at : Place
    at = place_at s p mine

    r : Running s p mine (stage p past)
    r = at_place s g events p command b run

    x : Access
    x = access_at c at.part at.run

    v : Bool
    v = read_value (opening_bit s x) (moves_of x past) flick

    y : Access
    y = ended_with v x

    to : Place
    to = place_after c at (value_of y.how)

    is : entry_at s past p flick c at ≡ e
    is = let f : Some (entry_at s past p flick c at) ≡ Some e = sym (running_next s g p past (stage p past) flick r) ∙ h in cc

    access : e.access ≡ Some y
    access = ap (λ (e : Entry). e.access) (sym is)

    plain : has starts e ≡ false
    plain = (running_steps s g p past (stage p past) flick r e h).0

    o : is_over at.part ≡ false
    o = ap is_over (sym r.tied.part) ∙ r.not_over

    lead : Leads (open_place c at) y (open_place c to)
    lead = subst (λ z. Leads (open_place c at) z (open_place c to)) (sym (end-with v x)) (place-leads c at.part at.run r.at.made r.at.bits (value_of y.how) o r.tied.run)

    then : (a : Access) → opened (e ∷ mine) a ≡ open_place c to a
    then = then-of mine e y (open_place c at) (open_place c to) access w lead

    call : last_call s p (e ∷ mine) ≡ c
    call = call-plain s p e mine plain

    accesses : accesses_of (since starts (e ∷ mine)) ≡ y ∷ accesses_of (since starts mine)
    accesses = ap accesses_of (since-plain e mine plain) ∙ ap (λ o. elim o as (λ _. List Access) [ None ↦ accesses_of (since starts mine) | Some b ↦ b ∷ accesses_of (since starts mine) ]) access

    place : place_at s p (e ∷ mine) ≡ to
    place = ap (λ d. place_of d (accesses_of (since starts (e ∷ mine)))) call ∙ ap (place_of c) accesses

    torn : Torn s.processes p (e ∷ mine) (torn_at c to)
    torn = torn-place c mine e at.part at.run r.at.made r.at.bits v (value_of y.how) o r.tied.run access w t.torn

    before-it : ReadSoFar
    before-it = read_so_far s (since is_called mine)

    reads-on : read_so_far s (since is_called (e ∷ mine)) ≡ with_access s (Some y) before-it
    reads-on = ap (read_so_far s) (since_called-plain e mine plain) ∙ ap (λ o. with_access s o before-it) access

    cuts : Cuts c (e ∷ mine) to (with_access s (Some y) before-it).finished
    cuts = record {
      torn = torn;
      begun = begun-place c mine e at.part at.run r.at.made r.at.bits v (value_of y.how) o r.tied.run access w t.torn t.begun;
      knows = knows-place c at.part at.run r.at.made r.at.bits v before-it o r.tied.run (ap (λ l. (read_so_far s l).bits) r.same ∙ r.corresponds.bits) t.knows;
    }

    cuts-on : Cuts (last_call s p (e ∷ mine)) (e ∷ mine) (place_at s p (e ∷ mine)) (read_so_far s (since is_called (e ∷ mine))).finished
    cuts-on = subst (λ d. Cuts d (e ∷ mine) (place_at s p (e ∷ mine)) (read_so_far s (since is_called (e ∷ mine))).finished) (sym call)
        (subst (λ x. Cuts c (e ∷ mine) x (read_so_far s (since is_called (e ∷ mine))).finished) (sym place)
        (subst (λ (q : ReadSoFar). Cuts c (e ∷ mine) to q.finished) (sym reads-on) cuts))

    spot : Spot
    spot = moved_on c r.at y

    tied : Tied c to spot
    tied = tied-on c g at r.at v y o r.tied refl

    marks : spot_marks c r.at y ≡ marks_of c at (value_of y.how)
    marks = ap (spot_marks c r.at) (end-with v x) ∙ tied-marks c g at r.at (value_of y.how) o r.tied

    st : fold stage_after (stage p past) e.marks ≡ stage_of spot.part (spot.made == 0)
    st = ap (λ (e : Entry). fold stage_after (stage p past) e.marks) (sym is)
        ∙ stage-placed (length (history s past)) (stage p past) (marks_of c at (value_of y.how))
        ∙ ap (fold stage_after (stage p past)) (sym marks)
        ∙ ap (λ u. fold stage_after u (spot_marks c r.at y)) r.stage ∙ stage-moved c r.at y

    go : (d : Bool) → is_over spot.part ≡ d → Opens s p (e ∷ mine) (fold stage_after (stage p past) e.marks)
    go true q = closed (inl (st ∙ over-idle spot.part (spot.made == 0) q)) (λ a. then a ∙ over-closed c at (value_of y.how) o (ap is_over (sym tied.part) ∙ q) a)
        (subst (Torn s.processes p (e ∷ mine)) (over-remaining c at (value_of y.how) o (ap is_over (sym tied.part) ∙ q)) torn)
    go false q = runs_at command (start-plain e mine plain ∙ b) (ap is_running st ∙ running-part spot.part (spot.made == 0) q) (λ a. then a ∙ sym (λ i. open_place (call i) (place i) a)) cuts-on

-- no mark of a closing begins a program
pub closing-plain : (c : Call) (at : Closing) (flick : Bool) (n : Next) → closing_next c at flick ≡ Some n → list_any starts n.marks ≡ false
closing-plain c at flick n h = ap (λ o. list_any starts (marks o)) (sym h) ∙ go at
  where
    marks : Option Next → List Mark
    marks None = []
    marks (Some n) = n.marks

    one : (b : Bool) (m : Mark) → starts m ≡ false → list_any starts (cond b (m ∷ []) []) ≡ false
    one true m h = ap (λ d. Rattle.std.specs.Prelude.◌||◌ d false) h
    one false m h = refl

    two : (b d : Bool) (v : Bool) (taken : Option Rattle.plain_store.specs.declared.Reply.Reply) →
        list_any starts (cond b (Settled v ∷ elim taken as (λ _. List Mark) [ None ↦ [] | Some r ↦ cond d (Taken 0 r ∷ []) [] ]) []) ≡ false
    two true d v None = refl
    two true true v (Some r) = refl
    two true false v (Some r) = refl
    two false d v taken = refl

    go : (at : Closing) → list_any starts (marks (closing_next c at flick)) ≡ false
    go (Withdraws w) = one (is_last_written c (no_ticket c) w) (Answered answer.Withdrawn) refl
    go (Settles field bit begun taken is t) =
        two (is_last_settled c t (copies.settled_at t flick)) (cond (copies.settled_at t flick) begun (not begun)) (copies.settled_at t flick) taken
    go (Frees is w) = one (is && is_unwritten w) Left refl
    go (Lowers w) = one (is_last_written c (false ∷ []) w) Down refl
    go Quit = refl
    go Ended = refl

-- the accesses of a closing end no read
pub closing-same : (c : Call) (at : Closing) (flick u : Bool) (n : Next) → closing_next c at flick ≡ Some n → ended_with u n.access ≡ n.access
closing-same c at flick u n h = subst (λ o. ended_with u (access_in o) ≡ access_in o) h (go at)
  where
    go : (at : Closing) → ended_with u (access_in (closing_next c at flick)) ≡ access_in (closing_next c at flick)
    go (Withdraws w) = same-write u c.process Ticket w.bit (Rattle.model.specs.Places.bit_written (no_ticket c) w)
    go (Settles field bit begun taken is t) = (λ i. record { owner = c.process; field = field; bit = bit; reader = t.reader; how = kept t.begun (copies.is_open_at t.made t.reader) i })
      where
        kept : (b d : Bool) → ended u (cond b EndWrite (cond d (Settle (copies.settled_at t flick)) (BeginWrite (copies.settled_at t flick)))) ≡ cond b EndWrite (cond d (Settle (copies.settled_at t flick)) (BeginWrite (copies.settled_at t flick)))
        kept true d = refl
        kept false true = refl
        kept false false = refl
    go (Frees is w) = same-write u c.process Ticket w.bit (Rattle.model.specs.Places.bit_written (no_ticket c) w)
    go (Lowers w) = same-write u c.process Choosing w.bit (Rattle.model.specs.Places.bit_written (false ∷ []) w)
    go Quit = refl
    go Ended = refl

-- it writes a register
abbrev pub IsWriting : Closing → Type 0
IsWriting (Withdraws w) = Unit {0}
IsWriting (Frees is w) = Unit {0}
IsWriting (Lowers w) = Unit {0}
IsWriting _ = ⊥

-- the torn bit after an access of a write is that of what comes then
late-after : (c : Call) (f : Field) (bits : List Bool) (w : NumberWrite) (next now : Closing) → w.bit < w.width → torn_late next ≡ None → torn_late now ≡ torn_in f (write_moved c.setup.processes bits w) →
    torn_in f (write_moved c.setup.processes bits w) ≡ torn_late (cond (is_last_written c bits w) next now)
late-after c f bits w next now inside none same = go (is_last_written c bits w) refl
  where
    go : (b : Bool) → is_last_written c bits w ≡ b → torn_in f (write_moved c.setup.processes bits w) ≡ torn_late (cond b next now)
    go true l = remaining-done c.setup.processes f bits w inside l ∙ sym none
    go false l = sym same

-- after an access of a withdrawal, the value that is being written to a torn bit is its write's
pub withdrawal-begun : (c : Call) (mine : Past) (e : Entry) (at : Closing) (flick : Bool) (n : Next) → is_unit at ≡ false → closing_next c at flick ≡ Some n → e.access ≡ Some n.access →
    ((a : Access) → opened mine a ≡ open_closing c at a) → CutsLate c mine at → IsBegun (e ∷ mine) (torn_late (closing_after c at flick)) (value_closing c (closing_after c at flick))
withdrawal-begun c mine e (Withdraws w) flick n u h k same t = go (is_last_written c (no_ticket c) w)
  where
    to : NumberWrite
    to = write_moved c.setup.processes (no_ticket c) w

    go : (b : Bool) → IsBegun (e ∷ mine) (torn_late (cond b Quit (Withdraws to))) (value_closing c (cond b Quit (Withdraws to)))
    go true now l = cc
    go false now l = begun-write c.setup.processes c.process mine e Ticket (no_ticket c) w (k ∙ ap (λ o. Some (access_in o)) (sym h)) same t.torn t.begun now l
withdrawal-begun c mine e (Settles field bit begun taken i s) flick n u h k same t = cc
withdrawal-begun c mine e _ flick n u h k same t = cc

pub closing-torn : (c : Call) (mine : Past) (e : Entry) (at : Closing) (v flick : Bool) (n : Next) → Fit c at v flick → closing_next c at flick ≡ Some n → e.access ≡ Some n.access →
    ((a : Access) → opened mine a ≡ open_closing c at a) → IsWriting at → Torn c.setup.processes c.process (e ∷ mine) (torn_late (closing_after c at flick))
closing-torn c mine e (Withdraws w) v flick n fit h k same is =
    let going : (Rattle.model.specs.Places.bit_written (no_ticket c) w).made < 2 * c.setup.processes = fit.going in
    torn-write c.setup.processes c.process mine e _ (open_closing c (Withdraws w)) _
    (remaining-written c.setup.processes c.process Ticket (no_ticket c) w ∙ late-after c Ticket (no_ticket c) w Quit (Withdraws (write_moved c.setup.processes (no_ticket c) w)) fit.inside refl refl) (k ∙ ap (λ o. Some (access_in o)) (sym h)) refl (omega arith) same (write-kind c.process Ticket (no_ticket c) w)
closing-torn c mine e (Frees i w) v flick n fit h k same is =
    let going : (Rattle.model.specs.Places.bit_written (no_ticket c) w).made < 2 * c.setup.processes = fit.going in
    torn-write c.setup.processes c.process mine e _ (open_closing c (Frees i w)) _
    (remaining-written c.setup.processes c.process Ticket (no_ticket c) w ∙ late-after c Ticket (no_ticket c) w (Lowers (Rattle.safe_number.specs.Runs.new_write 1)) (Frees i (write_moved c.setup.processes (no_ticket c) w)) fit.inside refl refl) (k ∙ ap (λ o. Some (access_in o)) (sym h)) refl (omega arith) same (write-kind c.process Ticket (no_ticket c) w)
closing-torn c mine e (Lowers w) v flick n fit h k same is =
    let going : (Rattle.model.specs.Places.bit_written (false ∷ []) w).made < 2 * c.setup.processes = fit.going in
    torn-write c.setup.processes c.process mine e _ (open_closing c (Lowers w)) _
    (remaining-written c.setup.processes c.process Choosing (false ∷ []) w ∙ late-after c Choosing (false ∷ []) w Ended (Lowers (write_moved c.setup.processes (false ∷ []) w)) fit.inside refl refl) (k ∙ ap (λ o. Some (access_in o)) (sym h)) refl (omega arith) same (write-kind c.process Choosing (false ∷ []) w)
closing-torn c mine e _ v flick n fit h k same is = absurd is

pub withdraws-writes : (c : Call) (at : Closing) (flick : Bool) (n : Next) → is_unit at ≡ false → closing_next c at flick ≡ Some n → IsWriting at
withdraws-writes c (Withdraws w) flick n k h = tt
withdraws-writes c (Settles field bit begun taken i t) flick n k h = cc
withdraws-writes c (Frees i w) flick n k h = tt
withdraws-writes c (Lowers w) flick n k h = tt
withdraws-writes c Quit flick n k h = cc
withdraws-writes c Ended flick n k h = cc

pub late-writes : (c : Call) (at : Closing) (w flick : Bool) (n : Next) → closing_next c at flick ≡ Some n → IsLate (closing_after c at w) → IsWriting at
late-writes c (Withdraws x) w flick n h l = tt
late-writes c (Settles field bit begun taken i t) w flick n h l = go (is_last_settled c t (copies.settled_at t w)) l
  where
    go : (b : Bool) → IsLate (cond b (freeing c i) (Settles field bit begun taken i (copies.settle_after t (copies.settled_at t w)))) → ⊥
    go true l = l
    go false l = l
late-writes c (Frees i x) w flick n h l = tt
late-writes c (Lowers x) w flick n h l = tt
late-writes c Quit w flick n h l = cc
late-writes c Ended w flick n h l = cc
