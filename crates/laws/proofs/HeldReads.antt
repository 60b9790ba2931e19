-- The reads that are open in what the registers hold are those that the processes have open at their places.
use Rattle.std.proofs.Common.{◌≡◌, ◌≢◌, ℕ, ◌==◌, ◌&&◌, Bool, true, false, cond, List, [], ◌∷◌, Some, None, refl, sym, ap, subst, ◌∙◌, true≢false, eqb-true, eq-eqb, ne_eqb}
use Rattle.std.proofs.lemmas.Bool.{eqb-false}
use Rattle.model.specs.safe_bit.Cell.{Cell, cell_after}
use Rattle.model.specs.safe_bit.{is_of_write, read_value}
use Rattle.model.specs.{Access, Call, Closing, Entry, Event, Part, Past, Place, Reading, Run, Withdraws, Writing, access_at, bits_with, closing_after, ended_with, is_end_of_read, enter, entry_of, is_last, is_over, is_read, moves_of, new_run, opening_bit, part_after, past-induction, past_of, place_after, run_after, same_bit, value_of, valued, width, written_at}
use Rattle.model.specs.safe_number.{NumberWrite, new_write}
use Rattle.plain_store.specs.{Command, Setup}
use Rattle.model.specs.declared.marks.Mark.TheVariants.{Called, Failed, Withdrew, Restarted}
use Rattle.model.proofs.Turns.{and_false}
use Rattle.model.proofs.Width.{IsGood}
use Rattle.laws.specs.{Closes, Doing, Lies, Rests, Runs, call, cell_held, closes, doing, drops, runs}
use Rattle.laws.proofs.Frame.{Happens, a_call, a_withdrawal, a_failure, a_restart, a_step, a_closing, doing-other}
use Rattle.laws.proofs.FrameCells.{EntryBy, marks_only, makes, itself, on-copy}
use Rattle.laws.proofs.FrameCuts.{written-writes}
use Rattle.laws.proofs.FrameEvents.{Accepted, accepted}
use Rattle.laws.proofs.FrameSteps.{closing-writes, entry-by, is_of_write-ended}
use Rattle.laws.proofs.HeldCells.{drops-by, held-entry, reading-apart, reading-dropped, reading-kept, reading-written}

-- a number access has a read of the bit open
abbrev pub open_read : Call → Part → Run → Access → Bool
open_read c part (Writing w) a = false
open_read c part (Reading bits begun) a = begun && same_bit a (access_at c part (Reading bits begun))

-- p has one open
abbrev pub reads_now : Setup → ℕ → Access → Doing → Bool
reads_now s p a Rests = false
reads_now s p a Lies = false
reads_now s p a (Runs command number at) = open_read (call s p command number) at.part at.run a
reads_now s p a (Closes command number at) = false

-- No open read.

-- a number access of which nothing is made has none open
new-none : (c : Call) (part : Part) (a : Access) → open_read c part (new_run c part) a ≡ false
new-none c part a = go (is_read part)
  where
    go : (b : Bool) → open_read c part (cond b (Reading [] false) (Writing (new_write (width c.setup (written_at c part).0)))) a ≡ false
    go true = refl
    go false = refl

runs-none : (s : Setup) (p : ℕ) (a : Access) (command : Command) (number : ℕ) (at : Place) → open_read (call s p command number) at.part at.run a ≡ false → reads_now s p a (runs command number at) ≡ false
runs-none s p a command number at h = go (is_over at.part)
  where
    go : (b : Bool) → reads_now s p a (cond b Rests (Runs command number at)) ≡ false
    go true = refl
    go false = h

closes-none : (s : Setup) (p : ℕ) (a : Access) (command : Command) (number : ℕ) (at : Closing) → reads_now s p a (closes command number at) ≡ false
closes-none s p a command number (Withdraws w) = refl
closes-none s p a command number _ = refl

-- the place after an access has no open read, if the number access that continues has none
after-none : (c : Call) (part : Part) (run : Run) (v : Bool) (a : Access) → open_read c part (run_after c part run v) a ≡ false
    → let to : Place = place_after c (record { part = part; run = run }) v in
    open_read c to.part to.run a ≡ false
after-none c part run v a h = go (is_last c part run)
  where
    to : Bool → Place
    to b = cond b (enter c (part_after c part (bits_with run v))) (record { part = part; run = run_after c part run v })

    go : (b : Bool) → open_read c (to b).part (to b).run a ≡ false
    go true = new-none c (part_after c part (bits_with run v)) a
    go false = h

-- A step.

-- a write's access, with any value
pub place-writes : (c : Call) (part : Part) (w : NumberWrite) (v : Bool) → is_of_write (ended_with v (access_at c part (Writing w))).how ≡ true
place-writes c part w v = is_of_write-ended v (access_at c part (Writing w)).how ∙ written-writes c.process (written_at c part).0 (written_at c part).1 w

-- the reads that are open after an access at a place
step-reads : (s : Setup) (past : Past) (p : ℕ) (e : Entry) (command : Command) (number : ℕ) (part : Part) (run : Run) (x : Access) (flick : Bool) (a : Access)
    → let c : Call = call s p command number in
    is_over part ≡ false → e.access ≡ Some x → x ≡ valued s past flick (access_at c part run) → (cell_held s past a).reading ≡ open_read c part run a →
    (cell_held s (e ∷ past) a).reading ≡ reads_now s p a (runs command number (place_after c (record { part = part; run = run }) (value_of x.how)))
step-reads s past p e command number part (Writing w) x flick a o h is was =
    reading-written s past e x a h (ap (λ (y : Access). is_of_write y.how) is ∙ place-writes c part w (read_value (opening_bit s (access_at c part (Writing w))) (moves_of (access_at c part (Writing w)) past) flick)) ∙ was
    ∙ sym (runs-none s p a command number (place_after c (record { part = part; run = Writing w }) (value_of x.how)) (after-none c part (Writing w) (value_of x.how) a refl))
  where
    c : Call
    c = call s p command number
step-reads s past p e command number part (Reading bits true) x flick a o h is was =
    ap (λ (d : Cell). d.reading) (held-entry s past e y a (h ∙ ap Some is)) ∙ go (same_bit a y) was
    ∙ sym (runs-none s p a command number (place_after c (record { part = part; run = Reading bits true }) (value_of x.how)) (after-none c part (Reading bits true) (value_of x.how) a refl))
  where
    c : Call
    c = call s p command number

    y : Access
    y = valued s past flick (access_at c part (Reading bits true))

    go : (b : Bool) → (cell_held s past a).reading ≡ b → (cond b (cell_after (cell_held s past a) y.how) (cell_held s past a)).reading ≡ false
    go true was = refl
    go false was = was
step-reads s past p e command number part (Reading bits false) x flick a o h is was =
    ap (λ (d : Cell). d.reading) (held-entry s past e y a (h ∙ ap Some is)) ∙ go (same_bit a y)
    ∙ sym (ap (λ b. reads_now s p a (cond b Rests (Runs command number (record { part = part; run = Reading bits true })))) o)
  where
    c : Call
    c = call s p command number

    y : Access
    y = valued s past flick (access_at c part (Reading bits false))

    go : (b : Bool) → (cond b (cell_after (cell_held s past a) y.how) (cell_held s past a)).reading ≡ b
    go true = refl
    go false = was

-- the read that is open after an entry of the reader
own-reads : (s : Setup) (past : Past) (p : ℕ) (e : Entry) (d d' : Doing) (a : Access) → Happens s past p e d d' → (e.process == a.reader) ≡ true → (cell_held s past a).reading ≡ reads_now s p a d →
    (cell_held s (e ∷ past) a).reading ≡ reads_now s p a d'
own-reads s past p e d d' a (a_call command number was none marks then) own h =
    reading-kept s past e a none (ap (λ b. b && (e.process == a.reader)) (drops-by e (Called command ∷ []) marks)) ∙ h ∙ ap (reads_now s p a) was ∙ sym (ap (reads_now s p a) then)
own-reads s past p e d d' a (a_withdrawal command number t w ws run was none marks then) own h =
    reading-dropped s past e a none (λ i. drops-by e (Withdrew ∷ []) marks i && own i) ∙ sym (ap (reads_now s p a) then)
own-reads s past p e d d' a (a_failure command number may none marks then) own h =
    reading-dropped s past e a none (λ i. drops-by e (Failed ∷ []) marks i && own i) ∙ sym (ap (reads_now s p a) then)
own-reads s past p e d d' a (a_restart was none marks then) own h =
    reading-kept s past e a none (ap (λ b. b && (e.process == a.reader)) (drops-by e (Restarted ∷ []) marks)) ∙ h ∙ ap (reads_now s p a) was ∙ sym (ap (reads_now s p a) then)
own-reads s past p e d d' a (a_step command number at x flick was over access is marks then) own h =
    step-reads s past p e command number at.part at.run x flick a over access is (h ∙ ap (reads_now s p a) was) ∙ sym (ap (reads_now s p a) then)
own-reads s past p e d d' a (a_closing command number at flick n was next access same marks then) own h =
    reading-written s past e n.access a access (closing-writes (call s p command number) at flick n next).0 ∙ h ∙ ap (reads_now s p a) was
    ∙ sym (ap (reads_now s p a) then ∙ closes-none s p a command number (closing_after (call s p command number) at flick))

-- an entry of another process leaves it
others-read : (s : Setup) (past : Past) (e : Entry) (a : Access) → EntryBy e.process e → e.process ≢ a.reader → (cell_held s (e ∷ past) a).reading ≡ (cell_held s past a).reading
others-read s past e a (marks_only none) apart = reading-kept s past e a none (ap (λ b. drops e && b) (ne_eqb e.process a.reader apart) ∙ and_false (drops e))
others-read s past e a (makes x h by) apart = go (is_of_write x.how) refl (same_bit a x) refl
  where
    go : (w : Bool) → is_of_write x.how ≡ w → (b : Bool) → same_bit a x ≡ b → (cell_held s (e ∷ past) a).reading ≡ (cell_held s past a).reading
    go true i b j = reading-written s past e x a h i
    go false i false j = reading-apart s past e x a h j
    go false i true j = absurd (apart (sym ((on-copy x a.owner a.field a.bit a.reader j).reader ∙ by.reads i)))

-- In every record the reads that are open are those of the places.
abbrev ReadsAll : Setup → Past → Type 0
ReadsAll s past = IsGood s → (p : ℕ) (a : Access) → a.reader ≡ p → (cell_held s past a).reading ≡ reads_now s p a (doing s p past)

pub reads_are : (s : Setup) → IsGood s → (events : List Event) (p : ℕ) (a : Access) → a.reader ≡ p → (cell_held s (past_of s events) a).reading ≡ reads_now s p a (doing s p (past_of s events))
reads_are s g events = past-induction ReadsAll s (λ g p a r. refl) more events g
  where
    more : (events : List Event) (what : Event) (e : Entry) → entry_of s (past_of s events) what ≡ Some e → ReadsAll s (past_of s events) → ReadsAll s (e ∷ past_of s events)
    more events what e h ih g p a r = go (e.process == p) refl
      where
        past : Past
        past = past_of s events

        acc : Accepted s past what e
        acc = accepted s g events what e h

        go : (b : Bool) → (e.process == p) ≡ b → (cell_held s (e ∷ past) a).reading ≡ reads_now s p a (doing s p (e ∷ past))
        go true i =
            let is : e.process ≡ p = eqb-true e.process p i in
            subst (λ q. (cell_held s (e ∷ past) a).reading ≡ reads_now s q a (doing s q (e ∷ past))) is
            (own-reads s past e.process e (doing s e.process past) (doing s e.process (e ∷ past)) a acc.happens (eq-eqb e.process a.reader (is ∙ sym r)) (ih g e.process a (r ∙ sym is)))
        go false i =
            let apart : e.process ≢ p = eqb-false e.process p i in
            others-read s past e a (entry-by s g events what e h) (λ same. apart (same ∙ r)) ∙ ih g p a r ∙ ap (reads_now s p a) (sym (doing-other s p e past apart))

-- The access itself.

-- at a place, a read is open if the access ends it, and only then
place-reads : (s : Setup) (past : Past) (c : Call) (part : Part) (run : Run) (flick : Bool) (a : Access) → a ≡ valued s past flick (access_at c part run) → is_of_write a.how ≡ false → open_read c part run a ≡ is_end_of_read a.how
place-reads s past c part (Writing w) flick a is r =
    absurd (true≢false (sym (ap (λ (y : Access). is_of_write y.how) is ∙ place-writes c part w (read_value (opening_bit s (access_at c part (Writing w))) (moves_of (access_at c part (Writing w)) past) flick)) ∙ r))
place-reads s past c part (Reading bits true) flick a is r =
    let x : Access = access_at c part (Reading bits true) in
    ap (λ (y : Access). same_bit y x) is ∙ itself x ∙ sym (ap (λ (y : Access). is_end_of_read y.how) is)
place-reads s past c part (Reading bits false) flick a is r = sym (ap (λ (y : Access). is_end_of_read y.how) is)

-- at each access of a process, a read is open if the access ends it, and only then
pub access-reads : (s : Setup) (past : Past) (p : ℕ) (e : Entry) (d d' : Doing) (a : Access) → Happens s past p e d d' → e.access ≡ Some a → is_of_write a.how ≡ false → reads_now s p a d ≡ is_end_of_read a.how
access-reads s past p e d d' a (a_call command number was none marks then) h r = let f : None ≡ Some a = sym none ∙ h in cc
access-reads s past p e d d' a (a_withdrawal command number t w ws run was none marks then) h r = let f : None ≡ Some a = sym none ∙ h in cc
access-reads s past p e d d' a (a_failure command number may none marks then) h r = let f : None ≡ Some a = sym none ∙ h in cc
access-reads s past p e d d' a (a_restart was none marks then) h r = let f : None ≡ Some a = sym none ∙ h in cc
access-reads s past p e d d' a (a_step command number at x flick was over access is marks then) h r =
    let f : Some x ≡ Some a = sym access ∙ h in
    let same : x ≡ a = cc in
    ap (reads_now s p a) was ∙ place-reads s past (call s p command number) at.part at.run flick a (sym same ∙ is) r
access-reads s past p e d d' a (a_closing command number at flick n was next access made marks then) h r =
    let f : Some n.access ≡ Some a = sym access ∙ h in
    let same : n.access ≡ a = cc in
    absurd (true≢false (sym (closing-writes (call s p command number) at flick n next).0 ∙ ap (λ (y : Access). is_of_write y.how) same ∙ r))
