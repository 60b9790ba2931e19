-- The steps with which a doorway begins, and the state of each process, by each of its look-backs.
use Rattle.std.proofs.Common.{◌≡◌, ◌≢◌, ℕ, ◌/◌, ◌%◌, ◌<◌, ◌==◌, ◌&&◌, Bool, true, false, cond, List, [], ◌∷◌, Option, Some, None, refl, sym, ap, subst, ◌∙◌, arith, eqb-true, ne_eqb}
use Rattle.std.specs.Prelude.{is_none, not, slice_index_or, unwrap_or}
use Rattle.model.specs.reader_copies.Runs as copies
use Rattle.model.specs.safe_bit.{Move, read_value}
use Rattle.model.specs.safe_bit.declared.Move.TheVariants.{BeginWrite, EndWrite, BeginRead, EndRead}
use Rattle.model.specs.{Access, Call, Clears, Entry, Event, Field, Next, Part, Past, Raises, Reading, Refuses, Run, TakesTicket, WritesCommit, WritesImage, WritesStamp, Writing, access_at, begins_doorway, bit_written, ended, ended_with, entry_of, image_field, is_fresh, is_over, is_read, moves_of, opening_bit, own, past_of, raises, read_at, stamp_field, version_of, written_at}
use Rattle.model.specs.declared.access.Field.TheVariants.{Choosing}
use Rattle.model.specs.safe_number.{NumberWrite}
use Rattle.plain_store.specs.{Command, Setup}
use Rattle.model.specs.Closings.{Closing, Withdraws, Settles, Frees, Lowers, Quit, Ended, closing_next}
use Rattle.model.specs.Parts as part
use Rattle.model.proofs.PlaceTurns.{access_in}
use Rattle.model.proofs.Turns.{and_false, and_true}
use Rattle.model.proofs.Width.{IsGood}
use Rattle.laws.specs.{Doing, Runs, Closes, call, doing}
use Rattle.laws.proofs.Frame.{Happens, a_call, a_withdrawal, a_failure, a_restart, a_step, a_closing}
use Rattle.laws.proofs.FrameCuts.{remaining, WriteOn, LeftRun, LeftClosing, LeftIn}
use Rattle.laws.proofs.FrameEvents.{accepted}
use Rattle.laws.proofs.FrameMarks.{is_raising}
use Rattle.laws.proofs.FrameSteps.{remaining-is}

-- The begin of a doorway.

-- the access of what is done begins a doorway; so does a unit that settles a choosing bit at 1 anew, after its call has begun it
abbrev pub begins_at : Doing → Access → Bool
begins_at (Runs command number at) a = is_raising at.part && is_fresh at.run
begins_at (Closes command number (Settles f bit begun taken is t)) a = (a.reader == 0) && raises f a.how
begins_at _ a = false

abbrev pub begins_with : Option Access → Doing → Bool
begins_with None d = false
begins_with (Some a) d = begins_at d a

-- the access is the first begin of a write of `Choosing` 1
abbrev raises_by : Access → Bool
raises_by a = (a.reader == 0) && raises a.field a.how

raises-read : (f : Field) (v b : Bool) → raises f (ended v (cond b (EndRead false) BeginRead)) ≡ false
raises-read Choosing v true = refl
raises-read _ v _ = refl

read-raises : (x : Part) → is_read x ≡ true → is_raising x ≡ false
read-raises Raises h = cc
read-raises _ h = refl

-- an access of a write of choosing
choosing-begins : (bits : List Bool) (w : NumberWrite) (v : Bool) → ((r : copies.Writing) → w.run ≡ Some r → 0 < r.made) →
    (((bit_written bits w).made / 2 == 0) && raises Choosing (ended v (cond ((bit_written bits w).made % 2 == 0) (BeginWrite (bit_written bits w).value) EndWrite))) ≡ (is_none w.run && slice_index_or bits w.bit false)
choosing-begins bits w v begun = go w.run begun
  where
    first : copies.Writing
    first = record { value = slice_index_or bits w.bit false; made = 0; ended = false }

    moves : copies.Writing → Bool
    moves r = (r.made / 2 == 0) && raises Choosing (ended v (cond (r.made % 2 == 0) (BeginWrite r.value) EndWrite))

    go : (run : Option copies.Writing) → ((r : copies.Writing) → run ≡ Some r → 0 < r.made) → moves (unwrap_or run first) ≡ (is_none run && slice_index_or bits w.bit false)
    go None b = refl
    go (Some r) b = parity (r.made % 2 == 0) refl
      where
        some : 0 < r.made
        some = b r refl

        parity : (q : Bool) → (r.made % 2 == 0) ≡ q → ((r.made / 2 == 0) && raises Choosing (ended v (cond q (BeginWrite r.value) EndWrite))) ≡ false
        parity false i = and_false (r.made / 2 == 0)
        parity true i =
            let even : r.made % 2 ≡ 0 = eqb-true (r.made % 2) 0 i in
            ap (λ z. z && r.value) (ne_eqb (r.made / 2) 0 (λ u. omega (arith, u, even, some)))

-- a write of one bit
one_bit : (n : ℕ) (b : Bool) (w : NumberWrite) → WriteOn n (b ∷ []) w → w.bit ≡ 0
one_bit n b w on = omega (arith, on.goes.inside, on.goes.width)

other-begins : (f : Field) (r : ℕ) (m : Move) → f ≢ Choosing → ((r == 0) && raises f m) ≡ false
other-begins Choosing r m h = absurd (h refl)
other-begins _ r m h = and_false (r == 0)

other-field : (a : Access) → a.field ≢ Choosing → raises_by a ≡ false
other-field a h = other-begins a.field a.reader a.how h

not-choosing : (b : Bool) → (image_field b ≢ Choosing) × (stamp_field b ≢ Choosing)
not-choosing true = ((λ h. cc), λ h. cc)
not-choosing false = ((λ h. cc), λ h. cc)

-- an access of a write at a part
part-begins : (c : Call) (x : Part) (w : NumberWrite) (v : Bool) → is_over x ≡ false → is_read x ≡ false → WriteOn c.setup.processes (written_at c x).1 w →
    raises_by (ended_with v (access_at c x (Writing w))) ≡ (is_raising x && is_fresh (Writing w))
part-begins c Raises w v o r on =
    choosing-begins (true ∷ []) w v on.begun
    ∙ ap (λ k. is_none w.run && slice_index_or (true ∷ []) k false) (one_bit c.setup.processes true w on)
    ∙ and_true (is_none w.run)
    ∙ sym (ap (λ k. (k == 0) && is_none w.run) (one_bit c.setup.processes true w on))
part-begins c (part.Lowers t) w v o r on =
    choosing-begins (false ∷ []) w v on.begun ∙ ap (λ k. is_none w.run && slice_index_or (false ∷ []) k false) (one_bit c.setup.processes false w on) ∙ and_false (is_none w.run)
part-begins c (Refuses f) w v o r on =
    choosing-begins (false ∷ []) w v on.begun ∙ ap (λ k. is_none w.run && slice_index_or (false ∷ []) k false) (one_bit c.setup.processes false w on) ∙ and_false (is_none w.run)
part-begins c (TakesTicket t) w v o r on = other-field (ended_with v (access_at c (TakesTicket t) (Writing w))) (λ h. cc)
part-begins c (Clears a) w v o r on = other-field (ended_with v (access_at c (Clears a) (Writing w))) (λ h. cc)
part-begins c (WritesImage vs st) w v o r on = other-field (ended_with v (access_at c (WritesImage vs st) (Writing w))) (not-choosing (not (version_of vs c.process))).0
part-begins c (WritesStamp vs st) w v o r on = other-field (ended_with v (access_at c (WritesStamp vs st) (Writing w))) (not-choosing (not (version_of vs c.process))).1
part-begins c (WritesCommit vs st) w v o r on = other-field (ended_with v (access_at c (WritesCommit vs st) (Writing w))) (λ h. cc)
part-begins c _ w v o r on = cc

place-begins : (c : Call) (torn : Option Access) (x : Part) (run : Run) (v : Bool) → is_over x ≡ false → LeftRun c torn x run → raises_by (ended_with v (access_at c x run)) ≡ (is_raising x && is_fresh run)
place-begins c torn x (Writing w) v o l = part-begins c x w v o l.0 l.1
place-begins c torn x (Reading bits begun) v o l =
    ap (λ b. (c.process == 0) && b) (raises-read (read_at c x).1 v begun) ∙ and_false (c.process == 0) ∙ sym (ap (λ b. b && is_fresh (Reading bits begun)) (read-raises x l.0))

closing-begins : (c : Call) (torn : Option Access) (command : Command) (number : ℕ) (at : Closing) (flick : Bool) (n : Next) → LeftClosing c torn at → closing_next c at flick ≡ Some n → raises_by n.access ≡ begins_at (Closes command number at) n.access
closing-begins c torn command number at flick n l h = subst (λ (a : Access). raises_by a ≡ begins_at (Closes command number at) a) (ap access_in h) (go at l h)
  where
    go : (at : Closing) → LeftClosing c torn at → closing_next c at flick ≡ Some n → raises_by (access_in (closing_next c at flick)) ≡ begins_at (Closes command number at) (access_in (closing_next c at flick))
    go (Withdraws w) l h = other-field (access_in (closing_next c (Withdraws w) flick)) (λ h. cc)
    go (Settles f bit begun taken is t) l h = refl
    go (Frees is w) l h = other-field (access_in (closing_next c (Frees is w) flick)) (λ h. cc)
    go (Lowers w) l h = lowers w l
      where
        bits : List Bool
        bits = false ∷ []

        lowers : (w : NumberWrite) → WriteOn c.setup.processes bits w → (((bit_written bits w).made / 2 == 0) && raises Choosing (cond ((bit_written bits w).made % 2 == 0) (BeginWrite (bit_written bits w).value) EndWrite)) ≡ false
        lowers w on = sym (ap (λ m. ((bit_written bits w).made / 2 == 0) && raises Choosing m) (plain ((bit_written bits w).made % 2 == 0)))
            ∙ choosing-begins bits w false on.begun ∙ ap (λ k. is_none w.run && slice_index_or bits k false) (one_bit c.setup.processes false w on) ∙ and_false (is_none w.run)
          where
            plain : (b : Bool) → ended false (cond b (BeginWrite (bit_written bits w).value) EndWrite) ≡ cond b (BeginWrite (bit_written bits w).value) EndWrite
            plain true = refl
            plain false = refl
    go Quit l h = cc
    go Ended l h = cc

begins-of : (e : Entry) (o : Option Access) → e.access ≡ o → begins_doorway e ≡ elim o as (λ _. Bool) [ None ↦ false | Some a ↦ raises_by a ]
begins-of e o h = ap (λ o. elim o as (λ _. Bool) [ None ↦ false | Some a ↦ raises_by a ]) h

begins-happens : (s : Setup) (past : Past) (p : ℕ) (e : Entry) (torn : Option Access) (d d' : Doing) → Happens s past p e d d' → LeftIn s p torn d → begins_doorway e ≡ begins_with e.access d
begins-happens s past p e torn d d' (a_call command number was none marks then) l = begins-of e None none ∙ sym (ap (λ o. begins_with o d) none)
begins-happens s past p e torn d d' (a_withdrawal command number t w ws run was none marks then) l = begins-of e None none ∙ sym (ap (λ o. begins_with o d) none)
begins-happens s past p e torn d d' (a_failure command number may none marks then) l = begins-of e None none ∙ sym (ap (λ o. begins_with o d) none)
begins-happens s past p e torn d d' (a_restart was none marks then) l = begins-of e None none ∙ sym (ap (λ o. begins_with o d) none)
begins-happens s past p e torn d d' (a_step command number at a flick was over access is marks then) l =
    begins-of e (Some a) access ∙ ap raises_by is
    ∙ place-begins (call s p command number) torn at.part at.run (read_value (opening_bit s (access_at (call s p command number) at.part at.run)) (moves_of (access_at (call s p command number) at.part at.run) past) flick) over
    (subst (LeftIn s p torn) was l)
    ∙ sym (ap (λ o. begins_with o d) access ∙ ap (λ d. begins_at d a) was)
begins-happens s past p e torn d d' (a_closing command number at flick n was next access same marks then) l =
    begins-of e (Some n.access) access ∙ closing-begins (call s p command number) torn command number at flick n (subst (LeftIn s p torn) was l) next
    ∙ sym (ap (λ o. begins_with o d) access ∙ ap (λ d. begins_at d n.access) was)

-- A doorway begins with the first access of part `Raises`.
pub begins-is : (s : Setup) → IsGood s → (events : List Event) (what : Event) (e : Entry) → entry_of s (past_of s events) what ≡ Some e →
    begins_doorway e ≡ begins_with e.access (doing s e.process (past_of s events))
begins-is s g events what e h = begins-happens s (past_of s events) e.process e (remaining s (own e.process (past_of s events))) (doing s e.process (past_of s events)) (doing s e.process (e ∷ past_of s events))
    (accepted s g events what e h).happens (remaining-is s g events e.process)
