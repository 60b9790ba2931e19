-- The calls that may still be taken. A call that is taken was pending before and is not pending after. Only a call event makes another one pending.
use Rattle.std.proofs.Common.{◌≡◌, ℕ, zero, suc, ◌+◌, ◌≤◌, ◌==◌, ◌&&◌, Bool, true, false, cond, List, [], ◌∷◌, ◌++◌, Option, Some, None, length, map, refl, sym, ap, ◌∙◌, arith}
use Rattle.std.specs.Prelude.{is_some, slice_get, slice_set}
use Rattle.model.specs.{Call, Change, Field, Mark, Part, Place, TornBit, begun_at, begun_closing, bits_with, cut, enter, entered_if_none, first_marks, is_commit, is_fresh, is_last, is_over, last_marks, lets_by, max_of, newest_stamp, part_after, pending_at, place_after, reply, reply_taken, run_after, store_read, taken_with, torn_at, torn_closing, waits_of, write_moved}
use Rattle.plain_store.specs.declared.Answer.TheVariants as answer
use Rattle.plain_store.specs.{Command, Reply, Setup, changes}
use Rattle.model.specs.declared.marks.Mark.TheVariants.{Taken, Left, Answered, Settled, Down}
use Rattle.model.specs.Closings.{Closing, Withdraws, Settles, Frees, Lowers, Quit, Ended, no_ticket, is_unwritten, is_last_written, is_last_settled, settled_marks, freeing, closing_after}
use Rattle.model.specs.Parts as part
use Rattle.model.specs.reader_copies.Runs as copies
use Rattle.model.specs.safe_number.{new_write}
use Rattle.laws.specs.{Closes, Doing, Lies, Rests, Runs, call, closes, cut_of, does_then, is_inside, marks_with, runs}
use Rattle.world.specs.{Seat, is_open_part, is_pending, pending, pending_in, reported}
use Rattle.history_laws.proofs.Outside.{entered-none}

-- a call that is over is not pending
over-done : (x : Part) → is_over x ≡ true → is_open_part x ≡ false
over-done part.Over h = refl
over-done _ h = cc

pending-runs : (command : Command) (number : ℕ) (to : Place) → is_pending (runs command number to) ≡ is_open_part to.part
pending-runs command number to = go (is_over to.part) refl
  where
    go : (b : Bool) → is_over to.part ≡ b → is_pending (cond b Rests (Runs command number to)) ≡ is_open_part to.part
    go true o = sym (over-done to.part o)
    go false o = refl

-- after an access of a part
part-then : (c : Call) (at : Place) (v : Bool) → (place_after c at v).part ≡ cond (is_last c at.part at.run) (part_after c at.part (bits_with at.run v)) at.part
part-then c at v = go (is_last c at.part at.run)
  where
    go : (b : Bool) → (cond b (enter c (part_after c at.part (bits_with at.run v))) (let y : Place = record { part = at.part; run = run_after c at.part at.run v } in y)).part ≡ cond b (part_after c at.part (bits_with at.run v)) at.part
    go true = refl
    go false = refl

done-after : (c : Call) (x : Part) (v : List Bool) → is_open_part x ≡ false → is_open_part (part_after c x v) ≡ false
done-after c (part.Clears a) v h = refl
done-after c part.Over v h = refl
done-after c _ v h = cc

-- the part whose last access takes a command is followed by the clearing
takes-last : (c : Call) (x : Part) (v : List Bool) (r : Reply) → reply_taken (last_marks c x v) ≡ Some r → (is_open_part x ≡ true) × (is_open_part (part_after c x v) ≡ false)
takes-last c (part.Lowers t) v r h = let f : None ≡ Some r = sym (entered-none (waits_of c)) ∙ h in cc
takes-last c (part.Waits t w ws) v r h = go (lets_by c t w v) h
  where
    go : (b : Bool) → reply_taken (cond b (entered_if_none ws) []) ≡ Some r → (true ≡ true) × (is_open_part (part_after c (part.Waits t w ws) v) ≡ false)
    go true h = let f : None ≡ Some r = sym (entered-none ws) ∙ h in cc
    go false h = cc
takes-last c (part.AsksImage vs) v r h = (refl, go (changes (store_read c v) c.command) h)
  where
    next : Bool → Part
    next b = elim b [ false ↦ part.Clears (answer.Reply (reply c (store_read c v))) | true ↦ elim (newest_stamp vs == max_of c.setup.stamp_bits) [ true ↦ part.Clears answer.StampsFull | false ↦ part.WritesImage vs (store_read c v) ] ]

    go : (b : Bool) → reply_taken (cond b [] (Taken 0 (reply c (store_read c v)) ∷ [])) ≡ Some r → is_open_part (next b) ≡ false
    go true h = cc
    go false h = refl
takes-last c (part.WritesCommit vs st) v r h = (refl, refl)
takes-last c part.Raises v r h = cc
takes-last c (part.Asks j js ts) v r h = cc
takes-last c (part.TakesTicket t) v r h = cc
takes-last c (part.Refuses f) v r h = cc
takes-last c (part.AsksCommit k ks vs) v r h = cc
takes-last c (part.AsksStamp k ks vs b) v r h = cc
takes-last c (part.WritesImage vs st) v r h = cc
takes-last c (part.WritesStamp vs st) v r h = cc
takes-last c (part.Clears a) v r h = cc
takes-last c part.Over v r h = cc

-- the first marks of a part take nothing
taken-first : (x : Part) (b : Bool) (ms : List Mark) → reply_taken (cond b (first_marks x) [] ++ ms) ≡ reply_taken ms
taken-first (part.Clears a) true ms = refl
taken-first part.Raises true ms = refl
taken-first (part.Asks j js ts) true ms = refl
taken-first (part.TakesTicket t) true ms = refl
taken-first (part.Lowers t) true ms = refl
taken-first (part.Refuses f) true ms = refl
taken-first (part.Waits t w ws) true ms = refl
taken-first (part.AsksCommit k ks vs) true ms = refl
taken-first (part.AsksStamp k ks vs b) true ms = refl
taken-first (part.AsksImage vs) true ms = refl
taken-first (part.WritesImage vs st) true ms = refl
taken-first (part.WritesStamp vs st) true ms = refl
taken-first (part.WritesCommit vs st) true ms = refl
taken-first part.Over true ms = refl
taken-first x false ms = refl

taken-none : (ms : List Mark) (b : Bool) (r : Reply) → reply_taken (cond b ms []) ≡ Some r → (b ≡ true) × (reply_taken ms ≡ Some r)
taken-none ms true r h = (refl, h)
taken-none ms false r h = cc

-- a step that takes a command
abbrev Takes : Doing → Doing → Type 0
Takes d to = (is_pending d ≡ true) × (is_pending to ≡ false)

closes-pending : (command : Command) (number : ℕ) (at : Closing) → is_pending (closes command number at) ≡ is_pending (Closes command number at)
closes-pending command number (Withdraws w) = refl
closes-pending command number (Settles f bit begun taken is t) = refl
closes-pending command number (Frees is w) = refl
closes-pending command number (Lowers w) = refl
closes-pending command number Quit = refl
closes-pending command number Ended = refl

takes-settles : (c : Call) (f : Field) (bit : ℕ) (begun : Bool) (taken : Option Reply) (is : Bool) (t : copies.Settling) (v : Bool) (r : Reply) → reply_taken (cond (is_last_settled c t v) (settled_marks begun taken v) []) ≡ Some r →
    (is_some taken ≡ true) × (is_last_settled c t v ≡ true)
takes-settles c f bit begun None is t v r h = let k = taken-none (Settled v ∷ []) (is_last_settled c t v) r h in let f : None ≡ Some r = k.1 in cc
takes-settles c f bit begun (Some x) is t v r h = (refl, (taken-none (settled_marks begun (Some x) v) (is_last_settled c t v) r h).0)

pub takes : (s : Setup) (p : ℕ) (d : Doing) (flick v : Bool) (r : Reply) → reply_taken (marks_with s p d flick v) ≡ Some r → Takes d (does_then s p d flick v)
takes s p Rests flick v r h = cc
takes s p Lies flick v r h = cc
takes s p (Runs command number at) flick v r h =
    let c : Call = call s p command number in
    let bits : List Bool = bits_with at.run v in
    let k = taken-none (last_marks c at.part bits) (is_last c at.part at.run) r (sym (taken-first at.part (is_fresh at.run) (cond (is_last c at.part at.run) (last_marks c at.part bits) [])) ∙ h) in
    let m = takes-last c at.part bits r k.1 in
    (m.0, pending-runs command number (place_after c at v) ∙ ap is_open_part (part-then c at v ∙ ap (λ b. cond b (part_after c at.part bits) at.part) k.0) ∙ m.1)
takes s p (Closes command number (Withdraws w)) flick v r h = go (is_last_written (call s p command number) (no_ticket (call s p command number)) w) h
  where
    go : (b : Bool) → reply_taken (cond b (Answered answer.Withdrawn ∷ []) []) ≡ Some r → Takes (Closes command number (Withdraws w)) (does_then s p (Closes command number (Withdraws w)) flick v)
    go true h = cc
    go false h = cc
takes s p (Closes command number (Settles f bit begun taken is t)) flick v r h =
    let c : Call = call s p command number in
    let k = takes-settles c f bit begun taken is t (copies.settled_at t flick) r h in (
      k.0,
      closes-pending command number (closing_after c (Settles f bit begun taken is t) flick)
          ∙ ap (λ b. is_pending (Closes command number (cond b (freeing c is) (Settles f bit begun taken is (copies.settle_after t (copies.settled_at t flick)))))) k.1,
    )
takes s p (Closes command number (Frees is w)) flick v r h = go (is && is_unwritten w) h
  where
    go : (b : Bool) → reply_taken (cond b (Left ∷ []) []) ≡ Some r → Takes (Closes command number (Frees is w)) (does_then s p (Closes command number (Frees is w)) flick v)
    go true h = cc
    go false h = cc
takes s p (Closes command number (Lowers w)) flick v r h = go (is_last_written (call s p command number) (false ∷ []) w) h
  where
    go : (b : Bool) → reply_taken (cond b (Down ∷ []) []) ≡ Some r → Takes (Closes command number (Lowers w)) (does_then s p (Closes command number (Lowers w)) flick v)
    go true h = cc
    go false h = cc
takes s p (Closes command number Quit) flick v r h = cc
takes s p (Closes command number Ended) flick v r h = cc

-- a closing makes no call pending
closing-keeps : (c : Call) (command : Command) (number : ℕ) (at : Closing) (flick : Bool) → is_pending (Closes command number at) ≡ false → is_pending (Closes command number (closing_after c at flick)) ≡ false
closing-keeps c command number (Withdraws w) flick h = go (is_last_written c (no_ticket c) w)
  where
    go : (b : Bool) → is_pending (Closes command number (cond b Quit (Withdraws (write_moved c.setup.processes (no_ticket c) w)))) ≡ false
    go true = refl
    go false = refl
closing-keeps c command number (Settles f bit begun taken is t) flick h = go (is_last_settled c t (copies.settled_at t flick))
  where
    go : (b : Bool) → is_pending (Closes command number (cond b (freeing c is) (Settles f bit begun taken is (copies.settle_after t (copies.settled_at t flick))))) ≡ false
    go true = refl
    go false = h
closing-keeps c command number (Frees is w) flick h = go (is_last_written c (no_ticket c) w)
  where
    go : (b : Bool) → is_pending (Closes command number (cond b (Lowers (new_write 1)) (Frees is (write_moved c.setup.processes (no_ticket c) w)))) ≡ false
    go true = refl
    go false = refl
closing-keeps c command number (Lowers w) flick h = go (is_last_written c (false ∷ []) w)
  where
    go : (b : Bool) → is_pending (Closes command number (cond b Ended (Lowers (write_moved c.setup.processes (false ∷ []) w)))) ≡ false
    go true = refl
    go false = refl
closing-keeps c command number Quit flick h = refl
closing-keeps c command number Ended flick h = refl

-- a step makes no call pending
pub keeps : (s : Setup) (p : ℕ) (d : Doing) (flick v : Bool) → is_pending d ≡ false → is_pending (does_then s p d flick v) ≡ false
keeps s p Rests flick v h = refl
keeps s p Lies flick v h = refl
keeps s p (Runs command number at) flick v h = pending-runs command number (place_after c at v) ∙ ap is_open_part (part-then c at v) ∙ go (is_last c at.part at.run)
  where
    c : Call
    c = call s p command number

    go : (b : Bool) → is_open_part (cond b (part_after c at.part (bits_with at.run v)) at.part) ≡ false
    go true = done-after c at.part (bits_with at.run v) h
    go false = h
keeps s p (Closes command number at) flick v h = closes-pending command number (closing_after (call s p command number) at flick) ∙ closing-keeps (call s p command number) command number at flick h

none-taken : (f : Field) (o : Option Change) → o ≡ None → is_some (taken_with f o) ≡ false
none-taken f o h = ap (λ o. is_some (taken_with f o)) h ∙ go (is_commit f)
  where
    go : (b : Bool) → is_some (cond b None (let n : Option Reply = None in n)) ≡ false
    go true = refl
    go false = refl

cut-pending : (c : Call) (command : Command) (number : ℕ) (torn : Option TornBit) (begun : Bool) (change : Option Change) (inside : Bool) → change ≡ None → is_pending (Closes command number (cut c torn begun change inside)) ≡ false
cut-pending c command number None begun change inside h = refl
cut-pending c command number (Some t) begun change inside h = none-taken t.field change h

done-change : (c : Call) (x : Part) → is_open_part x ≡ false → pending_at c x ≡ None
done-change c (part.Clears a) h = refl
done-change c part.Over h = refl
done-change c _ h = cc

-- a failure makes no call pending
pub fails-pending : (s : Setup) (p : ℕ) (command : Command) (number : ℕ) (d : Doing) → is_pending d ≡ false → is_pending (Closes command number (cut_of s p d)) ≡ false
fails-pending s p command number Rests h = refl
fails-pending s p command number Lies h = refl
fails-pending s p command number (Runs its called at) h =
    let c : Call = call s p its called in
    cut-pending c command number (torn_at c at) (begun_at c at) (pending_at c at.part) (is_inside (Runs its called at)) (done-change c at.part h)
fails-pending s p command number (Closes its called at) h =
    let c : Call = call s p its called in
    cut-pending c command number (torn_closing at) (begun_closing c at) None (is_inside (Closes its called at)) refl

-- The number of pending calls.

pub pending-reported : (p : ℕ) (waited waits : Bool) (seats : List Seat) → pending_in (map (reported p waited waits) seats) ≡ pending_in seats
pending-reported p waited waits [] = refl
pending-reported p waited waits (seat ∷ seats) = ap (λ n. pending seat + n) (pending-reported p waited waits seats)

-- one seat is changed
pub pending-set : (seats : List Seat) (p : ℕ) (then seat : Seat) → slice_get seats p ≡ Some seat → pending_in (slice_set seats p then) + pending seat ≡ pending_in seats + pending then
pending-set [] p then seat is = cc
pending-set (x ∷ xs) zero then seat is =
    let item : x ≡ seat = let both : Some x ≡ Some seat = is in cc in
    let same = ap pending item in
    omega (arith, same)
pending-set (x ∷ xs) (suc p) then seat is = let more = pending-set xs p then seat is in omega (arith, more)

pub pending-most : (seats : List Seat) → pending_in seats ≤ length seats
pending-most [] = omega arith
pending-most (seat ∷ seats) = let more = pending-most seats in go (is_pending seat.process.doing) more
  where
    go : (b : Bool) → pending_in seats ≤ length seats → cond b 1 0 + pending_in seats ≤ length (seat ∷ seats)
    go true l = omega (arith, l)
    go false l = omega (arith, l)
