-- The last end of a write of a part: what it shows then, and what comes next.
use Rattle.std.proofs.Common.{◌≡◌, ◌≢◌, ℕ, suc, ◌+◌, ◌<◌, ◌≤◌, Bool, true, false, cond, List, [], ◌∷◌, length, refl, sym, subst, arith}
use Rattle.std.proofs.lemmas.Bool.{false≢true}
use Rattle.std.specs.Prelude.{◌^◌}
use Rattle.model.specs.{Call, Field, Past, Writing, enter, greatest, is_fresh, is_last, others, place_after, reply, write_moved}
use Rattle.model.specs.declared.access.Field.TheVariants.{Choosing, Ticket}
use Rattle.model.specs.safe_number.{NumberWrite}
use Rattle.model.proofs.safe_number.Bits.{length-bits_of_number}
use Rattle.plain_store.specs.declared.Answer.TheVariants as answer
use Rattle.plain_store.specs.{Command, Setup}
use Rattle.model.specs.Parts.{Part, Raises, TakesTicket, Lowers, Refuses, WritesImage, WritesStamp, WritesCommit, Clears, is_read, is_over, written_at, part_after, to_b}
use Rattle.model.proofs.Width.{IsGood}
use Rattle.laws.specs.{Rests, Runs, call, runs, is_inside_at}
use Rattle.laws.proofs.Notes.{Notes, noted}
use Rattle.laws.proofs.Invariant.{Wires, Touches, Closed, bit, ticket_of, Asked, IsInDoorway, PartCorresponds, Inv, Moves, next_time}
use Rattle.laws.proofs.Others.{each_other}
use Rattle.laws.proofs.Owner.{not_so, owner_announces, owner_takes}
use Rattle.laws.proofs.Ready.{Ready, later, ready_later, rests, starts}
use Rattle.laws.proofs.Next.{asked_each, to_b_moves, to_d_moves, to_h_moves}
use Rattle.laws.proofs.Writing.{OneField, Advanced}
use Rattle.laws.proofs.Writes.{still, part_breaks, part_corresponds, write_goes_on}

-- a register that is whole: all copies of all its bits are done
abbrev Finished : Setup → List Bool → Wires → Field → Type 0
Finished s bits m f = (k r : ℕ) → k < length bits → r < s.processes → Closed (m f k r) (bit bits k)

-- the notes with an announcement that is whole now
abbrev announcing : ℕ → Notes → Notes
announcing now n = record n { announced = true; announced_at = now; since = now }

ready_announced : (s : Setup) (past : Past) (p : ℕ) (n : Notes) (m : Wires) (t : ℕ → ℕ → Touches) → p < s.processes → Inv s past → Ready s past p false n m t → n.holds ≡ false → Finished s (true ∷ []) m Choosing →
    Ready s past p false (announcing (next_time past) n) m t
ready_announced s past p n m t below inv r free whole = record {
  times = record {
    announced_at_past = omega arith;
    held_at_past = r.times.held_at_past;
    began_past = r.times.began_past;
    ended_past = r.times.ended_past;
    since_past = omega arith;
    choosing_past = r.times.choosing_past;
    asked_past = r.times.asked_past;
    let_past = r.times.let_past;
  };
  whole = record { choosing = λ e c low. whole 0 c (omega arith) low; ticket_whole = r.whole.ticket_whole };
  senior = record {
    fits = λ e. not_so free e;
    positive = λ e. not_so free e;
    began_before = λ e. not_so free e;
    from = λ e. not_so free e;
    above = λ e. not_so free e;
    held = r.senior.held;
    passed = λ e. absurd (false≢true e);
  };
  knows = r.knows;
  owner = λ q low ne. owner_announces s p _ _ _ _ _ _ free ((inv.own q low).past.choosing_past p) (inv.own q low).past.since_past (r.owner q low ne);
}

-- the announcement of p is whole: p asks for the tickets
announced : (s : Setup) → IsGood s → (past : Past) (p : ℕ) (command : Command) (number : ℕ) (n : Notes) (m : Wires) (t : ℕ → ℕ → Touches) → p < s.processes → Inv s past → Ready s past p false n m t → n.holds ≡ false → Finished s (true ∷ []) m Choosing →
    Moves s past p (runs command number (enter (call s p command number) (to_b (call s p command number) (others s p) []))) (announcing (next_time past) n) m t
announced s g past p command number n m t below inv r free whole =
    let began : n.began < suc (next_time past) = r.times.began_past in
    to_b_moves s g past p command number (announcing (next_time past) n) m t (ready_announced s past p n m t below inv r free whole) (record { free = free; whole = refl; began_before = omega arith }) (omega arith) [] (others s p) [] refl tt

-- the notes with a ticket that is whole now
abbrev taking : ℕ → ℕ → Notes → Notes
taking now ticket n = record n { holds = true; ticket = ticket; held_at = now; since = now }

-- the knowledge of p when it takes a ticket
abbrev IsTaking : Setup → ℕ → Notes → ℕ → Type 0
IsTaking s p n ticket = IsInDoorway n × ((ts : List ℕ) × Asked s n.announced_at n.asked_from n.asked (others s p) ts × (ticket ≡ greatest ts + 1) × (ticket < 2 ^ s.ticket_bits))

ready_taken : (s : Setup) (past : Past) (p ticket : ℕ) (n : Notes) (m : Wires) (t : ℕ → ℕ → Touches) → p < s.processes → Inv s past → Ready s past p false n m t → IsTaking s p n ticket → Finished s (ticket_of s ticket) m Ticket →
    Ready s past p false (taking (next_time past) ticket n) m t
ready_taken s past p ticket n m t below inv r st whole = record {
  times = record {
    announced_at_past = r.times.announced_at_past;
    held_at_past = omega arith;
    began_past = r.times.began_past;
    ended_past = r.times.ended_past;
    since_past = omega arith;
    choosing_past = r.times.choosing_past;
    asked_past = r.times.asked_past;
    let_past = r.times.let_past;
  };
  whole = record { choosing = r.whole.choosing; ticket_whole = λ e k c wide low. whole k c (let same = length-bits_of_number s.ticket_bits ticket in omega arith) low };
  senior = record {
    fits = λ e. st.1.3;
    positive = λ e. let same : ticket ≡ greatest st.1.0 + 1 = st.1.2 in omega arith;
    began_before = λ e. st.0.began_before;
    from = λ e j low ne. (asked j low ne).0;
    above = λ e j low ne. let same : ticket ≡ greatest st.1.0 + 1 = st.1.2 in let most : n.asked j ≤ greatest st.1.0 = (asked j low ne).1 in omega arith;
    held = λ e. refl;
    passed = λ e. absurd (false≢true e);
  };
  knows = r.knows;
  owner = λ q low ne. owner_takes s p _ _ _ _ _ _ (record { was_announced = st.0.whole; announced_at = refl; choosing_marks = λ k. refl }) ((inv.own q low).past.asked_past p) ((inv.own q low).past.let_past p) (inv.own q low).past.since_past (r.owner q low ne);
}
  where
    asked : (j : ℕ) → j < s.processes → j ≢ p → (n.announced_at ≤ n.asked_from j) × (n.asked j ≤ greatest st.1.0)
    asked = each_other s p (λ j. (n.announced_at ≤ n.asked_from j) × (n.asked j ≤ greatest st.1.0)) (asked_each s n.announced_at n.asked_from n.asked (others s p) st.1.0 st.1.1)

-- the ticket of p is whole: p lowers its choosing
taken : (s : Setup) → IsGood s → (past : Past) (p : ℕ) (command : Command) (number ticket : ℕ) (n : Notes) (m : Wires) (t : ℕ → ℕ → Touches) → p < s.processes → Inv s past → Ready s past p false n m t → IsTaking s p n ticket → Finished s (ticket_of s ticket) m Ticket →
    Moves s past p (runs command number (enter (call s p command number) (Lowers ticket))) (taking (next_time past) ticket n) m t
taken s g past p command number ticket n m t below inv r st whole =
    starts s g past p command number (Lowers ticket) (taking (next_time past) ticket n) m t refl (ready_taken s past p ticket n m t below inv r st whole) (refl, refl, omega arith)

-- the choosing of p is lowered: p waits for the others, in their order
lowered : (s : Setup) → IsGood s → (past : Past) (p : ℕ) (command : Command) (number ticket : ℕ) (n : Notes) (m : Wires) (t : ℕ → ℕ → Touches) → Ready s past p false n m t → n.holds ≡ true → n.ticket ≡ ticket →
    Moves s past p (runs command number (enter (call s p command number) (part_after (call s p command number) (Lowers ticket) []))) (later n (next_time past) (next_time past)) m t
lowered s g past p command number ticket n m t r holding same =
    let held : n.held_at < suc (next_time past) = r.times.held_at_past in
    to_d_moves s g past p command number (later n (next_time past) (next_time past)) m t (ready_later s past p false n (next_time past) (next_time past) m t (omega arith) (omega arith) r) ticket holding same (omega arith) (omega arith) [] (others s p) refl tt

-- The last end of any part: p is ready with its new registers, and continues with the next part.
part_wrote : (s : Setup) → IsGood s → (past : Past) (p : ℕ) (command : Command) (number : ℕ) (part : Part) (fresh : Bool) (n : Notes) (m : Wires) (t : ℕ → ℕ → Touches)
    → let c : Call = call s p command number in
    is_read part ≡ false → is_over part ≡ false → p < s.processes → Inv s past → Ready s past p (is_inside_at part false) (still c (next_time past) part fresh n) m t → PartCorresponds s p (still c (next_time past) part fresh n) part false →
    Finished s (written_at c part).1 m (written_at c part).0 → Moves s past p (runs command number (enter c (part_after c part []))) (noted c (next_time past) part fresh true [] n) m t
part_wrote s g past p command number Raises fresh n m t w o below inv r st whole = announced s g past p command number (still (call s p command number) (next_time past) Raises fresh n) m t below inv r st whole
part_wrote s g past p command number (TakesTicket t0) fresh n m t w o below inv r st whole =
    taken s g past p command number t0 (still (call s p command number) (next_time past) (TakesTicket t0) fresh n) m t below inv r st whole
part_wrote s g past p command number (Lowers t0) fresh n m t w o below inv r st whole = lowered s g past p command number t0 (still (call s p command number) (next_time past) (Lowers t0) fresh n) m t r st.0 st.1
part_wrote s g past p command number (Refuses f) fresh n m t w o below inv r st whole =
    rests s past p (noted (call s p command number) (next_time past) (Refuses f) fresh true [] n) m t (ready_later s past p false (still (call s p command number) (next_time past) (Refuses f) fresh n) n.ended (next_time past) m t r.times.ended_past (omega arith) r) st
part_wrote s g past p command number (WritesImage vs store) fresh n m t w o below inv r st whole =
    starts s g past p command number (WritesStamp vs store) (noted (call s p command number) (next_time past) (WritesImage vs store) fresh true [] n) m t refl
    (ready_later s past p true (still (call s p command number) (next_time past) (WritesImage vs store) fresh n) n.ended (next_time past) m t r.times.ended_past (omega arith) r) tt
part_wrote s g past p command number (WritesStamp vs store) fresh n m t w o below inv r st whole =
    starts s g past p command number (WritesCommit vs store) (noted (call s p command number) (next_time past) (WritesStamp vs store) fresh true [] n) m t refl
    (ready_later s past p true (still (call s p command number) (next_time past) (WritesStamp vs store) fresh n) n.ended (next_time past) m t r.times.ended_past (omega arith) r) tt
part_wrote s g past p command number (WritesCommit vs store) fresh n m t w o below inv r st whole =
    to_h_moves s g past p command number (noted (call s p command number) (next_time past) (WritesCommit vs store) fresh true [] n) m t
    (ready_later s past p true (still (call s p command number) (next_time past) (WritesCommit vs store) fresh n) n.ended (next_time past) m t r.times.ended_past (omega arith) r)
    (answer.Reply (reply (call s p command number) store))
part_wrote s g past p command number (Clears a) fresh n m t w o below inv r st whole =
    rests s past p (noted (call s p command number) (next_time past) (Clears a) fresh true [] n) m t (ready_later s past p false (still (call s p command number) (next_time past) (Clears a) fresh n) n.ended (next_time past) m t r.times.ended_past (omega arith) r) refl
part_wrote s g past p command number _ fresh n m t w o below inv r st whole = cc

-- Every access of a write of a part.
pub part_writes : (s : Setup) → IsGood s → (past : Past) (p : ℕ) (command : Command) (number : ℕ) (part : Part) (w : NumberWrite) (v : Bool) (n : Notes) (m m' : Wires) (t t' : ℕ → ℕ → Touches)
    → let c : Call = call s p command number in
    is_read part ≡ false → is_over part ≡ false → p < s.processes → Inv s past → Ready s past p (is_inside_at part (is_fresh (Writing w))) n m t → PartCorresponds s p n part (is_fresh (Writing w)) →
    OneField p (written_at c part).0 m m' t t' → Advanced s.processes (written_at c part).1 w m' (written_at c part).0 →
    Moves s past p (runs command number (place_after c (record { part = part; run = Writing w }) v)) (noted c (next_time past) part (is_fresh (Writing w)) (is_last c part (Writing w)) [] n) m' t'
part_writes s g past p command number part w v n m m' t t' read over below inv r corresponds one advanced = go (is_last c part (Writing w)) refl
  where
    c : Call
    c = call s p command number

    fresh : Bool
    fresh = is_fresh (Writing w)

    go : (b : Bool) → is_last c part (Writing w) ≡ b
        → Moves s past p (runs command number (cond b (enter c (part_after c part [])) (record { part = part; run = Writing (write_moved s.processes (written_at c part).1 w) }))) (noted c (next_time past) part fresh b [] n) m' t'
    go true e = part_wrote s g past p command number part fresh n m' t' read over below inv (part_breaks s past p command number part fresh n m m' t t' read over corresponds one r)
        (part_corresponds s p c (next_time past) part fresh n read corresponds) (advanced.all e)
    go false e = subst (λ b. Moves s past p (cond b Rests (Runs command number (record { part = part; run = Writing (write_moved s.processes (written_at c part).1 w) }))) (still c (next_time past) part fresh n) m' t') (sym over)
        (write_goes_on s past p command number part w n m m' t t' read over corresponds one advanced r e)
