-- The accesses of a write of a part: each except the last, and the last end.
use Rattle.std.proofs.Common.{◌≡◌, ℕ, suc, ◌<◌, ◌==◌, Bool, true, false, cond, List, [], refl, sym, subst, arith}
use Rattle.std.proofs.lemmas.Bool.{false≢true, cond_both}
use Rattle.std.specs.Prelude.{not}
use Rattle.model.specs.{Call, Field, Past, Writing, is_fresh, version_of, write_moved}
use Rattle.model.specs.declared.access.Field.TheVariants.{Choosing, Ticket}
use Rattle.model.specs.safe_number.{NumberWrite}
use Rattle.plain_store.specs.{Command, Setup}
use Rattle.model.specs.Parts.{Part, Raises, Asks, TakesTicket, Lowers, Refuses, Waits, AsksCommit, AsksStamp, AsksImage, WritesImage, WritesStamp, WritesCommit, Clears, Over, is_read, is_over, written_at}
use Rattle.laws.proofs.FrameInside.{moved-unfresh}
use Rattle.laws.specs.{Runs, call, is_inside_at}
use Rattle.laws.proofs.Notes.{Notes, notes, noted}
use Rattle.laws.proofs.Invariant.{Wires, Touches, PartCorresponds, CleanRun, Moves, next_time}
use Rattle.laws.proofs.Owner.{not_so}
use Rattle.laws.proofs.Ready.{Ready, moves_to}
use Rattle.laws.proofs.Writing.{OneField, Advanced}
use Rattle.laws.proofs.Breaks.{OfSection, commit_of_section, stamp_of_section, image_of_section, ticket_not_choosing, choosing_not_ticket, Breaks, ready_breaks}

-- The notes within a number access.
abbrev pub still : Call → ℕ → Part → (fresh : Bool) → Notes → Notes
still c now part fresh n = noted c now part fresh false [] n

-- The breaks of an access: a write of choosing breaks the announcement; a write of the ticket breaks the ticket, and p is not inside then; a write of the section breaks nothing.
pub choosing_breaks : (n : Notes) (began : ℕ) (is : Bool) → (n.holds ≡ true → began ≡ n.began) → (is ≡ true → n.holds ≡ true) → Breaks Choosing is is n false n.holds began
choosing_breaks n began is same held = record {
  announced_was = λ e. absurd (false≢true e);
  choosing_apart = λ e. absurd (false≢true e);
  holds_was = λ e. e;
  ticket_apart = λ e. ticket_not_choosing;
  began_was = same;
  inside_was = λ e. e;
  inside_holds = held;
}

pub ticket_breaks : (n : Notes) (is : Bool) → Breaks Ticket is false n n.announced false n.began
ticket_breaks n is = record {
  announced_was = λ e. e;
  choosing_apart = λ e. choosing_not_ticket;
  holds_was = λ e. absurd (false≢true e);
  ticket_apart = λ e. absurd (false≢true e);
  began_was = λ e. refl;
  inside_was = λ e. absurd (false≢true e);
  inside_holds = λ e. e;
}

pub nothing_breaks : (f : Field) (is : Bool) (n : Notes) → OfSection f → (is ≡ true → n.holds ≡ true) → Breaks f is is n n.announced n.holds n.began
nothing_breaks f is n of holding = record {
  announced_was = λ e. e;
  choosing_apart = λ e h. of.not_choosing (sym h);
  holds_was = λ e. e;
  ticket_apart = λ e h. of.not_ticket (sym h);
  began_was = λ e. refl;
  inside_was = λ e. e;
  inside_holds = holding;
}

-- within a write p stays ready
pub part_breaks : (s : Setup) (past : Past) (p : ℕ) (command : Command) (number : ℕ) (part : Part) (fresh : Bool) (n : Notes) (m m' : Wires) (t t' : ℕ → ℕ → Touches) → is_read part ≡ false → is_over part ≡ false →
    PartCorresponds s p n part fresh → OneField p (written_at (call s p command number) part).0 m m' t t' → Ready s past p (is_inside_at part fresh) n m t →
    Ready s past p (is_inside_at part false) (still (call s p command number) (next_time past) part fresh n) m' t'
part_breaks s past p command number Raises fresh n m m' t t' w o st one r =
    ready_breaks s past p Choosing false false n false n.holds (cond fresh (next_time past) n.began) m m' t t' (choosing_breaks n (cond fresh (next_time past) n.began) false (λ e. not_so st e) r.senior.held) one
    (cond_both fresh (next_time past) n.began (λ b. b < suc (next_time past)) (λ e. omega arith) (λ e. r.times.began_past)) r
part_breaks s past p command number (TakesTicket t0) fresh n m m' t t' w o st one r = ready_breaks s past p Ticket false false n n.announced false n.began m m' t t' (ticket_breaks n false) one r.times.began_past r
part_breaks s past p command number (Lowers t0) fresh n m m' t t' w o st one r = ready_breaks s past p Choosing false false n false n.holds n.began m m' t t' (choosing_breaks n n.began false (λ e. refl) r.senior.held) one r.times.began_past r
part_breaks s past p command number (Refuses f) fresh n m m' t t' w o st one r = ready_breaks s past p Choosing false false n false n.holds n.began m m' t t' (choosing_breaks n n.began false (λ e. refl) r.senior.held) one r.times.began_past r
part_breaks s past p command number (WritesImage vs store) fresh n m m' t t' w o st one r =
    ready_breaks s past p _ true true n n.announced n.holds n.began m m' t t' (nothing_breaks _ true n (image_of_section (not (version_of vs p))) r.senior.held) one r.times.began_past r
part_breaks s past p command number (WritesStamp vs store) fresh n m m' t t' w o st one r =
    ready_breaks s past p _ true true n n.announced n.holds n.began m m' t t' (nothing_breaks _ true n (stamp_of_section (not (version_of vs p))) r.senior.held) one r.times.began_past r
part_breaks s past p command number (WritesCommit vs store) fresh n m m' t t' w o st one r =
    ready_breaks s past p _ true true n n.announced n.holds n.began m m' t t' (nothing_breaks _ true n commit_of_section r.senior.held) one r.times.began_past r
part_breaks s past p command number (Clears a) fresh n m m' t t' w o st one r = ready_breaks s past p Ticket fresh false n n.announced false n.began m m' t t' (ticket_breaks n fresh) one r.times.began_past r
part_breaks s past p command number _ fresh n m m' t t' w o st one r = cc

-- within a write p keeps its knowledge
pub part_corresponds : (s : Setup) (p : ℕ) (c : Call) (now : ℕ) (part : Part) (fresh : Bool) (n : Notes) → is_read part ≡ false → PartCorresponds s p n part fresh → PartCorresponds s p (still c now part fresh n) part false
part_corresponds s p c now Raises fresh n w st = st
part_corresponds s p c now (TakesTicket t) fresh n w st = (record { free = refl; whole = st.0.whole; began_before = st.0.began_before }, st.1)
part_corresponds s p c now (Lowers t) fresh n w st = st
part_corresponds s p c now (Refuses f) fresh n w st = st
part_corresponds s p c now (WritesImage vs store) fresh n w st = tt
part_corresponds s p c now (WritesStamp vs store) fresh n w st = tt
part_corresponds s p c now (WritesCommit vs store) fresh n w st = tt
part_corresponds s p c now (Clears a) fresh n w st = λ e. refl
part_corresponds s p c now (Asks j js ts) fresh n w st = cc
part_corresponds s p c now (Waits t0 a ws) fresh n w st = cc
part_corresponds s p c now (AsksCommit k ks vs) fresh n w st = cc
part_corresponds s p c now (AsksStamp k ks vs b) fresh n w st = cc
part_corresponds s p c now (AsksImage vs) fresh n w st = cc
part_corresponds s p c now Over fresh n w st = st

-- a write has nothing to be clean
writing_clean : (s : Setup) (o : ℕ) (part : Part) (w : NumberWrite) (since : ℕ) (u : Notes) (t : Touches) → CleanRun s o part (Writing w) since u t
writing_clean s o (Asks j js ts) w since u t = tt
writing_clean s o (Waits ticket a ws) w since u t = tt
writing_clean s o _ w since u t = tt

-- Each access except the last: p continues its write.
pub write_goes_on : (s : Setup) (past : Past) (p : ℕ) (command : Command) (number : ℕ) (part : Part) (w : NumberWrite) (n : Notes) (m m' : Wires) (t t' : ℕ → ℕ → Touches)
    → let c : Call = call s p command number in
    let bits : List Bool = (written_at c part).1 in
    is_read part ≡ false → is_over part ≡ false → PartCorresponds s p n part (is_fresh (Writing w)) → OneField p (written_at c part).0 m m' t t' → Advanced s.processes bits w m' (written_at c part).0 →
    Ready s past p (is_inside_at part (is_fresh (Writing w))) n m t → ((write_moved s.processes bits w).bit == w.width) ≡ false →
    Moves s past p (Runs command number (record { part = part; run = Writing (write_moved s.processes bits w) })) (still c (next_time past) part (is_fresh (Writing w)) n) m' t'
write_goes_on s past p command number part w n m m' t t' read over corresponds one advanced r more =
    moves_to s past p (Runs command number (record { part = part; run = Writing to })) after m' t'
    (subst (λ b. Ready s past p (is_inside_at part b) after m' t') (sym begun) (part_breaks s past p command number part (is_fresh (Writing w)) n m m' t t' read over corresponds one r))
    ((read, advanced.on more), subst (λ b. PartCorresponds s p after part b) (sym begun) (part_corresponds s p c (next_time past) part (is_fresh (Writing w)) n read corresponds))
    (λ o below ne. writing_clean s o part to after.since (notes s o past) (t' o p))
  where
    c : Call
    c = call s p command number

    to : NumberWrite
    to = write_moved s.processes (written_at c part).1 w

    after : Notes
    after = still c (next_time past) part (is_fresh (Writing w)) n

    begun : is_fresh (Writing to) ≡ false
    begun = moved-unfresh s.processes (written_at c part).1 w
