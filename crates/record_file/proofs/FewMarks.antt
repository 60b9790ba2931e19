-- The marks of a step are few, and take little room.
use Rattle.std.proofs.Common.{◌≡◌, ℕ, suc, ◌+◌, ◌≤◌, ◌&&◌, not, if◌then◌else◌, Bool, true, false, cond, List, [], ◌∷◌, ◌++◌, length, map, Option, Some, None, refl, sym, ap, subst, arith}
use Rattle.model.specs.reader_copies.Runs as copies
use Rattle.plain_store.specs.{Reply, changes}
use Rattle.plain_store.specs.declared.Answer.TheVariants as answer
use Rattle.model.specs.Closings.{Closing, Withdraws, Settles, Frees, Lowers, Quit, Ended, closing_next, is_last_settled, is_last_written, is_unwritten, no_ticket, settled_marks}
use Rattle.model.specs.{AsksImage, Call, Clears, Mark, Next, Part, Place, Refuses, Wait, Waits, WritesCommit, bits_with, entered_if_none, first_marks, is_fresh, is_last, last_marks, lets_by, marks_of, placed, reply, store_read, waits_of}
use Rattle.model.specs.Parts as part
use Rattle.model.specs.declared.marks.Mark.TheVariants.{Called, Waiting, Entered, Taken, Left, Answered, Failed, Settled, Down, Withdrew, Restarted}

-- the most bytes that a mark takes in a line: its sign and its words, each with a space
abbrev pub room_of : Mark → ℕ
room_of (Called c) = 68
room_of (Waiting t) = 18
room_of Entered = 8
room_of (Taken k r) = 59
room_of Left = 8
room_of (Answered a) = 39
room_of Failed = 7
room_of (Settled v) = 12
room_of Down = 7
room_of Withdrew = 11
room_of Restarted = 10

-- the most bytes that marks take in a line
abbrev pub room : List Mark → ℕ
room [] = 0
room (m ∷ ms) = room_of m + room ms

-- at most three marks, of which the longest are those of a bit that is settled and takes a command
pub record AreFew (ms : List Mark) : Type 0 where
  pub few : length ms ≤ 3
  pub small : room ms ≤ 71

few_of : (ms : List Mark) → length ms ≤ 3 → room ms ≤ 71 → AreFew ms
few_of ms few small = record { few = few; small = small }

none_few : AreFew []
none_few = few_of [] (omega arith) (omega arith)

where_few : (b : Bool) (ms : List Mark) → AreFew ms → AreFew (cond b ms [])
where_few true ms are = are
where_few false ms are = none_few

unless_few : (b : Bool) (ms : List Mark) → AreFew ms → AreFew (cond b [] ms)
unless_few true ms are = none_few
unless_few false ms are = are

-- Parts.

entered_few : (ws : List Wait) → AreFew (entered_if_none ws)
entered_few [] = few_of (Entered ∷ []) (omega arith) (omega arith)
entered_few (w ∷ ws) = none_few

lowered_few : (t : ℕ) (ws : List Wait) → AreFew (Waiting t ∷ entered_if_none ws)
lowered_few t [] = few_of (Waiting t ∷ Entered ∷ []) (omega arith) (omega arith)
lowered_few t (w ∷ ws) = few_of (Waiting t ∷ []) (omega arith) (omega arith)

-- a command that changes nothing is taken
read_few : (c : Call) (bits : List Bool) (last : Bool) → AreFew (cond last (last_marks c (AsksImage []) bits) [])
read_few c bits last =
    let r : Reply = reply c (store_read c bits) in
    where_few last (last_marks c (AsksImage []) bits) (unless_few (changes (store_read c bits) c.command) (Taken 0 r ∷ []) (few_of (Taken 0 r ∷ []) (omega arith) (omega arith)))

-- the last marks, after the first
both_few : (c : Call) (x : Part) (bits : List Bool) (is_first is_last : Bool) → AreFew (cond is_first (first_marks x) [] ++ cond is_last (last_marks c x bits) [])
both_few c (part.Lowers t) bits true last = where_few last (Waiting t ∷ entered_if_none (waits_of c)) (lowered_few t (waits_of c))
both_few c (part.Lowers t) bits false last = where_few last (Waiting t ∷ entered_if_none (waits_of c)) (lowered_few t (waits_of c))
both_few c (Refuses f) bits true last = where_few last (Answered (answer.TicketsFull f) ∷ []) (few_of (Answered (answer.TicketsFull f) ∷ []) (omega arith) (omega arith))
both_few c (Refuses f) bits false last = where_few last (Answered (answer.TicketsFull f) ∷ []) (few_of (Answered (answer.TicketsFull f) ∷ []) (omega arith) (omega arith))
both_few c (Waits t w ws) bits true last = where_few last (cond (lets_by c t w bits) (entered_if_none ws) []) (where_few (lets_by c t w bits) (entered_if_none ws) (entered_few ws))
both_few c (Waits t w ws) bits false last = where_few last (cond (lets_by c t w bits) (entered_if_none ws) []) (where_few (lets_by c t w bits) (entered_if_none ws) (entered_few ws))
both_few c (AsksImage vs) bits true last = read_few c bits last
both_few c (AsksImage vs) bits false last = read_few c bits last
both_few c (WritesCommit vs st) bits true last = where_few last (Taken 0 (reply c st) ∷ []) (few_of (Taken 0 (reply c st) ∷ []) (omega arith) (omega arith))
both_few c (WritesCommit vs st) bits false last = where_few last (Taken 0 (reply c st) ∷ []) (few_of (Taken 0 (reply c st) ∷ []) (omega arith) (omega arith))
both_few c (Clears a) bits true true = few_of (Left ∷ Answered a ∷ []) (omega arith) (omega arith)
both_few c (Clears a) bits true false = few_of (Left ∷ []) (omega arith) (omega arith)
both_few c (Clears a) bits false last = where_few last (Answered a ∷ []) (few_of (Answered a ∷ []) (omega arith) (omega arith))
both_few c _ bits true true = none_few
both_few c _ bits true false = none_few
both_few c _ bits false true = none_few
both_few c _ bits false false = none_few

-- the marks of a step of a call
pub step_few : (c : Call) (at : Place) (v : Bool) → AreFew (marks_of c at v)
step_few c at v = both_few c at.part (bits_with at.run v) (is_fresh at.run) (is_last c at.part at.run)

-- Closings.

settled_few : (begun v : Bool) (taken : Option Reply) → AreFew (settled_marks begun taken v)
settled_few begun v None = few_of (Settled v ∷ []) (omega arith) (omega arith)
settled_few begun v (Some r) = by (if v then begun else not begun)
  where
    by : (b : Bool) → AreFew (Settled v ∷ cond b (Taken 0 r ∷ []) [])
    by true = few_of (Settled v ∷ Taken 0 r ∷ []) (omega arith) (omega arith)
    by false = few_of (Settled v ∷ []) (omega arith) (omega arith)

few_next : (x n : Next) → Some x ≡ Some n → AreFew x.marks → AreFew n.marks
few_next x n same are = let is : x ≡ n = cc in subst (λ (y : Next). AreFew y.marks) is are

-- the marks of a step of a closing
pub closing_few : (c : Call) (at : Closing) (flick : Bool) (n : Next) → closing_next c at flick ≡ Some n → AreFew n.marks
closing_few c (Withdraws w) flick n next = few_next _ n next (where_few (is_last_written c (no_ticket c) w) (Answered answer.Withdrawn ∷ []) (few_of (Answered answer.Withdrawn ∷ []) (omega arith) (omega arith)))
closing_few c (Settles field bit begun taken is t) flick n next =
    few_next _ n next (where_few (is_last_settled c t (copies.settled_at t flick)) (settled_marks begun taken (copies.settled_at t flick)) (settled_few begun (copies.settled_at t flick) taken))
closing_few c (Frees is w) flick n next = few_next _ n next (where_few (is && is_unwritten w) (Left ∷ []) (few_of (Left ∷ []) (omega arith) (omega arith)))
closing_few c (Lowers w) flick n next = few_next _ n next (where_few (is_last_written c (false ∷ []) w) (Down ∷ []) (few_of (Down ∷ []) (omega arith) (omega arith)))
closing_few c Quit flick n next = cc
closing_few c Ended flick n next = cc

-- Places.

room_placed : (k : ℕ) (m : Mark) → room_of (placed k m) ≡ room_of m
room_placed k (Taken j r) = refl
room_placed k _ = refl

few_placed : (k : ℕ) (ms : List Mark) → (length (map (placed k) ms) ≡ length ms) × (room (map (placed k) ms) ≡ room ms)
few_placed k [] = (refl, refl)
few_placed k (m ∷ ms) =
    let rest = few_placed k ms in
    (ap suc rest.0, λ i. room_placed k m i + rest.1 i)

-- with their positions, marks are as many, and take no more room
pub placed_few : (k : ℕ) (ms : List Mark) → AreFew ms → AreFew (map (placed k) ms)
placed_few k ms are =
    let same = few_placed k ms in
    few_of (map (placed k) ms) (subst (λ n. n ≤ 3) (sym same.0) are.few) (subst (λ n. n ≤ 71) (sym same.1) are.small)
