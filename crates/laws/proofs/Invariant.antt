-- The invariant of the lock. Own part: the knowledge of each process about itself and its registers. Pair part: the knowledge of a reader about an owner, in any state of the reader.
use Rattle.std.specs.Prelude.{◌≡◌, ◌≢◌, ◌⊎◌, ℕ, suc, ◌+◌, ◌*◌, ◌/◌, ◌%◌, ◌^◌, ◌<◌, ◌≤◌, Bool, true, false, List, [], ◌∷◌, ◌++◌, length, slice_index_or, flat_map}
use Rattle.model.specs.safe_bit.Cell.{Cell}
use Rattle.model.specs.{Call, Closing, Ended, Field, Frees, Past, Quit, Reading, Run, Settles, Wait, Withdraws, Writing, bit_written, cell_after, copy, greatest, is_fresh, is_unwritten, others, width}
use Rattle.model.specs.declared.access.Field.TheVariants.{Choosing, Ticket}
use Rattle.model.specs.safe_number.{NumberWrite, bits_of_number}
use Rattle.plain_store.specs.{Setup}
use Rattle.model.specs.Closings as closing
use Rattle.model.specs.Parts.{Part, Raises, Asks, TakesTicket, Lowers, Refuses, Waits, AsksCommit, AsksStamp, AsksImage, WritesImage, WritesStamp, WritesCommit, Clears, Over, is_read, read_at, written_at}
use Rattle.laws.specs.{Doing, Rests, Lies, Runs, Closes, call, doing, is_inside}
use Rattle.laws.proofs.Notes.{Notes, notes}

-- Registers, as a past has made them.

-- the state of a copy: its value and whether a write of it is open
pub record Wire : Type 0 where
  pub value : Bool
  pub writing : Bool

abbrev pub wire : Cell → Wire
wire c = record { value = c.value; writing = c.writing }

-- the registers of a process: each reader's copy of each bit of each field
abbrev pub Wires : Type 0
Wires = Field → ℕ → ℕ → Wire

abbrev pub wires : Setup → Past → ℕ → Wires
wires s past o f k r = wire (cell_after s past (copy o f r k))

-- whether reader r's read of a bit of owner o was touched by a write
abbrev pub Touches : Type 0
Touches = Field → ℕ → Bool

abbrev pub touches : Setup → Past → ℕ → ℕ → Touches
touches s past o r f k = (cell_after s past (copy o f r k)).touched

-- no write of the copy is open, and it has this value
pub record Closed (x : Wire) (v : Bool) : Type 0 where
  pub writing : x.writing ≡ false
  pub value : x.value ≡ v

-- bit k of a value that is given by its bits
abbrev pub bit : List Bool → ℕ → Bool
bit bits k = slice_index_or bits k false

-- the bits of a ticket
abbrev pub ticket_of : Setup → ℕ → List Bool
ticket_of s t = bits_of_number s.ticket_bits t

-- Own part.

-- each time that is noted is past
pub record IsPast (now : ℕ) (announced_at held_at began ended since : ℕ) (choosing_from asked_from let_from : ℕ → ℕ) : Type 0 where
  pub announced_at_past : announced_at < now
  pub held_at_past : held_at < now
  pub began_past : began < now
  pub ended_past : ended < now
  pub since_past : since < now
  pub choosing_past : (j : ℕ) → choosing_from j < now
  pub asked_past : (j : ℕ) → asked_from j < now
  pub let_past : (j : ℕ) → let_from j < now

-- the registers agree with the notes: a held ticket is whole on all copies, and so is an announcement
pub record Whole (s : Setup) (announced holds : Bool) (ticket : ℕ) (m : Wires) : Type 0 where
  pub choosing : announced ≡ true → (r : ℕ) → r < s.processes → Closed (m Choosing 0 r) true
  pub ticket_whole : holds ≡ true → (k r : ℕ) → k < s.ticket_bits → r < s.processes → Closed (m Ticket k r) (bit (ticket_of s ticket) k)

-- the value read of j's ticket lets p pass with its own
abbrev pub Beyond : (t p v j : ℕ) → Type 0
Beyond t p v j = (v ≡ 0) ⊎ ((t < v) ⊎ ((t ≡ v) × (p < j)))

-- p has passed j: it read j's choosing as 0 once its own ticket was whole, and after that j's ticket, which let it pass
pub record Passed (p ticket held_at : ℕ) (choosing_from choosing_to let_from let_by : ℕ → ℕ) (j : ℕ) : Type 0 where
  pub from : held_at ≤ choosing_from j
  pub then : choosing_to j ≤ let_from j
  pub beyond : Beyond ticket p (let_by j) j

-- a process that holds a ticket has read all others' tickets since its announcement was whole, and its own is greater; a process that is inside has passed all others
pub record Senior (s : Setup) (p : ℕ) (holds inside : Bool) (ticket announced_at held_at began : ℕ) (choosing_from choosing_to asked_from asked let_from let_by : ℕ → ℕ) : Type 0 where
  pub fits : holds ≡ true → ticket < 2 ^ s.ticket_bits
  pub positive : holds ≡ true → 0 < ticket
  pub began_before : holds ≡ true → began ≤ announced_at
  pub from : holds ≡ true → (j : ℕ) → j < s.processes → j ≢ p → announced_at ≤ asked_from j
  pub above : holds ≡ true → (j : ℕ) → j < s.processes → j ≢ p → asked j < ticket
  pub held : inside ≡ true → holds ≡ true
  pub passed : inside ≡ true → (j : ℕ) → j < s.processes → j ≢ p → Passed p ticket held_at choosing_from choosing_to let_from let_by j

-- bit k of copy r comes before the place of a write
abbrev pub Before : (k r bit copy : ℕ) → Type 0
Before k r bit copy = (k < bit) ⊎ ((k ≡ bit) × (r < copy))

-- a write of bits to a field: all copies before its place are done, and the open copy is being given its bit
pub record Written (n : ℕ) (bits : List Bool) (w : NumberWrite) (m : Field → ℕ → ℕ → Wire) (f : Field) : Type 0 where
  pub width_is : w.width ≡ length bits
  pub below : w.bit < w.width
  pub made : (bit_written bits w).made < 2 * n
  pub value : (bit_written bits w).value ≡ bit bits w.bit
  pub going : (bit_written bits w).ended ≡ false
  pub done : (k r : ℕ) → r < n → Before k r w.bit ((bit_written bits w).made / 2) → Closed (m f k r) (bit bits k)
  pub begun : (bit_written bits w).made % 2 ≡ 1 → (m f w.bit ((bit_written bits w).made / 2)).value ≡ bit bits w.bit

-- the progress of a number access
abbrev pub RunCorresponds : Call → Wires → Part → Run → Type 0
RunCorresponds c m part (Writing w) = (is_read part ≡ false) × Written c.setup.processes (written_at c part).1 w m (written_at c part).0
RunCorresponds c m part (Reading bits begun) = (is_read part ≡ true) × (length bits < width c.setup (read_at c part).1)

-- in its doorway, before it writes its ticket
pub record InDoorway (announced holds : Bool) (announced_at began : ℕ) : Type 0 where
  pub free : holds ≡ false
  pub whole : announced ≡ true
  pub began_before : began ≤ announced_at

abbrev pub IsInDoorway : Notes → Type 0
IsInDoorway n = InDoorway n.announced n.holds n.announced_at n.began

-- these processes' tickets were read since the announcement was whole, and gave these numbers
abbrev pub Asked : (s : Setup) (announced_at : ℕ) (asked_from asked : ℕ → ℕ) → List ℕ → List ℕ → Type 0
Asked s announced_at asked_from asked [] [] = Unit {0}
Asked s announced_at asked_from asked (j ∷ js) (t ∷ ts) = (announced_at ≤ asked_from j) × (asked j ≡ t) × (t < 2 ^ s.ticket_bits) × Asked s announced_at asked_from asked js ts
Asked s announced_at asked_from asked _ _ = ⊥

-- the waits for these processes
abbrev pub waits : List ℕ → List Wait
waits = flat_map (λ j. (j, Choosing) ∷ (j, Ticket) ∷ [])

-- the present wait is for j: for its choosing, read since the ticket was held, or for its ticket, read since its choosing gave 0
abbrev pub IsWait : (held_at since : ℕ) (choosing_from choosing_to : ℕ → ℕ) → Wait → List Wait → ℕ → List ℕ → Type 0
IsWait held_at since choosing_from choosing_to (i, Choosing) ws j js = (i ≡ j) × (ws ≡ (j, Ticket) ∷ waits js) × (held_at ≤ since)
IsWait held_at since choosing_from choosing_to (i, Ticket) ws j js = (i ≡ j) × (ws ≡ waits js) × (held_at ≤ choosing_from j) × (choosing_to j ≤ since)
IsWait held_at since choosing_from choosing_to _ ws j js = ⊥

-- p has passed all of these
abbrev pub AllPassed : ℕ → Notes → List ℕ → Type 0
AllPassed p n [] = Unit {0}
AllPassed p n (i ∷ is) = Passed p n.ticket n.held_at n.choosing_from n.choosing_to n.let_from n.let_by i × AllPassed p n is

-- p waits for j, then for js, and has passed the others
pub record InWaiting (s : Setup) (p : ℕ) (n : Notes) (t : ℕ) (w : Wait) (ws : List Wait) : Type 0 where
  pub holding : n.holds ≡ true
  pub ticket_is : n.ticket ≡ t
  pub ended_after : n.held_at ≤ n.ended
  pub done : List ℕ
  pub now : ℕ
  pub next : List ℕ
  pub all : others s p ≡ done ++ now ∷ next
  pub passed : AllPassed p n done
  pub wait : IsWait n.held_at n.since n.choosing_from n.choosing_to w ws now next

-- p reads j's ticket, then those of js; it has read the others'
pub record InAsking (s : Setup) (p : ℕ) (n : Notes) (j : ℕ) (js ts : List ℕ) : Type 0 where
  pub doorway : IsInDoorway n
  pub after : n.announced_at ≤ n.since
  pub done : List ℕ
  pub all : others s p ≡ done ++ j ∷ js
  pub asked_all : Asked s n.announced_at n.asked_from n.asked done ts

-- the knowledge of p at a part of its call; fresh: no access of it is made
abbrev pub PartCorresponds : (s : Setup) (p : ℕ) → Notes → Part → (fresh : Bool) → Type 0
PartCorresponds s p n Raises fresh = n.holds ≡ false
PartCorresponds s p n (Asks j js ts) fresh = InAsking s p n j js ts
PartCorresponds s p n (TakesTicket t) fresh = IsInDoorway n × ((ts : List ℕ) × Asked s n.announced_at n.asked_from n.asked (others s p) ts × (t ≡ greatest ts + 1) × (t < 2 ^ s.ticket_bits))
PartCorresponds s p n (Lowers t) fresh = (n.holds ≡ true) × (n.ticket ≡ t) × (n.held_at ≤ n.since)
PartCorresponds s p n (Refuses f) fresh = n.holds ≡ false
PartCorresponds s p n (Waits t w ws) fresh = InWaiting s p n t w ws
PartCorresponds s p n (AsksCommit k ks vs) fresh = Unit {0}
PartCorresponds s p n (AsksStamp k ks vs b) fresh = Unit {0}
PartCorresponds s p n (AsksImage vs) fresh = Unit {0}
PartCorresponds s p n (WritesImage vs st) fresh = Unit {0}
PartCorresponds s p n (WritesStamp vs st) fresh = Unit {0}
PartCorresponds s p n (WritesCommit vs st) fresh = Unit {0}
PartCorresponds s p n (Clears a) fresh = fresh ≡ false → n.holds ≡ false
PartCorresponds s p n Over fresh = ⊥

-- a ticket bit is settled only of a ticket that is not held
abbrev pub SettlingCorresponds : Field → Bool → Type 0
SettlingCorresponds Ticket holds = holds ≡ false
SettlingCorresponds _ holds = Unit {0}

-- the knowledge of p or its unit in a closing: a held ticket is untouched until its clearing begins
abbrev pub ClosingCorresponds : (holds : Bool) → Closing → Type 0
ClosingCorresponds holds (Withdraws w) = holds ≡ true → is_unwritten w ≡ true
ClosingCorresponds holds (Settles f bit begun taken is t) = SettlingCorresponds f holds
ClosingCorresponds holds (Frees is w) = holds ≡ true → is_unwritten w ≡ true
ClosingCorresponds holds (closing.Lowers w) = holds ≡ false
ClosingCorresponds holds Quit = ⊥
ClosingCorresponds holds Ended = ⊥

abbrev pub Corresponds : (s : Setup) (p : ℕ) → Notes → Wires → Doing → Type 0
Corresponds s p n m Rests = n.holds ≡ false
Corresponds s p n m Lies = n.holds ≡ false
Corresponds s p n m (Runs command number at) = RunCorresponds (call s p command number) m at.part at.run × PartCorresponds s p n at.part (is_fresh at.run)
Corresponds s p n m (Closes command number at) = ClosingCorresponds n.holds at

-- the own part of p
pub record Own (s : Setup) (p now : ℕ) (d : Doing) (n : Notes) (m : Wires) : Type 0 where
  pub past : IsPast now n.announced_at n.held_at n.began n.ended n.since n.choosing_from n.asked_from n.let_from
  pub whole : Whole s n.announced n.holds n.ticket m
  pub senior : Senior s p n.holds (is_inside d) n.ticket n.announced_at n.held_at n.began n.choosing_from n.choosing_to n.asked_from n.asked n.let_from n.let_by
  pub corresponds : Corresponds s p n m d

-- Pair part, of a reader r and an owner o.

-- the knowledge of r about o. Early: r's last read of o's choosing that gave 0 began before o's announcement was whole; late: it ended after o's ticket was whole
pub record Knows (o : ℕ) (announced holds : Bool) (ticket announced_at held_at : ℕ) (choosing_from choosing_to asked_from asked let_from let_by : ℕ → ℕ) : Type 0 where
  pub doorway : holds ≡ true → held_at ≤ asked_from o → asked o ≡ ticket
  pub waiting : holds ≡ true → held_at ≤ let_from o → let_by o ≡ ticket
  pub early : announced ≡ true → choosing_from o < announced_at
  pub pass : holds ≡ true → (choosing_from o < announced_at) ⊎ (held_at ≤ choosing_to o)

abbrev pub DoesKnow : ℕ → Notes → Notes → Type 0
DoesKnow o n u = Knows o u.announced u.holds u.ticket u.announced_at u.held_at n.choosing_from n.choosing_to n.asked_from n.asked n.let_from n.let_by

-- a read of a ticket under way that began once the ticket was whole is clean: the bits so far are its bits, and the open copy is untouched
abbrev pub CleanTicket : (s : Setup) (since : ℕ) (bits : List Bool) (begun holds : Bool) (ticket held_at : ℕ) → Touches → Type 0
CleanTicket s since bits begun holds ticket held_at t =
    holds ≡ true → held_at ≤ since → ((k : ℕ) → k < length bits → bit bits k ≡ bit (ticket_of s ticket) k) × (begun ≡ true → t Ticket (length bits) ≡ false)

-- a read of choosing under way that began once the announcement was whole is clean: the open copy is untouched
abbrev pub CleanChoosing : (since : ℕ) (bits : List Bool) (begun announced : Bool) (announced_at : ℕ) → Touches → Type 0
CleanChoosing since bits begun announced announced_at t = announced ≡ true → announced_at ≤ since → begun ≡ true → t Choosing (length bits) ≡ false

abbrev pub CleanWait : (s : Setup) (o : ℕ) → Wait → (since : ℕ) (bits : List Bool) (begun : Bool) → Notes → Touches → Type 0
CleanWait s o (j, Choosing) since bits begun u t = j ≡ o → CleanChoosing since bits begun u.announced u.announced_at t
CleanWait s o (j, Ticket) since bits begun u t = j ≡ o → CleanTicket s since bits begun u.holds u.ticket u.held_at t
CleanWait s o (j, _) since bits begun u t = Unit {0}

abbrev pub CleanRun : (s : Setup) (o : ℕ) → Part → Run → (since : ℕ) → Notes → Touches → Type 0
CleanRun s o (Asks j js ts) (Reading bits begun) since u t = j ≡ o → CleanTicket s since bits begun u.holds u.ticket u.held_at t
CleanRun s o (Waits ticket w ws) (Reading bits begun) since u t = CleanWait s o w since bits begun u t
CleanRun s o _ _ since u t = Unit {0}

abbrev pub Clean : (s : Setup) (o : ℕ) → Doing → (since : ℕ) → Notes → Touches → Type 0
Clean s o (Runs command number at) since u t = CleanRun s o at.part at.run since u t
Clean s o _ since u t = Unit {0}

-- the pair part of a reader that does d with notes n, and an owner o with notes u
pub record Pair (s : Setup) (o : ℕ) (d : Doing) (n u : Notes) (t : Touches) : Type 0 where
  pub knows : DoesKnow o n u
  pub clean : Clean s o d n.since u t

-- when the next entry is made
abbrev pub next_time : Past → ℕ
next_time past = suc (length past)

-- every past of a record keeps this
pub record Inv (s : Setup) (past : Past) : Type 0 where
  pub own : (p : ℕ) → p < s.processes → Own s p (next_time past) (doing s p past) (notes s p past) (wires s past p)
  pub pair : (r o : ℕ) → r < s.processes → o < s.processes → r ≢ o → Pair s o (doing s r past) (notes s r past) (notes s o past) (touches s past o r)

-- a move of p has to keep this: p then has state d, notes n and registers m; touched o r are the marks of overlap after it
pub record Moves (s : Setup) (past : Past) (p : ℕ) (d : Doing) (n : Notes) (m : Wires) (touched : ℕ → ℕ → Touches) : Type 0 where
  pub own : Own s p (suc (next_time past)) d n m
  pub reader : (o : ℕ) → o < s.processes → o ≢ p → Pair s o d n (notes s o past) (touched o p)
  pub owner : (r : ℕ) → r < s.processes → r ≢ p → Pair s p (doing s r past) (notes s r past) n (touched p r)
