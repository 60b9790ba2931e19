-- The history variables of a process: what it has shown to the others and what it has seen of them, and when. No step of a program reads them. A time is the number of an entry plus one.
use Rattle.std.specs.Prelude.{ℕ, suc, ◌==◌, Bool, false, cond, ◌&&◌, List, [], ◌∷◌, length, Option, None, Some}
use Rattle.model.specs.{Access, Call, Closing, Ended, Field, Frees, Past, Quit, Settles, Withdraws, bits_with, is_fresh, is_last, lets_by, value_of}
use Rattle.model.specs.declared.access.Field.TheVariants.{Choosing, Ticket}
use Rattle.model.specs.safe_number.{number_of_bits}
use Rattle.plain_store.specs.{Setup}
use Rattle.model.specs.Closings as closing
use Rattle.model.specs.Parts.{Part, Raises, Asks, TakesTicket, Lowers, Refuses, Waits, Clears}
use Rattle.laws.specs.{Doing, Rests, Lies, Runs, Closes, call, doing}

pub record Notes : Type 0 where
  pub announced : Bool  -- its choosing is whole at 1 on all copies, since announced_at
  pub announced_at : ℕ
  pub holds : Bool  -- its ticket is whole on all copies, since held_at
  pub ticket : ℕ
  pub held_at : ℕ
  pub began : ℕ  -- the first begin of its announcement
  pub ended : ℕ  -- the end of its doorway
  pub since : ℕ  -- when its present number access became the next one: the last end of the one before
  pub choosing_from : ℕ → ℕ  -- of each other process: the last read of its choosing that gave 0, from when
  pub choosing_to : ℕ → ℕ  -- to when
  pub asked_from : ℕ → ℕ  -- the last read of its ticket in the doorway, from when
  pub asked : ℕ → ℕ  -- what it gave
  pub let_from : ℕ → ℕ  -- the last read of its ticket that let pass, from when
  pub let_by : ℕ → ℕ  -- what it gave

abbrev pub no_notes : Notes
no_notes = record {
  announced = false;
  announced_at = 0;
  holds = false;
  ticket = 0;
  held_at = 0;
  began = 0;
  ended = 0;
  since = 0;
  choosing_from = λ (j : ℕ). 0;
  choosing_to = λ (j : ℕ). 0;
  asked_from = λ (j : ℕ). 0;
  asked = λ (j : ℕ). 0;
  let_from = λ (j : ℕ). 0;
  let_by = λ (j : ℕ). 0;
}

-- a function with value x at j, and its old values elsewhere
abbrev pub set : ℕ → ℕ → (ℕ → ℕ) → ℕ → ℕ
set j x f q = cond (q == j) x (f q)

-- The notes after an access of a part, one by one. last: it is the last of its number access; fresh: it is the first; now: its time.

-- the announcement is whole with its last end, and broken by any access that lowers it
abbrev pub announced_by : Part → Bool → Bool → Bool
announced_by Raises last was = last
announced_by (Lowers t) last was = false
announced_by (Refuses f) last was = false
announced_by _ last was = was

abbrev pub announced_at_by : Part → Bool → ℕ → ℕ → ℕ
announced_at_by Raises last now was = cond last now was
announced_at_by _ last now was = was

-- the ticket is whole with the last end of its write, and broken by any access that clears it
abbrev pub holds_by : Part → Bool → Bool → Bool
holds_by (TakesTicket t) last was = last
holds_by (Clears a) last was = false
holds_by _ last was = was

abbrev pub ticket_by : Part → Bool → ℕ → ℕ
ticket_by (TakesTicket t) last was = cond last t was
ticket_by _ last was = was

abbrev pub held_at_by : Part → Bool → ℕ → ℕ → ℕ
held_at_by (TakesTicket t) last now was = cond last now was
held_at_by _ last now was = was

abbrev pub began_by : Part → Bool → ℕ → ℕ → ℕ
began_by Raises fresh now was = cond fresh now was
began_by _ fresh now was = was

abbrev pub ended_by : Part → Bool → ℕ → ℕ → ℕ
ended_by (Lowers t) last now was = cond last now was
ended_by _ last now was = was

-- a read of choosing that lets pass notes x
abbrev pub choosing_by : Call → Part → Bool → List Bool → ℕ → (ℕ → ℕ) → ℕ → ℕ
choosing_by c (Waits t (j, Choosing) ws) last bits x was = cond (last && lets_by c t (j, Choosing) bits) (set j x was) was
choosing_by c _ last bits x was = was

-- a read of a ticket in the doorway
abbrev pub asked_by : Part → Bool → ℕ → (ℕ → ℕ) → ℕ → ℕ
asked_by (Asks j js ts) last x was = cond last (set j x was) was
asked_by _ last x was = was

-- a read of a ticket that lets pass
abbrev pub let_by_by : Call → Part → Bool → List Bool → ℕ → (ℕ → ℕ) → ℕ → ℕ
let_by_by c (Waits t (j, Ticket) ws) last bits x was = cond (last && lets_by c t (j, Ticket) bits) (set j x was) was
let_by_by c _ last bits x was = was

-- the notes after an access of a part, where these bits were read
abbrev pub noted : Call → ℕ → Part → (fresh last : Bool) → List Bool → Notes → Notes
noted c now part fresh last bits n = record {
  announced = announced_by part last n.announced;
  announced_at = announced_at_by part last now n.announced_at;
  holds = holds_by part last n.holds;
  ticket = ticket_by part last n.ticket;
  held_at = held_at_by part last now n.held_at;
  began = began_by part fresh now n.began;
  ended = ended_by part last now n.ended;
  since = cond last now n.since;
  choosing_from = choosing_by c part last bits n.since n.choosing_from;
  choosing_to = choosing_by c part last bits now n.choosing_to;
  asked_from = asked_by part last n.since n.asked_from;
  asked = asked_by part last (number_of_bits bits) n.asked;
  let_from = let_by_by c part last bits n.since n.let_from;
  let_by = let_by_by c part last bits (number_of_bits bits) n.let_by;
}

-- an access of a write of this field breaks what the field showed
abbrev pub breaks_announced : Field → Bool → Bool
breaks_announced Choosing was = false
breaks_announced _ was = was

abbrev pub breaks_ticket : Field → Bool → Bool
breaks_ticket Ticket was = false
breaks_ticket _ was = was

-- the field that a closing writes
abbrev pub field_of : Closing → Field
field_of (Withdraws w) = Ticket
field_of (Settles f bit begun taken is t) = f
field_of (Frees is w) = Ticket
field_of (closing.Lowers w) = Choosing
field_of Quit = Ticket
field_of Ended = Ticket

-- the notes after an access of a closing
abbrev pub broken : Field → Notes → Notes
broken f n = record {
  announced = breaks_announced f n.announced;
  announced_at = n.announced_at;
  holds = breaks_ticket f n.holds;
  ticket = n.ticket;
  held_at = n.held_at;
  began = n.began;
  ended = n.ended;
  since = n.since;
  choosing_from = n.choosing_from;
  choosing_to = n.choosing_to;
  asked_from = n.asked_from;
  asked = n.asked;
  let_from = n.let_from;
  let_by = n.let_by;
}

-- the notes once something else begins
abbrev pub turned : ℕ → Notes → Notes
turned now n = record {
  announced = n.announced;
  announced_at = n.announced_at;
  holds = n.holds;
  ticket = n.ticket;
  held_at = n.held_at;
  began = n.began;
  ended = n.ended;
  since = now;
  choosing_from = n.choosing_from;
  choosing_to = n.choosing_to;
  asked_from = n.asked_from;
  asked = n.asked;
  let_from = n.let_from;
  let_by = n.let_by;
}

-- the notes after an entry of the process that did d
abbrev pub notes_after : Setup → ℕ → ℕ → Option Access → Doing → Notes → Notes
notes_after s p now None d n = turned now n
notes_after s p now (Some a) Rests n = n
notes_after s p now (Some a) Lies n = n
notes_after s p now (Some a) (Runs command number at) n =
    let c = call s p command number in
    noted c now at.part (is_fresh at.run) (is_last c at.part at.run) (bits_with at.run (value_of a.how)) n
notes_after s p now (Some a) (Closes command number at) n = broken (field_of at) n

-- the notes of p
abbrev pub notes : Setup → ℕ → Past → Notes
notes s p [] = no_notes
notes s p (e ∷ past) = cond (e.process == p) (notes_after s p (suc (length past)) e.access (doing s p past) (notes s p past)) (notes s p past)
