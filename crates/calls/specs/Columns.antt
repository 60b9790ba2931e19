-- The columns of a call. Each number is found by looking back over a past.
use Rattle.std.specs.Prelude.{ℕ, ◌+◌, ◌==◌, nat_lt, Bool, true, false, ◌&&◌, List, [], ◌∷◌, length, fold, cond, Option, None, Some, is_none, is_some, bit_or, ◌^◌}
use Rattle.model.specs.safe_bit.{Move, is_begin_of_read, is_begin_of_write}
use Rattle.model.specs.safe_bit.declared.Move.TheVariants.{EndRead}
use Rattle.plain_store.specs.{Answer, Setup}
use Rattle.model.specs.{Access, Entry, Field, Mark, Past, calls_in, doorway_end, first_of, has, is_below, is_called, is_entered, is_failed, last_command, number_in_call, own, width}
use Rattle.model.specs.declared.access.Field.TheVariants.{Choosing, Ticket}
use Rattle.model.specs.declared.marks.Mark.TheVariants.{Waiting, Entered, Taken, Left, Answered, Failed, Down, Withdrew}
use Rattle.world.specs.laws.{doing}
use Rattle.world.specs.process.{number_read}
use Rattle.world.specs.{ends_overlapped_read}
use Rattle.calls.specs.declared.called.Accesses.{Accesses}
use Rattle.calls.specs.declared.called.Called.{Called as TurnReport}
use Rattle.calls.specs.declared.called.Marked.{Marked}

-- Marks.

-- a command is taken
abbrev pub is_taken : Mark → Bool
is_taken (Taken k r) = true
is_taken _ = false

-- the process is no longer inside
abbrev pub is_left : Mark → Bool
is_left Left = true
is_left _ = false

-- its call is answered
abbrev pub is_answered : Mark → Bool
is_answered (Answered a) = true
is_answered _ = false

-- it gives up waiting
abbrev pub is_withdrawal : Mark → Bool
is_withdrawal Withdrew = true
is_withdrawal _ = false

-- with these marks waiting ends: it enters, withdraws or fails
abbrev pub ends_waiting : Mark → Bool
ends_waiting Entered = true
ends_waiting Withdrew = true
ends_waiting Failed = true
ends_waiting _ = false

-- Calls.

-- a call has begun that has not ended: by an answer, or, cut by a failure, once its process is down
abbrev pub goes_on_after : Bool → Mark → Bool
goes_on_after is (Answered a) = false
goes_on_after is Down = false
goes_on_after is _ = is

-- p has such a call
abbrev pub is_calling : ℕ → Past → Bool
is_calling p [] = false
is_calling p (e ∷ past) = elim (e.process == p) [
  | false ↦ is_calling p past
  | true ↦ elim (has is_called e) [ true ↦ true | false ↦ fold goes_on_after (is_calling p past) e.marks ]
]

-- the number of the entry with which p called last
abbrev pub called_at : ℕ → Past → ℕ
called_at p [] = 0
called_at p (e ∷ past) = elim (e.process == p) [
  | false ↦ called_at p past
  | true ↦ elim (has is_called e) [ true ↦ length past | false ↦ called_at p past ]
]

-- one more, if a test holds
abbrev pub more_if : Bool → ℕ → ℕ
more_if b n = cond b (n + 1) n

-- p's entries since its last call are folded over a start, oldest first, each with the past before it
abbrev pub over_call : {A : Type 0} → ℕ → A → (Past → Entry → A → A) → Past → A
over_call p start with [] = start
over_call p start with (e ∷ past) = elim (e.process == p) [
  | false ↦ over_call p start with past
  | true ↦ elim (has is_called e) [ true ↦ start | false ↦ with past e (over_call p start with past) ]
]

-- how many entries of p's last call pass a test, each with the past before it
abbrev pub count_in_call : ℕ → (Past → Entry → Bool) → Past → ℕ
count_in_call p test past = over_call p 0 (λ before e n. more_if (test before e) n) past

-- the first of two numbers, of which the second counts only where a test holds
abbrev pub first_if : Bool → ℕ → Option ℕ → Option ℕ
first_if b number found = cond b (first_of found (Some number)) found

-- the number of the first entry of p's last call that passes a test, each with the past before it
abbrev pub first_in_call : ℕ → (Past → Entry → Bool) → Past → Option ℕ
first_in_call p test past = over_call p None (λ before e first. first_if (test before e) (length before) first) past

-- Columns from marks, by the first mark of each kind.

-- the position of a command that is taken
abbrev pub place_after : Option ℕ → Mark → Option ℕ
place_after found (Taken k r) = first_of found (Some k)
place_after found _ = found

-- the ticket with which the process waits
abbrev pub ticket_after : Option ℕ → Mark → Option ℕ
ticket_after found (Waiting t) = first_of found (Some t)
ticket_after found _ = found

-- the first of two answers
abbrev pub first_answer : Option Answer → Answer → Option Answer
first_answer None a = Some a
first_answer (Some b) a = Some b

-- the answer
abbrev pub answer_after : Option Answer → Mark → Option Answer
answer_after found (Answered a) = first_answer found a
answer_after found _ = found

-- the position, the ticket and the answer in the marks of p's last call
abbrev pub place_in_call : ℕ → Past → Option ℕ
place_in_call p past = over_call p None (λ before e found. fold place_after found e.marks) past

abbrev pub ticket_in_call : ℕ → Past → Option ℕ
ticket_in_call p past = over_call p None (λ before e found. fold ticket_after found e.marks) past

abbrev pub answer_in_call : ℕ → Past → Option Answer
answer_in_call p past = over_call p None (λ before e found. fold answer_after found e.marks) past

-- the columns from the marks of p's last call; the number of an entry is the number of entries before it
abbrev pub marked : ℕ → Past → Marked
marked p past = record {
  door_end = doorway_end p past;
  entered = number_in_call p (has is_entered) past;
  wait_end = number_in_call p (has ends_waiting) past;
  taken = number_in_call p (has is_taken) past;
  place = place_in_call p past;
  remaining = number_in_call p (has is_left) past;
  answered = number_in_call p (has is_answered) past;
  failed = number_in_call p (has is_failed) past;
  withdrew = number_in_call p (has is_withdrawal) past;
  ticket = ticket_in_call p past;
  answer = answer_in_call p past;
}

-- Columns from accesses.

-- an entry has an access
abbrev pub has_access : Entry → Bool
has_access e = is_some e.access

-- p makes the access of this entry itself: it has not failed before in this call
abbrev pub accesses_itself : ℕ → Past → Entry → Bool
accesses_itself p before e = has_access e && is_none (number_in_call p (has is_failed) before)

-- p makes such a move itself: it has not failed before in this call
abbrev pub makes_itself : ℕ → (Move → Bool) → Past → Entry → Bool
makes_itself p test before e = elim e.access [ None ↦ false | Some a ↦ test a.how && is_none (number_in_call p (has is_failed) before) ]

-- the first 64 bits of the number that is read, with this bit; its bit 0 begins it anew
abbrev pub with_bit : ℕ → Bool → ℕ → ℕ
with_bit k v n = cond (k == 0) (cond v 1 0) (cond (v && nat_lt k 64) (bit_or n (2 ^ k)) n)

-- the number that is read, after a move on this bit
abbrev pub number_after : ℕ → Move → ℕ → ℕ
number_after k (EndRead v) n = with_bit k v n
number_after k _ n = n

-- a move on this bit ends the read of a number of `width` bits
abbrev pub ends_number : ℕ → ℕ → Move → Bool
ends_number width k (EndRead v) = k + 1 == width
ends_number width k _ = false

-- a number that was read of a register of q holds up p, which waits with this ticket: q is choosing, or has a ticket below p's
abbrev pub holds_up : ℕ → ℕ → ℕ → Field → ℕ → Bool
holds_up p ticket q Choosing n = n == 1
holds_up p ticket q Ticket n = nat_lt 0 n && is_below n q ticket p
holds_up p ticket q _ n = false

-- p waits with this ticket, and the number that it has read with this access holds it up, so it waits for the register's owner
abbrev pub reports_waiting : Setup → ℕ → Option ℕ → Option ℕ → Access → ℕ → Bool
reports_waiting s p None wait_end a n = false
reports_waiting s p (Some ticket) wait_end a n = is_none wait_end && (ends_number (width s a.field) a.bit a.how && holds_up p ticket a.owner a.field n)

-- no marks
abbrev pub is_unmarked : List Mark → Bool
is_unmarked [] = true
is_unmarked (m ∷ marks) = false

-- the process for which p waited last in its last call, by the numbers that it read. An entry with marks leads on: with it p does not wait for the owner
abbrev pub waited_for : Setup → ℕ → Past → Option ℕ
waited_for s p past = over_call p None (λ before e newest. elim e.access [
  | None ↦ newest
  | Some a ↦ cond (is_unmarked e.marks && reports_waiting s p (ticket_in_call p before) (number_in_call p (has ends_waiting) before) a (number_after a.bit a.how (number_read (doing s p before)))) (Some a.owner) newest
]) past

-- the columns from the accesses of p's last call
abbrev pub accesses : Setup → ℕ → Past → Accesses
accesses s p past = record {
  doorway = first_in_call p (accesses_itself p) past;
  reads = count_in_call p (makes_itself p is_begin_of_read) past;
  writes = count_in_call p (makes_itself p is_begin_of_write) past;
  overlapped = count_in_call p ends_overlapped_read past;
  waited_for = waited_for s p past;
}

-- p's last call
abbrev pub called : Setup → ℕ → Past → TurnReport
called s p past = record {
  process = p;
  call = calls_in (own p past);
  command = last_command (own p past);
  called = called_at p past;
  accesses = accesses s p past;
  marks = marked p past;
}
