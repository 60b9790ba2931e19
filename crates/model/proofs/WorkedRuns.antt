-- Small runs, computed.
use Rattle.std.specs.Prelude.{◌≡◌, refl, ℕ, true, false, List, [], ◌∷◌, ◌++◌, length, map, replicate, reverse, take, None, Some, pos}
use Rattle.plain_store.specs.declared.Command.TheVariants.{Read, Write}
use Rattle.plain_store.specs.declared.Value.TheVariants.{Count}
use Rattle.plain_store.specs.declared.Answer.TheVariants.{TicketsFull, Withdrawn}
use Rattle.plain_store.specs.{Setup, changes, empty_store}
use Rattle.model.specs.{Event, Mark, Past, Refusal, added, ahead, new_image, newest_bytes, past_of, process_of, refused}
use Rattle.model.specs.declared.events.Event.TheVariants.{Call, Step, Fail, Withdraw, Restart}
use Rattle.model.specs.declared.marks.Mark.TheVariants.{Called, Waiting, Entered, Answered, Failed, Settled, Down, Withdrew, Restarted}
use Rattle.model.specs.declared.refusals.Refusal.TheVariants.{Busy, IsDown, NotRunning, NotWaiting, AlreadyFailed, NotDown}
use Rattle.store_image.specs.{count_bytes, count_in, image_of, name_in, number_bytes, number_in, store_in, unused_slot, value_in}
use Rattle.store_image.specs.Image as slots

-- a mark of an entry with its number and process, or a refusal
data Line : Type 0 where
  marks : ℕ → ℕ → Mark → Line
  refuses : ℕ → Refusal → Line

-- the lines of these events after a past, the oldest first
abbrev lines : Setup → Past → List Event → List Line
lines s past [] = []
lines s past (event ∷ events) = elim (refused s past event) [
  | Some r ↦ refuses (process_of event) r ∷ lines s past events
  | None ↦ elim (added s past event) [ None ↦ [] | Some e ↦ map (marks (length past) e.process) e.marks ++ lines s (e ∷ past) events ]
]

-- a setup with these numbers of processes, ticket bits, stamp bits and slots
abbrev one : ℕ → ℕ → ℕ → ℕ → Setup
one n tickets stamps slots = record { version = 1; processes = n; ticket_bits = tickets; stamp_bits = stamps; slots = slots; opening = [] }

-- the name `a`
abbrev a : List ℕ
a = 97 ∷ []

abbrev steps : ℕ → ℕ → List Event
steps p n = replicate n (Step p false)

-- two processes take the same ticket, and the lower one gets inside
tie : lines (one 2 2 2 1) [] (
    Call 0 (Write a (Count (pos 5))) ∷ Call 1 (Write a (Count (pos 7))) ∷ steps 0 8 ++ steps 1 8 ++ steps 0 12 ++ steps 1 12 ++ steps 1 6 ++ steps 0 6 ++ steps 1 4
    ) ≡ marks 0 0 (Called (Write a (Count (pos 5)))) ∷ marks 1 1 (Called (Write a (Count (pos 7)))) ∷ marks 29 0 (Waiting 1) ∷ marks 41 1 (Waiting 1) ∷ marks 53 0 Entered ∷ []
tie = refl

-- no process ever holds the ticket 3: an overlapped read gives it
flickering_ticket : lines (one 2 2 2 1) [] (
    Call 0 (Read a) ∷ steps 0 20 ++ Withdraw 0 ∷ Call 1 (Read a) ∷ steps 1 4 ++ steps 0 3 ++ replicate 2 (Step 1 true) ++ replicate 4 (Step 0 true) ++ replicate 6 (Step 1 true) ++ Step 0 true ∷ []
    ) ≡ marks 0 0 (Called (Read a)) ∷ marks 20 0 (Waiting 1) ∷ marks 21 0 Withdrew ∷ marks 22 1 (Called (Read a)) ∷ marks 41 1 (Answered (TicketsFull 0)) ∷ marks 42 0 (Answered Withdrawn) ∷ []
flickering_ticket = refl

-- the first 30 entries of a run in which a process already holds the only ticket
tickets_full : lines (one 2 1 2 1) [] (Call 0 (Read a) ∷ steps 0 14 ++ Call 1 (Read a) ∷ steps 1 10 ++ steps 0 4)
    ≡ marks 0 0 (Called (Read a)) ∷ marks 14 0 (Waiting 1) ∷ marks 15 1 (Called (Read a)) ∷ marks 25 1 (Answered (TicketsFull 0)) ∷ marks 29 0 Entered ∷ []
tickets_full = refl

-- a process fails before its first access, is restarted once it is down, and may then call again
restart_and_calls_of_a_failed_process : lines (one 1 4 4 1) [] (Call 0 (Read a) ∷ Fail 0 ∷ Restart 0 ∷ Call 0 (Read a) ∷ steps 0 10 ++ Call 0 (Read a) ∷ Restart 0 ∷ [])
    ≡ marks 0 0 (Called (Read a)) ∷ marks 1 0 Failed ∷ refuses 0 NotDown ∷ refuses 0 IsDown ∷ marks 11 0 Down ∷ refuses 0 IsDown ∷ marks 12 0 Restarted ∷ []
restart_and_calls_of_a_failed_process = refl

-- refusals to a process that runs, to one that is idle and to one that is settling
other_refusals : lines (one 2 4 4 1) [] (Call 0 (Read a) ∷ Call 0 (Read a) ∷ Step 1 false ∷ Fail 1 ∷ Fail 1 ∷ Withdraw 1 ∷ steps 1 20)
    ≡ marks 0 0 (Called (Read a)) ∷ refuses 0 Busy ∷ refuses 1 NotRunning ∷ marks 1 1 Failed ∷ refuses 1 AlreadyFailed ∷ refuses 1 NotWaiting ∷ marks 21 1 Down ∷ []
other_refusals = refl

-- the doorway of a process that is alone: it has a ticket and is inside with one entry
doorway_of_a_lone_write : lines (one 1 2 2 1) [] (Call 0 (Write a (Count (pos 5))) ∷ steps 0 8)
    ≡ marks 0 0 (Called (Write a (Count (pos 5)))) ∷ marks 8 0 (Waiting 1) ∷ marks 8 0 Entered ∷ []
doorway_of_a_lone_write = refl

-- the first process waits and withdraws, and the second one, whose doorway came later, gets inside
withdrawal_events : List Event
withdrawal_events = Call 0 (Read a) ∷ steps 0 20 ++ Call 1 (Read a) ∷ steps 1 20 ++ Step 0 false ∷ Withdraw 0 ∷ steps 0 8 ++ steps 1 6 ++ Withdraw 1 ∷ []

withdrawal : lines (one 2 2 2 1) [] withdrawal_events
    ≡ marks 0 0 (Called (Read a)) ∷ marks 20 0 (Waiting 1) ∷ marks 21 1 (Called (Read a)) ∷ marks 41 1 (Waiting 2) ∷ marks 43 0 Withdrew ∷ marks 51 0 (Answered Withdrawn) ∷ marks 57 1 Entered ∷ refuses 1 NotWaiting ∷ []
unfolding withdrawal_events
withdrawal = refl

-- before that the first one is ahead of the second one
ahead_of_the_second : ahead (one 2 2 2 1) 1 (past_of (one 2 2 2 1) (reverse (take 42 withdrawal_events))) ≡ 0 ∷ []
unfolding withdrawal_events
ahead_of_the_second = refl

-- the registers open with the image of the opening store
opening_image : newest_bytes (one 2 2 2 1) [] ≡ replicate 23 0
unfolding image_of unused_slot
opening_image = refl

-- a process fails while it writes bit 0 of its ticket. Its unit settles that bit at the first flick, with one access. Then it clears the ticket and the choosing bit
torn_ticket : lines (one 1 2 2 1) [] (Call 0 (Read a) ∷ steps 0 3 ++ Fail 0 ∷ Step 0 true ∷ steps 0 6)
    ≡ marks 0 0 (Called (Read a)) ∷ marks 4 0 Failed ∷ marks 5 0 (Settled true) ∷ marks 11 0 Down ∷ []
torn_ticket = refl

-- a process fails between the two copies of its choosing bit: its unit writes both, with begin and end
failure_between_copies : lines (one 2 2 2 1) [] (Call 0 (Read a) ∷ steps 0 2 ++ Fail 0 ∷ Step 0 true ∷ steps 0 15)
    ≡ marks 0 0 (Called (Read a)) ∷ marks 3 0 Failed ∷ marks 7 0 (Settled true) ∷ marks 19 0 Down ∷ []
failure_between_copies = refl

-- the call `write a c:5` of a process that is alone
lone_write : Rattle.model.specs.Scripts.Call
lone_write = record { setup = one 1 2 2 1; process = 0; command = Write a (Count (pos 5)); number = 0 }

-- the bits of the image that it writes are read back as the store that it makes
an_image_is_read_back : (Rattle.model.specs.Program.store_read lone_write (new_image lone_write (empty_store 1 0))).pairs ≡ (a, Count (pos 5)) ∷ []
unfolding lone_write image_of store_in slots.store_read count_bytes count_in unused_slot name_in value_in number_bytes number_in
an_image_is_read_back = refl

-- the command of this call changes the empty store
it_changes_the_store : changes (empty_store 1 0) (Write a (Count (pos 5))) ≡ true
it_changes_the_store = refl
