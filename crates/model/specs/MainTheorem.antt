-- The statements of the main theorem, about the record of every list of events. This file only defines them; the crates of laws above prove them.
use Rattle.std.specs.Prelude.{◌≡◌, ◌↔◌, ℕ, suc, ◌+◌, ◌<◌, ◌==◌, nat_lt, Bool, true, false, ◌&&◌, ◌||◌, List, [], ◌∷◌, ◌++◌, length, map, take, slice_get, Option, None, Some, Ok, cond, IsTrue, IsFalse, Contains}
use Rattle.std.specs.List.{list_any}
use Rattle.safe_bit.specs.{is_end_of_read, is_overlapped}
use Rattle.model.specs.declared.access.Access.{Access}
use Rattle.model.specs.declared.access.Field.{Field}
use Rattle.model.specs.declared.access.Field.TheVariants.{Choosing, Ticket, Image0, Image1}
use Rattle.safe_number.specs.{number_of_bits}
use Rattle.plain_store.specs.{Answer, Contents, Reply, Setup, after, callers_of, changes, checked, opening_store, reply_to}
use Rattle.plain_store.specs.declared.Answer.TheVariants as answer
use Rattle.plain_store.specs.declared.Command.TheVariants.{Ask}
use Rattle.plain_store.specs.declared.Reply.TheVariants.{Last}
use Rattle.store_image.specs.{IsImageOf, image_of}
use Rattle.model.specs.declared.events.Event.{Event}
use Rattle.model.specs.declared.history.Taken.{Taken}
use Rattle.model.specs.declared.marks.Mark.TheVariants.{Answered}
use Rattle.model.specs.Calls.{read_so_far, last_call}
use Rattle.model.specs.Doorways.{is_ahead}
use Rattle.model.specs.Entries.{Entry, Past, own, has, since, is_called, is_failed, is_waiting, is_entered}
use Rattle.model.specs.Given.{EachEntryGiven, EachPastGiven}
use Rattle.model.specs.Histories.{history, store_after}
use Rattle.model.specs.Moves.{moves_of}
use Rattle.model.specs.Newest.{newest_bytes, is_somebody_inside, cell_after}
use Rattle.model.specs.Program.{max_of}
use Rattle.model.specs.Records.{entry_of, past_of}
use Rattle.model.specs.Registers.{others, width, image_bytes, bytes_of_bits}
use Rattle.model.specs.Scripts.{Call, caller}
use Rattle.model.specs.Spans.{entries_of_call, has_ended, takings, takings_of_call, all_takings}
use Rattle.model.specs.Stages.{inside}
use Rattle.model.specs.Unit.{last_read}

-- in every record, this holds of each past
abbrev pub EachPast : (Setup → Past → Type 0) → Type 0
EachPast P = (s : Setup) → checked s ≡ Ok tt → (events : List Event) → P s (past_of s events)

-- in every record, this holds of each entry and the past that it is added to
abbrev pub EachEntry : (Setup → Past → Entry → Type 0) → Type 0
EachEntry P = (s : Setup) → checked s ≡ Ok tt → (events : List Event) (event : Event) (e : Entry) →
    entry_of s (past_of s events) event ≡ Some e → P s (past_of s events) e

-- No two processes are inside together.
abbrev pub IsAlone : Past → Type 0
IsAlone past = (i j : ℕ) → IsTrue (inside i past) → IsTrue (inside j past) → i ≡ j

abbrev pub MutualExclusion : Type 0
MutualExclusion = EachPast λ s past. IsAlone past

-- First come, first served: when a process enters, no process is ahead of it.
abbrev pub OvertakesNobody : Past → Entry → Type 0
OvertakesNobody past e = IsTrue (has is_entered e) → (j : ℕ) → IsFalse (is_ahead past j e.process)

abbrev pub NoOvertaking : Type 0
NoOvertaking = EachEntry λ s past e. OvertakesNobody past e

-- the last call of the process of an entry that is added to a past
abbrev pub call_of : Setup → Past → Entry → Call
call_of s past e = last_call s e.process (own e.process past)

-- Each command that is taken has the next position in the history, and the sequential store's reply there, to the call's command, process and number.
abbrev pub TakesItsPlace : Setup → Past → Entry → Type 0
TakesItsPlace s past e = (k : ℕ) (r : Reply) → Contains (takings e.marks) (k, r) →
    (k ≡ length (history s past)) × (r ≡ reply_to (store_after s (history s past)) (call_of s past e).command (caller (call_of s past e)))

abbrev pub TakenInHistory : Type 0
TakenInHistory = EachEntryGiven TakesItsPlace

-- a store answer: exactly one command was taken, with this reply; any other answer: none was taken
abbrev pub IsAnswerTo : Answer → List (ℕ × Reply) → Type 0
IsAnswerTo (answer.Reply r) taken = (k : ℕ) × (taken ≡ (k, r) ∷ [])
IsAnswerTo _ taken = taken ≡ []

-- A store answer is the reply with which its call took its one command. A call with another answer has taken no command.
abbrev pub AnswersAreTaken : Type 0
AnswersAreTaken = EachEntry λ s past e. (a : Answer) → Contains e.marks (Answered a) → IsAnswerTo a (all_takings (since is_called (own e.process (e ∷ past))))

-- In all its entries, before and after the answer, an answered call takes exactly what its answer states.
abbrev pub CallsTakeWhatTheyAnswer : Past → Type 0
CallsTakeWhatTheyAnswer past = (later earlier : Past) (e answering : Entry) (a : Answer) → past ≡ later ++ e ∷ earlier → IsTrue (has is_called e) →
    Contains (entries_of_call e.process later) answering → Contains answering.marks (Answered a) → IsAnswerTo a (takings_of_call e.process later)

abbrev pub AnsweredCallsTakeNoMore : Type 0
AnsweredCallsTakeNoMore = EachPast λ s past. CallsTakeWhatTheyAnswer past

-- the history has a command of this call at this position, with this reply, which is the sequential store's reply there
pub record IsTakenAt (s : Setup) (taken : List Taken) (c : Call) (r : Reply) (k : ℕ) : Type 0 where
  pub there : slice_get taken k ≡ Some (record { process = c.process; command = c.command; reply = r; number = c.number })
  pub reply : r ≡ reply_to (store_after s (take k taken)) c.command (caller c)

-- If a call is answered with a store reply, the history contains its command with this reply.
abbrev pub IsInHistory : Setup → Past → Entry → Type 0
IsInHistory s past e = (r : Reply) → Contains e.marks (Answered (answer.Reply r)) → (k : ℕ) × IsTakenAt s (history s (e ∷ past)) (call_of s past e) r k

abbrev pub AnswersAreInHistory : Type 0
AnswersAreInHistory = EachEntryGiven IsInHistory

-- A call, cut or not, is taken at most once.
abbrev pub CallsTakeOnce : Past → Type 0
CallsTakeOnce past = (later earlier : Past) (e : Entry) → past ≡ later ++ e ∷ earlier → IsTrue (has is_called e) → length (takings_of_call e.process later) < 2

abbrev pub TakenOnce : Type 0
TakenOnce = EachPast λ s past. CallsTakeOnce past

-- A call that was cut by a failure is never answered.
abbrev pub AnswersNoCutCall : Past → Entry → Type 0
AnswersNoCutCall past e = (a : Answer) → Contains e.marks (Answered a) → IsFalse (list_any (has is_failed) (since is_called (own e.process past)))

abbrev pub CutCallsAreNotAnswered : Type 0
CutCallsAreNotAnswered = EachEntry λ s past e. AnswersNoCutCall past e

-- If two taken calls do not overlap, the earlier one has the lower position: the span of the call of x ends before the span of the call of y begins.
abbrev pub PlacesKeepOrder : Past → Type 0
PlacesKeepOrder past = (newer between earlier : Past) (x y : Entry) → past ≡ newer ++ y ∷ between ++ x ∷ earlier →
    IsTrue (has is_called x) → IsTrue (has is_called y) → IsTrue (has_ended x.process between) →
    (k m : ℕ) (q r : Reply) → Contains (takings_of_call x.process (newer ++ y ∷ between)) (k, q) → Contains (takings_of_call y.process newer) (m, r) → k < m

abbrev pub KeepsOrder : Type 0
KeepsOrder = EachPast λ s past. PlacesKeepOrder past

-- One history: these statements together.
pub record OneHistory : Type 0 where
  pub taken : TakenInHistory
  pub answers : AnswersAreTaken
  pub whole_calls : AnsweredCallsTakeNoMore
  pub in_history : AnswersAreInHistory
  pub once : TakenOnce
  pub cut : CutCallsAreNotAnswered
  pub order : KeepsOrder

-- a register of a version
abbrev pub is_version : Field → Bool
is_version Choosing = false
is_version Ticket = false
is_version _ = true

-- an image
abbrev pub is_image : Field → Bool
is_image Image0 = true
is_image Image1 = true
is_image _ = false

-- No read of a commit bit, a stamp or an image is overlapped.
abbrev pub ReadsUnoverlapped : Past → Entry → Type 0
ReadsUnoverlapped past e = (a : Access) → e.access ≡ Some a → IsTrue (is_version a.field) → IsTrue (is_end_of_read a.how) → IsFalse (is_overlapped (moves_of a past))

abbrev pub VersionReadsAreUnoverlapped : Type 0
VersionReadsAreUnoverlapped = EachEntry λ s past e. ReadsUnoverlapped past e

-- if an entry ends the read of an image, the property holds of the bytes that its process has read
abbrev pub OfImageRead : Setup → Past → Entry → (List ℕ → Type 0) → Type 0
OfImageRead s past e P = (a : Access) → e.access ≡ Some a → IsTrue (is_image a.field) → IsTrue (is_end_of_read a.how) → a.bit + 1 ≡ width s a.field →
    P (bytes_of_bits (image_bytes s) (last_read (read_so_far s (since is_called (own e.process (e ∷ past)))).finished))

-- The bytes that a process reads as an image are an image.
abbrev pub ImagesAreRead : Type 0
ImagesAreRead = EachEntryGiven λ s past e. OfImageRead s past e (λ bytes. (store : Contents) × IsImageOf (callers_of s) bytes store)

-- The image that a process reads inside is that of the store after the history so far.
abbrev pub ReadsTheStore : Setup → Past → Entry → Type 0
ReadsTheStore s past e = OfImageRead s past e (λ bytes. IsImageOf (callers_of s) bytes (store_after s (history s past)))

abbrev pub ImagesAreOfTheStore : Type 0
ImagesAreOfTheStore = EachEntryGiven ReadsTheStore

-- the tickets that a process has read in its doorway, one of each other process, ascending
abbrev pub tickets_read : Setup → ℕ → Past → List ℕ
tickets_read s p past = map number_of_bits (read_so_far s (since is_called (own p past))).finished

-- the first of some processes whose ticket was read as the greatest one
abbrev pub lowest_full : ℕ → List ℕ → List ℕ → Option ℕ
lowest_full top (j ∷ js) (t ∷ ts) = cond (t == top) (Some j) (lowest_full top js ts)
lowest_full top _ _ = None

-- A doorway that ends with a ticket has read no greatest ticket.
abbrev pub HasReadNoGreatest : Setup → Past → Entry → Type 0
HasReadNoGreatest s past e = IsTrue (has is_waiting e) → lowest_full (max_of s.ticket_bits) (others s e.process) (tickets_read s e.process past) ≡ None

abbrev pub WaitersReadNoGreatestTicket : Type 0
WaitersReadNoGreatestTicket = EachEntry HasReadNoGreatest

-- A doorway that ends with `TicketsFull` has read the greatest ticket, and it names the lowest process whose read gave it.
abbrev pub NamesTheLowest : Setup → Past → Entry → Type 0
NamesTheLowest s past e = (j : ℕ) → Contains e.marks (Answered (answer.TicketsFull j)) →
    lowest_full (max_of s.ticket_bits) (others s e.process) (tickets_read s e.process past) ≡ Some j

abbrev pub TicketsFullNamesTheLowest : Type 0
TicketsFullNamesTheLowest = EachEntry NamesTheLowest

-- p ends the read of an image
abbrev pub ends_image_read : ℕ → Entry → Bool
ends_image_read p e = (e.process == p) && elim e.access [ None ↦ false | Some a ↦ is_image a.field && is_end_of_read a.how ]

-- the entries before p last ended a read of an image
abbrev pub before_image_read : ℕ → Past → Past
before_image_read p [] = []
before_image_read p (e ∷ past) = elim (ends_image_read p e) [ true ↦ past | false ↦ before_image_read p past ]

-- the number of these commands that change the store, taken one after the other
abbrev pub count_changes : Contents → List Taken → ℕ
count_changes store [] = 0
count_changes store (t ∷ history) =
    let next = after store t.command (record { process = t.process; number = t.number }) in
    cond (changes store t.command) (suc (count_changes next history)) (count_changes next history)

-- `StampsFull` is answered only to a command that would change the store after the history when it was read. As many changes had then been taken as the greatest stamp.
abbrev pub IsAfterAllChanges : Setup → Past → Entry → Type 0
IsAfterAllChanges s past e = Contains e.marks (Answered answer.StampsFull) →
    let read = history s (before_image_read e.process past) in
    (changes (store_after s read) (call_of s past e).command ≡ true) × (count_changes (opening_store s) read ≡ max_of s.stamp_bits)

abbrev pub StampsFullAfterAllChanges : Type 0
StampsFullAfterAllChanges = EachEntryGiven IsAfterAllChanges

-- While no process is inside, the registers hold the image of the sequential store after the history, call numbers included.
abbrev pub NewestIsTheHistorys : Type 0
NewestIsTheHistorys = EachPastGiven λ s past. IsFalse (is_somebody_inside s past) → newest_bytes s past ≡ image_of (store_after s (history s past))

-- While no process is inside, no write of a version is open.
abbrev pub VersionsAreWholeOutside : Type 0
VersionsAreWholeOutside = EachPast λ s past. IsFalse (is_somebody_inside s past) → (a : Access) → IsTrue (is_version a.field) → (cell_after s past a).writing ≡ false

-- the number of p's latest change among these commands, taken one after the other; 0 if there is none
abbrev pub latest_change : ℕ → Contents → List Taken → ℕ → ℕ
latest_change p store [] last = last
latest_change p store (t ∷ history) last =
    latest_change p (after store t.command (record { process = t.process; number = t.number })) history (cond ((t.process == p) && changes store t.command) t.number last)

-- `Ask` returns the number of the asker's latest change in the history before its position, or 0.
abbrev pub AsksTheLatestChange : Setup → Past → Type 0
AsksTheLatestChange s past = (k : ℕ) (t : Taken) → slice_get (history s past) k ≡ Some t → t.command ≡ Ask →
    t.reply ≡ Last (latest_change t.process (opening_store s) (take k (history s past)) 0)

abbrev pub AskAnswersTheLatestChange : Type 0
AskAnswersTheLatestChange = EachPastGiven AsksTheLatestChange

-- among these commands, taken one after the other, there is a change by p whose number passes the test
abbrev pub has_change : ℕ → (ℕ → Bool) → Contents → List Taken → Bool
has_change p test store [] = false
has_change p test store (t ∷ history) =
    ((t.process == p) && test t.number && changes store t.command)
    || has_change p test (after store t.command (record { process = t.process; number = t.number })) history

-- In version 2, let `Ask` be answered, and let no change of its process that is later than its call number m precede it. Then call m was taken as a change exactly if the answer is `Last(m)`.
abbrev pub ReportsOfCutCalls : Setup → Past → Type 0
ReportsOfCutCalls s past = s.version ≡ 2 → (k m : ℕ) (t : Taken) → slice_get (history s past) k ≡ Some t → t.command ≡ Ask → 0 < m → m < t.number →
    IsFalse (has_change t.process (nat_lt m) (opening_store s) (take k (history s past))) →
    IsTrue (has_change t.process (λ n. n == m) (opening_store s) (history s past)) ↔ (t.reply ≡ Last m)

abbrev pub AskReportsOfCutCalls : Type 0
AskReportsOfCutCalls = EachPastGiven ReportsOfCutCalls

-- The main theorem, of one entry and the past that it is added to. The processes go inside one at a time, and not before a waiting process whose doorway ended before their own began. Their replies are those of one thread that takes the commands of one history. The data that they read is whole. The answers `TicketsFull`, `StampsFull` and the replies to `Ask` are true.
pub record KeepsMainTheorem (s : Setup) (past : Past) (e : Entry) : Type 0 where
  pub alone : IsAlone (e ∷ past)  -- no two are inside together, a failed one among them until its unit lets go
  pub overtakes : OvertakesNobody past e  -- no process enters past one that waits and had finished its doorway before the other began its own
  pub place : TakesItsPlace s past e  -- a command that is taken has its position, and the sequential store's reply there
  pub in_history : IsInHistory s past e  -- a store answer is in the history, with its process, command, reply and number
  pub answers : CallsTakeWhatTheyAnswer (e ∷ past)  -- it is the reply of the one command of its call
  pub cut : AnswersNoCutCall past e  -- a call that was cut is never answered
  pub once : CallsTakeOnce (e ∷ past)  -- and is taken at most once
  pub order : PlacesKeepOrder (e ∷ past)  -- places keep the order of calls that do not overlap
  pub unoverlapped : ReadsUnoverlapped past e  -- no read of a commit bit, a stamp or an image is overlapped
  pub images : ReadsTheStore s past e  -- an image that is read is that of the store after the history so far
  pub waits : HasReadNoGreatest s past e  -- a doorway ends with a ticket only if no read of it gave the greatest one
  pub tickets : NamesTheLowest s past e  -- and with `TicketsFull` only if one did, of the lowest process whose read did
  pub stamps : IsAfterAllChanges s past e  -- `StampsFull` is answered only to a change, after as many as the greatest stamp
  pub asks : AsksTheLatestChange s (e ∷ past)  -- `Ask` returns the number of the asker's latest change before its position, or 0
  pub reports : ReportsOfCutCalls s (e ∷ past)  -- so `Ask` reports of a call that was cut whether it was taken as a change

-- The main theorem: each entry of every record keeps it.
abbrev pub MainTheorem : Type 0
MainTheorem = EachEntryGiven KeepsMainTheorem

-- The main theorem for one past: each of its entries keeps it.
abbrev pub KeepsMainTheoremThroughout : Setup → Past → Type 0
KeepsMainTheoremThroughout s past = (later earlier : Past) (e : Entry) → past ≡ later ++ e ∷ earlier → KeepsMainTheorem s earlier e

abbrev pub MainTheoremThroughout : Type 0
MainTheoremThroughout = EachPastGiven KeepsMainTheoremThroughout
