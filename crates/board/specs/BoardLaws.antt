-- The laws of every board.
use Rattle.std.specs.Prelude.{◌≡◌, ℕ, ◌+◌, ◌<◌, false, true, List, ◌++◌, take, slice_get, Ok, Some}
use mathlib.Core.Option.{some}
use lib.ListN.{get_elem?}
use Rattle.model.specs.{EachPastGiven, Event, KeepsMainTheoremThroughout, Past, Placed, Taken, count_changes, history, past_of, process_of, refused, stage, store_after}
use Rattle.plain_store.specs.{Answer, Setup, Value, changes, checked, opening_store}
use Rattle.plain_store.specs.declared.Answer.TheVariants as answer
use Rattle.plain_store.specs.declared.Command.TheVariants.{Read, Write}
use Rattle.plain_store.specs.declared.Reply.TheVariants as reply
use Rattle.laws.specs.{IsThere}
use Rattle.board.specs.Agreement.{Agree, Shows, are_neighbours}
use Rattle.process.specs.choices.{FlickState}
use Rattle.process.specs.registers.{BitCopy}
use Rattle.board.specs.Driving.{Drives}
use Rattle.board.specs.declared.driving.Driven.{Driven}
use Rattle.board.specs.Calls.{IsPrefix, and_then, calls_of, changes_of}
use Rattle.board.specs.Lists.{FitsChanges, store_at}
use Rattle.board.specs.Views.{MayAllHappen, ViewState, refusal_in, stage_in, with_events}
use Rattle.board.specs.Words.{access_to, copy_of, word_of_copy, words_in}

-- Each single-reader bit has a word, and the bit can be found from that word: no two bits have one word.
abbrev pub WordsReportTheirBits : Type 0
WordsReportTheirBits = (s : Setup) (c : BitCopy) → IsThere s (access_to c) → (word_of_copy s c < words_in s) × (copy_of s (word_of_copy s c) ≡ c)

-- Each word is the word of a bit that exists.
abbrev pub WordsAreOfBits : Type 0
WordsAreOfBits = (s : Setup) → checked s ≡ Ok tt → (word : ℕ) → word < words_in s → IsThere s (access_to (copy_of s word))

-- this holds of each view that is not spent, with the events of its process since, and of each list of events that words and views show, followed by those events
abbrev pub EachView : (Setup → List Event → ViewState → List Event → Type 0) → Type 0
EachView P = (s : Setup) (events : List Event) (words : List ℕ) (views : List ViewState) (i : ℕ) (v : ViewState) (since : List Event) →
    Shows s events words views → get_elem? views i ≡ some v → v.spent ≡ false → MayAllHappen s v.own since → P s (since ++ events) v since

-- The stage in a view is the stage of its process in the record.
abbrev pub StagesAreTheRecords : Type 0
StagesAreTheRecords = EachView λ s events v since. stage v.own.process (past_of s events) ≡ stage_in s (with_events s v.own since)

-- An event of the view's process is refused as in the record.
abbrev pub RefusalsAreTheRecords : Type 0
RefusalsAreTheRecords = EachView λ s events v since. (event : Event) → process_of event ≡ v.own.process → refused s (past_of s events) event ≡ refusal_in s (with_events s v.own since) event

-- If words and views agree, they show the record of some events, in which the begin and the end of each read are neighbours, and that record keeps the main theorem.
abbrev pub BoardsKeepTheMainTheorem : Type 0
BoardsKeepTheMainTheorem = (s : Setup) (words : List ℕ) (views : List ViewState) → Agree s words views →
    (events : List Event) × Shows s events words views × (are_neighbours (past_of s events) ≡ true) × KeepsMainTheoremThroughout s (past_of s events)

-- The store after the changes alone is the store after the history. So it is at each position of the history: the changes among its first k commands make the store after them.
abbrev pub ChangesMakeTheStore : Type 0
ChangesMakeTheStore = (s : Setup) (past : Past) (k : ℕ) → store_at s (changes_of s past) (count_changes (opening_store s) (take k (history s past))) ≡ store_after s (take k (history s past))

abbrev pub AllChangesMakeTheStore : Type 0
AllChangesMakeTheStore = (s : Setup) (past : Past) → store_after s (changes_of s past) ≡ store_after s (history s past)

-- The finished calls of each process are consistent with the list of changes, and so are these calls followed by the unfinished one.
abbrev pub CallsAreInTheChanges : Type 0
CallsAreInTheChanges = EachPastGiven λ s past. (p : ℕ) → let calls = calls_of s p past in FitsChanges s p calls.done (changes_of s past) × FitsChanges s p (and_then calls.done calls.now) (changes_of s past)

-- Calls that are consistent with a list of changes are consistent with each longer one.
abbrev pub IsInLonger : Type 0
IsInLonger = (s : Setup) (p : ℕ) (calls : List Placed) (first all : List Taken) → IsPrefix first all → FitsChanges s p calls first → FitsChanges s p calls all

-- A process reads what it wrote: if its write of a name changed the store, then its read of that name at the next position returns the value.
abbrev pub OwnWritesAreRead : Type 0
OwnWritesAreRead = (s : Setup) (p : ℕ) (calls : List Placed) (list : List Taken) → FitsChanges s p calls list → (j k place : ℕ) (write read : Placed) (name : List ℕ) (x : Value) →
    slice_get calls j ≡ Some write → slice_get calls k ≡ Some read → write.command ≡ Write name x → read.command ≡ Read name → write.place ≡ Some place → read.place ≡ Some (place + 1) →
    changes (store_at s list place) write.command ≡ true → (a : Answer) → read.answer ≡ Some a → a ≡ answer.Reply (reply.Value x)

-- The changes that a port had seen before it was driven are among those that it has seen afterwards.
abbrev pub SeenStaysSeen : Type 0
SeenStaysSeen = (s : Setup) (v : ViewState) (turns : ℕ) (flicks : FlickState) (end : Driven) (w : ViewState) (then : FlickState) → Drives s v turns flicks end w then → IsPrefix v.seen w.seen
