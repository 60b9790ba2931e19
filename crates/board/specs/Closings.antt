-- Closing a board: the store that its words show, and the lists that it returns.
use Rattle.std.specs.Prelude.{◌≡◌, ◌⊎◌, ℕ, ◌+◌, ◌<◌, ◌≤◌, ◌==◌, ◌++◌, Bool, false, List, length, map, take, drop, slice_get, slice_index, slice_index_or, Some}
use Rattle.std.specs.Global.{Vec}
use Rattle.std.specs.List.{range_with_len}
use Rattle.std.specs.Slots.{slots_items}
use Rattle.std.specs.declared.alloc.Global.{Global}
use Rattle.atomic_table.specs.declared.Closed.{Closed}
use Rattle.atomic_table.specs.Seated.{TableId}
use Rattle.model.specs.{AreGiven, Event, Field, KeepsMainTheoremThroughout, Placed, Taken, Version, bytes_of_bits, copy, image_bytes, image_field, lists_of, newest_process, past_of, processes, stamp_field, store_after, version_of, width}
use Rattle.model.specs.declared.access.Field.TheVariants.{Commit}
use Rattle.model.specs.safe_number.{number_of_bits}
use Rattle.plain_store.specs.{Contents, Setup, callers_of}
use Rattle.store_image.specs.{store_in}
use Rattle.model.specs.declared.stages.Stage.TheVariants.{Down, Idle}
use Rattle.laws.specs.{doing}
use Rattle.board.specs.Agreement.{IsIn, IsQuiet}
use Rattle.board.specs.Boards.{BoardState, IsOf}
use Rattle.board.specs.declared.closing.Closing.{Closing}
use Rattle.board.specs.Calls.{Calls, IsPrefix, calls_of, changes_of}
use Rattle.board.specs.Lists.{FitsChanges}
use Rattle.board.specs.Ports.{PortState}
use Rattle.board.specs.Views.{OwnView, ViewState, stage_in}
use Rattle.board.specs.Words.{word_of}

-- the bits that words show of a register, by the copies of reader 0
abbrev pub bits_shown : Setup → List ℕ → ℕ → Field → List Bool
bits_shown s words owner field = map (λ k. slice_index words (word_of s (copy owner field 0 k)) == 1) (range_with_len 0 (width s field))

-- a bit that words show of a register
abbrev pub bit_shown : Setup → List ℕ → ℕ → Field → ℕ → Bool
bit_shown s words owner field bit = slice_index_or (bits_shown s words owner field) bit false

-- the number of `count` of these bits, from bit `from` on
abbrev pub number_shown : Setup → List ℕ → ℕ → Field → (from count : ℕ) → ℕ
number_shown s words owner field from count = number_of_bits (take count (drop from (bits_shown s words owner field)))

-- the first `count` bytes that these bits make
abbrev pub bytes_of : Setup → List ℕ → ℕ → Field → ℕ → List ℕ
bytes_of s words owner field count = bytes_of_bits count (bits_shown s words owner field)

-- the version that the words show as committed by a process
abbrev pub version_shown : Setup → List ℕ → ℕ → Version
version_shown s words p =
    let commit = bit_shown s words p Commit 0 in
    (commit, number_of_bits (bits_shown s words p (stamp_field commit)))

-- the versions that the words show of all processes
abbrev pub versions_shown : Setup → List ℕ → List Version
versions_shown s words = map (version_shown s words) (processes s)

-- the bytes of the committed image with the greatest stamp, of the lowest process on a tie
abbrev pub bytes_shown : Setup → List ℕ → List ℕ
bytes_shown s words =
    let versions = versions_shown s words in
    let newest = newest_process versions in
    bytes_of s words newest (image_field (version_of versions newest)) (image_bytes s)

-- the store that these bytes represent
abbrev pub store_shown : Setup → List ℕ → Contents
store_shown s words = store_in s.slots (callers_of s) (bytes_shown s words)

-- the words of a board that is closed
abbrev pub words_of : Closed (Unit {0}) Global → List ℕ
words_of closed = slots_items closed.words

-- each of these ports was made with the board
abbrev pub AreMadeWith : BoardState → List PortState → Type 0
AreMadeWith board ports = (k : ℕ) (port : PortState) → slice_get ports k ≡ Some port → IsOf board port

-- the port of process p is at this index
abbrev pub IsPlaceOf : List PortState → ℕ → ℕ → Type 0
IsPlaceOf ports p place = (port : PortState) × (slice_get ports place ≡ Some port) × (port.view.own.process ≡ p)

-- the list has one port of each process, and no other
pub record AreOfAll (processes : ℕ) (ports : List PortState) : Type 0 where
  pub all : length ports ≡ processes
  pub each : (p : ℕ) → p < processes → (place : ℕ) × IsPlaceOf ports p place

-- port k is that of process k
abbrev pub AreInOrder : List PortState → Type 0
AreInOrder ports = (k : ℕ) (port : PortState) → slice_get ports k ≡ Some port → port.view.own.process ≡ k

-- these are ports of the board, of the first processes in order; some of the last may be missing
pub record AreFirstPortsOf (board : BoardState) (ports : List PortState) : Type 0 where
  pub few : length ports ≤ board.setup.processes
  pub each : (k : ℕ) (port : PortState) → slice_get ports k ≡ Some port → IsOf board port × (port.view.own.process ≡ k)

-- the process is idle or down
abbrev pub IsStill : Setup → OwnView → Type 0
IsStill s o = (stage_in s o ≡ Idle) ⊎ (stage_in s o ≡ Down)

-- the process of each port is idle or down
abbrev pub AreQuiet : List PortState → Type 0
AreQuiet ports = (k : ℕ) (port : PortState) → slice_get ports k ≡ Some port → IsStill port.setup port.view.own

-- the view of a quiet port's seat: the pending event, a restart at most, has changed neither its calls nor the changes that it has seen
pub record IsSeatOf (port : PortState) (v : ViewState) : Type 0 where
  pub live : v.spent ≡ false
  pub process : v.own.process ≡ port.view.own.process
  pub still : IsStill port.setup v.own
  pub calls : v.own.calls ≡ port.view.own.calls
  pub seen : v.seen ≡ port.view.seen

-- these are ports of this table and this setup; their processes are `first` and those after it, in order
abbrev pub AreOthers : TableId → Setup → ℕ → List PortState → Type 0
AreOthers table s first ports = (k : ℕ) (port : PortState) → slice_get ports k ≡ Some port → (port.table_id ≡ table) × (port.setup ≡ s) × (port.view.own.process ≡ first + k)

-- w is the view v of port 0 after the seats of `count` processes were joined to it
pub record HasJoined (count : ℕ) (v w : ViewState) : Type 0 where
  pub live : w.spent ≡ v.spent
  pub own : w.own ≡ v.own
  pub seen : w.seen ≡ v.seen
  pub joined : (p : ℕ) → 0 < p → p ≤ count → IsIn p w.joined

-- a closed board leaves this store: the store after the changes of the record of some events. That record keeps the main theorem, each process is quiet in it, and its changes begin with those that port 0 has seen. The calls of port 0 are consistent with these changes
pub record Leaves (s : Setup) (its_calls : Calls) (has_seen : List Taken) (image : Contents) : Type 0 where
  pub events : List Event
  pub given : AreGiven s events
  pub main_theorem : KeepsMainTheoremThroughout s (past_of s events)
  pub quiet : (p : ℕ) → p < s.processes → IsQuiet (doing s p (past_of s events))
  pub calls : its_calls ≡ calls_of s 0 (past_of s events)
  pub seen : IsPrefix has_seen (changes_of s (past_of s events))
  pub fits : FitsChanges s 0 its_calls.done (changes_of s (past_of s events))
  pub store : image ≡ store_after s (changes_of s (past_of s events))

-- the finished calls of each of these ports
abbrev pub done_calls : List PortState → List (List Placed)
done_calls ports = map (λ (port : PortState). port.view.own.calls.done) ports

-- list p has the finished calls of the port of process p
pub record AreListsOf (ports : List PortState) (lists : List (List Placed)) : Type 0 where
  pub all : length lists ≡ length ports
  pub each : (k : ℕ) (port : PortState) → slice_get ports k ≡ Some port → slice_get lists port.view.own.process ≡ Some port.view.own.calls.done

-- a board can be closed with these ports: there is one port of each process, and each process is idle or down
abbrev pub CanClose : Setup → List PortState → Type 0
CanClose s ports = AreOfAll s.processes ports × AreQuiet ports

-- the lists that a closed board returns
abbrev pub lists_in : Closing → List (List Placed)
lists_in closing = lists_of closing.answers.items

-- the lists are then followed by the finished calls of each of these ports
abbrev pub AddsCallsOf : List PortState → List (Vec Placed) → List (Vec Placed) → Type 0
AddsCallsOf ports lists then = lists_of then ≡ lists_of lists ++ done_calls ports

-- the board of these ports, of which the first is that of process 0, leaves this store
abbrev pub HeadLeaves : Setup → List PortState → Contents → Type 0
HeadLeaves s ports image = (port : PortState) → slice_get ports 0 ≡ Some port → Leaves s port.view.own.calls port.view.seen image

-- the board of these ports, in any order, leaves this store, by the calls and the changes seen of process 0's port
abbrev pub FirstLeaves : Setup → List PortState → Contents → Type 0
FirstLeaves s ports image = (k : ℕ) (port : PortState) → slice_get ports k ≡ Some port → port.view.own.process ≡ 0 → Leaves s port.view.own.calls port.view.seen image

-- the calls of process p are consistent with the changes of the record of some events
pub record AreInRecord (s : Setup) (p : ℕ) (calls : List Placed) : Type 0 where
  pub events : List Event
  pub given : AreGiven s events
  pub fits : FitsChanges s p calls (changes_of s (past_of s events))

-- each of these lists is consistent with the changes of such a record, list p as that of process p
abbrev pub EachIsInRecord : Setup → List (List Placed) → Type 0
EachIsInRecord s lists = (p : ℕ) (calls : List Placed) → slice_get lists p ≡ Some calls → AreInRecord s p calls
