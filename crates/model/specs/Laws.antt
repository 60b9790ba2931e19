-- The laws of every record of a list of events, and of the place machine next to the script.
use Rattle.std.specs.Prelude.{◌≡◌, ◌≢◌, ℕ, ◌*◌, ◌<◌, Bool, true, false, List, [], ◌∷◌, ◌++◌, length, map, slice_index_or, fold, None, Some, Ok, option_map}
use Rattle.safe_bit.specs.{AreWritesInTurn, is_write_open, last_written, read_answer, read_value}
use Rattle.model.specs.declared.access.Access.{Access}
use Rattle.model.specs.declared.access.Field.{Field}
use Rattle.model.specs.declared.access.Field.TheVariants.{Commit}
use Rattle.model.specs.declared.access.TornBit.{TornBit}
use Rattle.reader_copies.specs.{IsWrite}
use Rattle.plain_store.specs.{Command, Setup, checked}
use Rattle.model.specs.declared.events.Event.{Event}
use Rattle.model.specs.declared.marks.Mark.TheVariants.{Called, Failed, Withdrew}
use Rattle.model.specs.declared.stages.Stage.TheVariants.{Idle, Leaving, Settling}
use Rattle.model.specs.Entries.{Entry, Past, own, since, before, starts, is_failed}
use Rattle.model.specs.Moves.{ended, ended_with, moves_of, AllReads, begins_read}
use Rattle.model.specs.Newest.{copy, cell_after}
use Rattle.model.specs.Parts.{is_over}
use Rattle.model.specs.Calls.{last_call}
use Rattle.model.specs.Cuts.{Change, IsTornOf, pending_at, torn_at, torn_closing}
use Rattle.model.specs.Failures.{begun_at, cut_at, cut_closing}
use Rattle.model.specs.Places.{Place, place_after, access_at, next_written, write_moved, IsFollowed, accesses_of, reads_of, scripted, place_of, next_access, marks_of, stage_at, value_of, entry_at}
use Rattle.model.specs.Closings.{Closing, withdrawing, failing, freeing, closing_next, closing_after, closing_stage, closing_of, closing_entry}
use Rattle.model.specs.Program.{local_program, withdrawn}
use Rattle.model.specs.Records.{past_of, entry_of, process_of, refused, last_start, stepped}
use Rattle.model.specs.Registers.{opening_bit, bytes_of_bits}
use Rattle.safe_number.specs.{AreBytes, IsBytesOf, NumberWrite, bits_in, next_of_write, number_write_after}
use Rattle.model.specs.Scripts.{Call, Next, nth, marks_at}
use Rattle.model.specs.Stages.{stage, stage_after, inside, is_running}
use Rattle.model.specs.Turns.{Leads, open_place, open_closing}
use Rattle.model.specs.Unit.{last_write, unit_program, first_flick, value_written}

-- an event adds an entry of its own process alone
abbrev pub OwnEntry : Type 0
OwnEntry = (s : Setup) → checked s ≡ Ok tt → (events : List Event) (event : Event) (e : Entry) →
    entry_of s (past_of s events) event ≡ Some e → e.process ≡ process_of event

-- an event leaves the entries of each other process as they are
abbrev pub OthersStay : Type 0
OthersStay = (s : Setup) → checked s ≡ Ok tt → (events : List Event) (event : Event) (q : ℕ) →
    q ≢ process_of event → own q (past_of s (event ∷ events)) ≡ own q (past_of s events)

-- an event that is not refused adds an entry
abbrev pub AcceptedAdds : Type 0
AcceptedAdds = (s : Setup) → checked s ≡ Ok tt → (events : List Event) (event : Event) →
    refused s (past_of s events) event ≡ None → (e : Entry) × (past_of s (event ∷ events) ≡ e ∷ past_of s events)

-- an event that is refused adds none
abbrev pub RefusedAddsNothing : Type 0
RefusedAddsNothing = (s : Setup) (events : List Event) (event : Event) →
    (refused s (past_of s events) event ≢ None) → past_of s (event ∷ events) ≡ past_of s events

-- every bit has one writer: the process that begins, ends or settles a write of it is its owner, or the owner's memory unit
abbrev pub SingleWriter : Type 0
SingleWriter = (s : Setup) → checked s ≡ Ok tt → (events : List Event) (event : Event) (e : Entry) → entry_of s (past_of s events) event ≡ Some e →
    (a : Access) → e.access ≡ Some a → IsWrite a.how → a.owner ≡ e.process

-- for every call and all its accesses, the machine's next access is the script's
abbrev pub PlaceReportsNext : Type 0
PlaceReportsNext = (c : Call) → checked c.setup ≡ Ok tt → (accesses : List Access) → IsFollowed c accesses →
    option_map (λ (n : Next). n.access) (scripted c (reads_of c accesses).finished (length accesses)) ≡ next_access c (place_of c accesses)

-- the marks of the place machine are the script's, once the access is made
abbrev pub PlaceReportsMarks : Type 0
PlaceReportsMarks = (c : Call) → checked c.setup ≡ Ok tt → (accesses : List Access) → IsFollowed c accesses → (n : Next) (v : Bool) →
    scripted c (reads_of c accesses).finished (length accesses) ≡ Some n →
    marks_at (length accesses) (local_program c (reads_of c (ended_with v n.access ∷ accesses)).finished) ≡ marks_of c (place_of c accesses) (value_of (ended v n.access.how))

-- in every record, a process that runs its call continues from its place: it has the place's stage, and a step of it makes the place's access, with its marks
abbrev pub RunsFromItsPlace : Type 0
RunsFromItsPlace = (s : Setup) → checked s ≡ Ok tt → (events : List Event) (p : ℕ) (command : Command) →
    let past : Past = past_of s events in
    let c : Call = last_call s p (own p past) in
    last_start (own p past) ≡ Some (Called command) → is_running (stage p past) ≡ true →
    (is_over (place_of c (accesses_of (since starts (own p past)))).part ≡ false)
    × (stage p past ≡ stage_at (place_of c (accesses_of (since starts (own p past)))))
    × ((flick : Bool) → stepped s past p flick ≡ Some (entry_at s past p flick c (place_of c (accesses_of (since starts (own p past))))))

-- for every withdrawn call: the machine's next access and marks are the script's
abbrev pub WithdrawalReportsNext : Type 0
WithdrawalReportsNext = (c : Call) → checked c.setup ≡ Ok tt → (flicks : List Bool) (flick : Bool) →
    nth (length flicks) (withdrawn c) ≡ closing_next c (closing_of c (withdrawing c) flicks) flick

-- for every call that was cut, whatever its process did before: the machine's next access and marks are those of the memory unit's script
abbrev pub UnitReportsNext : Type 0
UnitReportsNext = (c : Call) → checked c.setup ≡ Ok tt → (past : Past) (flicks : List Bool) (flick : Bool) →
    nth (length flicks) (unit_program c past (first_flick flicks flick)) ≡ closing_next c (closing_of c (failing c past) flicks) flick

-- in every record, a process that withdrew continues from its place
abbrev pub WithdrawsFromItsPlace : Type 0
WithdrawsFromItsPlace = (s : Setup) → checked s ≡ Ok tt → (events : List Event) (p : ℕ) →
    let past : Past = past_of s events in
    let c : Call = last_call s p (own p past) in
    let at : Closing = closing_of c (withdrawing c) (map value_written (since starts (own p past))) in
    last_start (own p past) ≡ Some Withdrew → stage p past ≡ Leaving →
    (closing_stage at ≡ Leaving) × ((flick : Bool) → stepped s past p flick ≡ option_map (closing_entry s past p flick) (closing_next c at flick))

-- in every record, the memory unit of a process that failed continues from its place
abbrev pub UnitGoesOnFromItsPlace : Type 0
UnitGoesOnFromItsPlace = (s : Setup) → checked s ≡ Ok tt → (events : List Event) (p : ℕ) →
    let past : Past = past_of s events in
    let c : Call = last_call s p (own p past) in
    let at : Closing = closing_of c (failing c (before is_failed (own p past))) (map value_written (since is_failed (own p past))) in
    last_start (own p past) ≡ Some Failed → stage p past ≡ Settling →
    (closing_stage at ≡ Settling) × ((flick : Bool) → stepped s past p flick ≡ option_map (closing_entry s past p flick) (closing_next c at flick))

-- the marks of the closing machine lead to its stages
abbrev pub ClosingReportsStage : Type 0
ClosingReportsStage = (c : Call) (at : Closing) (flick : Bool) (n : Next) → closing_next c at flick ≡ Some n → fold stage_after (closing_stage at) n.marks ≡ closing_stage (closing_after c at flick)

-- in every record, if a process fails that runs its call, its memory unit starts from the place of the call
abbrev pub CallIsCutAtItsPlace : Type 0
CallIsCutAtItsPlace = (s : Setup) → checked s ≡ Ok tt → (events : List Event) (p : ℕ) (command : Command) →
    let past : Past = past_of s events in
    let c : Call = last_call s p (own p past) in
    last_start (own p past) ≡ Some (Called command) → is_running (stage p past) ≡ true →
    failing c (own p past) ≡ cut_at c (place_of c (accesses_of (since starts (own p past)))) (inside p past)

-- in every record, if a process fails that withdrew, its memory unit starts from the place of the withdrawal
abbrev pub WithdrawalIsCutAtItsPlace : Type 0
WithdrawalIsCutAtItsPlace = (s : Setup) → checked s ≡ Ok tt → (events : List Event) (p : ℕ) →
    let past : Past = past_of s events in
    let c : Call = last_call s p (own p past) in
    last_start (own p past) ≡ Some Withdrew → stage p past ≡ Leaving →
    failing c (own p past) ≡ cut_closing c (closing_of c (withdrawing c) (map value_written (since starts (own p past)))) (inside p past)

-- in every record, if a process fails that is idle, nothing is unfinished
abbrev pub RestIsNotCut : Type 0
RestIsNotCut = (s : Setup) → checked s ≡ Ok tt → (events : List Event) (p : ℕ) →
    let past : Past = past_of s events in
    let c : Call = last_call s p (own p past) in
    stage p past ≡ Idle → failing c (own p past) ≡ freeing c (inside p past)

-- the torn bit of a call exists
abbrev pub TornBitOfCallIsThere : Type 0
TornBitOfCallIsThere = (s : Setup) → checked s ≡ Ok tt → (events : List Event) (p : ℕ) (command : Command) (t : TornBit) →
    let past : Past = past_of s events in
    let c : Call = last_call s p (own p past) in
    last_start (own p past) ≡ Some (Called command) → is_running (stage p past) ≡ true → torn_at c (place_of c (accesses_of (since starts (own p past)))) ≡ Some t → IsTornOf s t

-- a torn commit bit is that of the pending change, and its new value was being written to it
abbrev pub TornCommitIsPending : Type 0
TornCommitIsPending = (s : Setup) → checked s ≡ Ok tt → (events : List Event) (p : ℕ) (command : Command) (t : TornBit) →
    let past : Past = past_of s events in
    let c : Call = last_call s p (own p past) in
    let at : Place = place_of c (accesses_of (since starts (own p past))) in
    last_start (own p past) ≡ Some (Called command) → is_running (stage p past) ≡ true → torn_at c at ≡ Some t → t.field ≡ Commit →
    (change : Change) × (pending_at c at.part ≡ Some change) × (begun_at c at ≡ change.2)

-- the torn bit of a withdrawal exists too
abbrev pub TornBitOfWithdrawalIsThere : Type 0
TornBitOfWithdrawalIsThere = (c : Call) → checked c.setup ≡ Ok tt → (flicks : List Bool) (t : TornBit) → torn_closing (closing_of c (withdrawing c) flicks) ≡ Some t → IsTornOf c.setup t

-- a reader's copy of a register has these bits, and no write of it is open
abbrev pub HasBits : Setup → Past → ℕ → Field → ℕ → List Bool → Type 0
HasBits s past owner field reader bits = (k : ℕ) → k < length bits →
    (is_write_open (moves_of (copy owner field reader k) past) ≡ false)
    × (last_written (opening_bit s (copy owner field reader k)) (moves_of (copy owner field reader k) past) ≡ slice_index_or bits k false)

-- a read of a bit that began since then, while the copy is only read, gives that bit whatever the flick
abbrev pub UnoverlappedReadGivesTheBit : Type 0
UnoverlappedReadGivesTheBit = (s : Setup) (later past : Past) (owner : ℕ) (field : Field) (reader : ℕ) (bits : List Bool) (flick : Bool) → HasBits s past owner field reader bits →
    (k : ℕ) → k < length bits → AllReads (moves_of (copy owner field reader k) later) → begins_read (moves_of (copy owner field reader k) later) ≡ true →
    read_value (opening_bit s (copy owner field reader k)) (moves_of (copy owner field reader k) (later ++ past)) flick ≡ slice_index_or bits k false

-- for every call and all its accesses: nothing is open before the first one
abbrev pub PlaceStartsClosed : Type 0
PlaceStartsClosed = (c : Call) (a : Access) → open_place c (place_of c []) a ≡ false

-- the next access of a call comes in its turn: a write begins if none is open on its copy, and ends if one is
abbrev pub PlaceGoesInTurn : Type 0
PlaceGoesInTurn = (c : Call) → checked c.setup ≡ Ok tt → (accesses : List Access) → IsFollowed c accesses → (v : Bool) → is_over (place_of c accesses).part ≡ false →
    Leads (open_place c (place_of c accesses)) (ended_with v (access_at c (place_of c accesses).part (place_of c accesses).run)) (open_place c (place_after c (place_of c accesses) v))

-- the accesses of a withdrawal come in their turn
abbrev pub WithdrawalGoesInTurn : Type 0
WithdrawalGoesInTurn = (c : Call) → checked c.setup ≡ Ok tt → (flicks : List Bool) (flick : Bool) (n : Next) → closing_next c (closing_of c (withdrawing c) flicks) flick ≡ Some n →
    Leads (open_closing c (closing_of c (withdrawing c) flicks)) n.access (open_closing c (closing_of c (withdrawing c) (flick ∷ flicks)))

-- the accesses of a memory unit come in their turn, if the copy that its process wrote last exists
abbrev pub UnitGoesInTurn : Type 0
UnitGoesInTurn = (c : Call) → checked c.setup ≡ Ok tt → (past : Past) → ((a : Access) → last_write past ≡ Some a → a.reader < c.setup.processes) → (flicks : List Bool) (flick : Bool) (n : Next) →
    closing_next c (closing_of c (failing c past) flicks) flick ≡ Some n → Leads (open_closing c (closing_of c (failing c past) flicks)) n.access (open_closing c (closing_of c (failing c past) (flick ∷ flicks)))

-- in every record the writes of each single-reader bit come in their turn
abbrev pub WritesComeInTurn : Type 0
WritesComeInTurn = (s : Setup) → checked s ≡ Ok tt → (events : List Event) (a : Access) → AreWritesInTurn (opening_bit s a) (moves_of a (past_of s events))

-- so the cell of each bit gives the value of the safe rule
abbrev pub CellsAnswerTheSafeRule : Type 0
CellsAnswerTheSafeRule = (s : Setup) → checked s ≡ Ok tt → (events : List Event) (a : Access) (flick : Bool) →
    read_answer (cell_after s (past_of s events) a) flick ≡ read_value (opening_bit s a) (moves_of a (past_of s events)) flick

-- a write of bytes takes the steps of a write of their bits
abbrev pub WriteOfBytesGoesByBits : Type 0
WriteOfBytesGoesByBits = (n : ℕ) (value : List ℕ) (w : NumberWrite) → w.bit < w.width →
    (next_of_write value w ≡ next_written (bits_in value w.width) w) × (number_write_after n value w ≡ write_moved n (bits_in value w.width) w)

-- bytes that have these bits, and are as many as they need, are the bytes that the bits make
abbrev pub BytesAreMadeByTheirBits : Type 0
BytesAreMadeByTheirBits = (k : ℕ) (bits : List Bool) (bytes : List ℕ) → length bits ≡ 8 * k → length bytes ≡ k → AreBytes bytes → IsBytesOf bits bytes → bytes ≡ bytes_of_bits k bits
