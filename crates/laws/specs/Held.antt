-- The registers after a past: the cell of each single-reader bit. A process that fails or withdraws drops its open read. Each access may be made on these cells.
use Rattle.std.specs.Prelude.{◌≡◌, ℕ, ◌<◌, ◌==◌, Bool, true, false, ◌&&◌, ◌||◌, List, [], ◌∷◌, flat_map, cond, None, Some}
use Rattle.model.specs.safe_bit.declared.Move.TheVariants.{EndWrite}
use Rattle.model.specs.safe_bit.Cell.{Cell, BitCall, Makes, Drops, cell_of_calls, read_answer, MayMove}
use Rattle.model.specs.safe_bit.{read_value}
use Rattle.model.specs.{Access, Call, EachEntry, EachPast, Entry, Mark, Past, Place, accesses_of, has, is_failed, is_read, is_running, last_call, last_start, moves_of, opening_bit, own, place_of, read_at, same_bit, since, stage, starts, width}
use Rattle.plain_store.specs.{Command, Setup}
use Rattle.model.specs.declared.marks.Mark.TheVariants.{Called, Withdrew}
use Rattle.laws.specs.Doings.{doing}
use Rattle.laws.specs.Steps.{being_written, next_of}

-- the process gives up waiting
abbrev pub is_withdrawn : Mark → Bool
is_withdrawn Withdrew = true
is_withdrawn _ = false

-- with this entry a process drops the read that it has open
abbrev pub drops : Entry → Bool
drops e = has is_failed e || has is_withdrawn e

-- the actions of an entry on the bit of an access: its access, if that is on the bit; a drop of the open read, if the bit's reader fails or withdraws
abbrev pub calls_on : Access → Entry → List BitCall
calls_on a e = elim e.access [
  | Some b ↦ cond (same_bit a b) (Makes b.how ∷ []) []
  | None ↦ cond (drops e && (e.process == a.reader)) (Drops ∷ []) []
]

-- the cell that the registers hold of the bit of an access
abbrev pub cell_held : Setup → Past → Access → Cell
cell_held s past a = cell_of_calls (opening_bit s a) (flat_map (calls_on a) past)

-- an access names an owner, a reader and a bit that exist
pub record IsThere (s : Setup) (a : Access) : Type 0 where
  pub owner : a.owner < s.processes
  pub reader : a.reader < s.processes
  pub bit : a.bit < width s a.field

-- Every access is of a register that exists.
abbrev pub AccessesAreThere : Type 0
AccessesAreThere = EachEntry λ s past e. (a : Access) → e.access ≡ Some a → IsThere s a

-- It is in its turn on the registers: it may be made on them.
abbrev pub AccessesComeInTurn : Type 0
AccessesComeInTurn = EachEntry λ s past e. (a : Access) → e.access ≡ Some a → MayMove (cell_held s past a) a.how

-- Reads of the registers follow the safe rule.
abbrev pub RegistersAnswerTheSafeRule : Type 0
RegistersAnswerTheSafeRule = EachPast λ s past. (a : Access) (flick : Bool) → read_answer (cell_held s past a) flick ≡ read_value (opening_bit s a) (moves_of a past) flick

-- A read that is open is of the register that its process reads at its place.
abbrev pub OpenReadsAreOfThePlace : Type 0
OpenReadsAreOfThePlace = EachPast λ s past. (a : Access) → (cell_held s past a).reading ≡ true →
    let c : Call = last_call s a.reader (own a.reader past) in
    let here : Place = place_of c (accesses_of (since starts (own a.reader past))) in
    (command : Command) × (last_start (own a.reader past) ≡ Some (Called command)) × (is_running (stage a.reader past) ≡ true)
    × (is_read here.part ≡ true) × (read_at c here.part ≡ (a.owner, a.field))

-- If the next access of a process, or of its memory unit, ends a write, its bit has the value that is being written.
abbrev pub WritesEndWithTheirValue : Type 0
WritesEndWithTheirValue = EachPast λ s past. (p : ℕ) (flick : Bool) (a : Access) → next_of s p (doing s p past) flick ≡ Some a → a.how ≡ EndWrite → (cell_held s past a).value ≡ being_written s p (doing s p past)
