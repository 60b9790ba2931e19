-- Doorways, and the order of processes by their doorways (Lamport 1974: first come, first served).
use Rattle.std.specs.Prelude.{ℕ, ◌==◌, nat_lt, Bool, true, false, ◌&&◌, List, [], ◌∷◌, length, filter, Option, None, Some}
use Rattle.safe_bit.specs.{Move}
use Rattle.safe_bit.specs.declared.Move.TheVariants.{BeginWrite}
use Rattle.model.specs.declared.access.Field.{Field}
use Rattle.model.specs.declared.access.Field.TheVariants.{Choosing}
use Rattle.plain_store.specs.{Setup}
use Rattle.model.specs.Entries.{Entry, Past, has, is_called, is_waiting}
use Rattle.model.specs.Registers.{processes}
use Rattle.model.specs.Stages.{is_at_door, is_waiting_stage, stage}

-- a write of `Choosing` 1 begins
abbrev pub raises : Field → Move → Bool
raises Choosing (BeginWrite v) = v
raises _ _ = false

-- the first begin of a write of `Choosing` 1
abbrev pub begins_doorway : Entry → Bool
begins_doorway e = elim e.access [ None ↦ false | Some a ↦ (a.reader == 0) && raises a.field a.how ]

-- the first of two optional numbers that exists
abbrev pub first_of : Option ℕ → Option ℕ → Option ℕ
first_of (Some k) more = Some k
first_of None more = more

-- the number of the first entry of p's last call that passes a test
abbrev pub number_in_call : ℕ → (Entry → Bool) → Past → Option ℕ
number_in_call p test [] = None
number_in_call p test (e ∷ past) = elim (e.process == p) [
  | false ↦ number_in_call p test past
  | true ↦ elim (has is_called e) [
    | true ↦ None
    | false ↦ first_of (number_in_call p test past) (elim (test e) [ true ↦ Some (length past) | false ↦ None ])
  ]
]

-- the begin of the doorway of p's last call: the number of its first entry
abbrev pub doorway_begin : ℕ → Past → Option ℕ
doorway_begin p = number_in_call p begins_doorway

-- the end of the doorway of p's last call: the number of its last entry, with which p has a ticket
abbrev pub doorway_end : ℕ → Past → Option ℕ
doorway_end p = number_in_call p (has is_waiting)

-- a doorway that is finished is before one that begins after that, or has not begun
abbrev pub is_before : Option ℕ → Option ℕ → Bool
is_before None begin = false
is_before (Some end) None = true
is_before (Some end) (Some begin) = nat_lt end begin

-- j waits, and its doorway is before that of p
abbrev pub is_ahead : Past → ℕ → ℕ → Bool
is_ahead past j p = is_waiting_stage (stage j past) && is_before (doorway_end j past) (doorway_begin p past)

-- the processes that wait and whose doorway is before that of p, ascending; none unless p is in its doorway or waits
abbrev pub ahead : Setup → ℕ → Past → List ℕ
ahead s p past = elim (is_at_door (stage p past)) [ true ↦ filter (λ j. is_ahead past j p) (processes s) | false ↦ [] ]
