-- The failure rule (this project's own): what the memory unit of a failed process does.
use Rattle.std.specs.Prelude.{ℕ, ◌+◌, ◌*◌, ◌==◌, Bool, true, false, not, ◌&&◌, List, [], ◌∷◌, ◌++◌, map, Option, None, Some, cond, if◌then◌else◌}
use Rattle.safe_bit.specs.{is_begin_of_write}
use Rattle.safe_bit.specs.declared.Move.TheVariants.{BeginWrite, EndWrite, BeginRead, EndRead, Settle}
use Rattle.reader_copies.specs.{settles_from}
use Rattle.model.specs.declared.access.Access.{Access}
use Rattle.model.specs.declared.access.Field.{Field}
use Rattle.model.specs.declared.access.Field.TheVariants.{Choosing, Ticket, Commit}
use Rattle.safe_number.specs.{at_bit, bits_of_number}
use Rattle.model.specs.Accesses.{access_of}
use Rattle.model.specs.declared.marks.Mark.TheVariants.{Taken, Left, Settled, Down}
use Rattle.model.specs.Calls.{read_so_far}
use Rattle.model.specs.Entries.{Entry, Past, since, is_called}
use Rattle.model.specs.Program.{store_read, reply}
use Rattle.model.specs.Scripts.{Portion, Script, Call, Numbers, writing}
use Rattle.model.specs.Stages.{inside}

-- the last access of a write
abbrev pub last_write : Past → Option Access
last_write [] = None
last_write (e ∷ past) = elim e.access [
  | None ↦ last_write past
  | Some a ↦ elim a.how [
    | BeginWrite v ↦ Some a
    | EndWrite ↦ Some a
    | Settle v ↦ Some a
    | BeginRead ↦ last_write past
    | EndRead v ↦ last_write past
  ]
]

-- the value with which the last write began
abbrev pub value_begun : Past → Bool
value_begun [] = false
value_begun (e ∷ past) = elim e.access [
  | None ↦ value_begun past
  | Some a ↦ elim a.how [
    | BeginWrite v ↦ v
    | EndWrite ↦ value_begun past
    | Settle v ↦ value_begun past
    | BeginRead ↦ value_begun past
    | EndRead v ↦ value_begun past
  ]
]

-- a bit is finished if its write has ended on every copy
abbrev pub is_finished : ℕ → Access → Bool
is_finished n a = not (is_begin_of_write a.how) && (a.reader + 1 == n)

-- the last access of a write, if it leaves its bit unfinished
abbrev pub unfinished : ℕ → Option Access → Option Access
unfinished n None = None
unfinished n (Some a) = cond (is_finished n a) None (Some a)

-- how many accesses of its bit's write were made, with this one
abbrev pub made_with : Access → ℕ
made_with a = 2 * a.reader + (if is_begin_of_write a.how then 1 else 2)

-- v is written on every copy of the bit of a; where its write is open, it is settled there
abbrev pub settle_of : ℕ → ℕ → Bool → Access → List Access
settle_of n p v a = map (access_of p a.field) (map (at_bit a.bit) (settles_from (made_with a) 0 n v))

-- whether the bit is a commit bit
abbrev pub is_commit : Field → Bool
is_commit Commit = true
is_commit _ = false

-- the number that was read last
abbrev pub last_read : Numbers → List Bool
last_read [] = []
last_read (value ∷ []) = value
last_read (value ∷ next ∷ more) = last_read (next ∷ more)

-- the settling of the bit of a at v; a commit bit that is settled at the value that was being written takes the command
abbrev pub settling : Call → Past → Bool → Access → Portion
settling c past v a = record {
  accesses = settle_of c.setup.processes c.process v a;
  first = [];
  last = Settled v ∷ cond (is_commit a.field && (if v then value_begun past else not (value_begun past)))
      (Taken 0 (reply c (store_read c (last_read (read_so_far c.setup (since is_called past)).finished))) ∷ []) [];
}

-- the settling of the unfinished bit, if there is one
abbrev pub settle : Call → Past → Bool → Option Access → Script
settle c past v None = []
settle c past v (Some a) = settling c past v a ∷ []

-- the unit's program: it settles the unfinished bit at v, then clears the ticket, then the choosing bit. past has the process's own entries up to its failure
abbrev pub unit_program : Call → Past → Bool → Script
unit_program c past v = settle c past v (unfinished c.setup.processes (last_write past))
    ++ writing c Ticket (bits_of_number c.setup.ticket_bits 0) (cond (inside c.process past) (Left ∷ []) []) []
    ∷ writing c Choosing (false ∷ []) [] (Down ∷ []) ∷ []

-- the value with which an entry's write begins, or is settled
abbrev pub value_written : Entry → Bool
value_written e = elim e.access [ None ↦ false | Some a ↦ elim a.how [ BeginWrite v ↦ v | Settle v ↦ v | EndWrite ↦ false | BeginRead ↦ false | EndRead v ↦ false ] ]

-- the first of these flicks, the newest first, and of the one to come
abbrev pub first_flick : List Bool → Bool → Bool
first_flick [] flick = flick
first_flick (f ∷ []) flick = f
first_flick (f ∷ g ∷ flicks) flick = first_flick (g ∷ flicks) flick

-- the value that the unit settles at: that of its first entry, or the flick of the one to come
abbrev pub settles_at : Past → Bool → Bool
settles_at past flick = first_flick (map value_written past) flick
