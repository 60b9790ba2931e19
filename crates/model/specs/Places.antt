-- The place of a process in its program: the machine next to the script. One access with its value advances it, whatever memory serves the access.
use Rattle.std.specs.Prelude.{◌≡◌, ℕ, ◌+◌, ◌==◌, Bool, true, false, ◌&&◌, cond, List, [], ◌∷◌, ◌++◌, length, map, slice_index_or, Option, None, Some, is_none, unwrap_or}
use Rattle.safe_bit.specs.{Move}
use Rattle.safe_bit.specs.declared.Move.TheVariants.{EndRead}
use Rattle.reader_copies.specs.{Made}
use Rattle.reader_copies.specs.Runs as copies
use Rattle.model.specs.declared.access.Access.{Access}
use Rattle.model.specs.Accesses.{access_of}
use Rattle.safe_number.specs.{NumberWrite, new_write, write_on}
use Rattle.model.specs.declared.marks.Mark.{Mark}
use Rattle.plain_store.specs.{Setup}
use Rattle.model.specs.declared.stages.Stage.{Stage}
use Rattle.model.specs.Calls.{ReadSoFar, with_access}
use Rattle.model.specs.Entries.{Entry, Past}
use Rattle.model.specs.Histories.{history}
use Rattle.model.specs.Moves.{ended_with, valued}
use Rattle.model.specs.Parts.{Part, Raises, is_read, is_over, read_at, written_at, first_marks, last_marks, part_after, stage_of}
use Rattle.model.specs.Program.{local_program}
use Rattle.model.specs.Records.{placed}
use Rattle.model.specs.Registers.{width}
use Rattle.model.specs.Scripts.{Call, Numbers, Next, nth}

-- the progress of a number access: of a write by its cursor; of a read by the bits that were read, and whether the read of the next bit is open
pub data Run : Type 0 where
  Writing : NumberWrite → Run
  Reading : (bits : List Bool) (begun : Bool) → Run

-- the number access of its call that a process is making, and its progress
pub record Place : Type 0 where
  pub part : Part
  pub run : Run

-- the progress of the write of the present bit
abbrev pub bit_written : List Bool → NumberWrite → copies.Writing
bit_written bits w = unwrap_or w.run (record { value = slice_index_or bits w.bit false; made = 0; ended = false })

-- the next access of a write of these bits: its bit, and what is made of it
abbrev pub next_written : List Bool → NumberWrite → ℕ × Made
next_written bits w = (w.bit, copies.next_write (bit_written bits w))

-- the write after that access, with n copies of each bit
abbrev pub write_moved : ℕ → List Bool → NumberWrite → NumberWrite
write_moved n bits w = write_on w (copies.write_after n (bit_written bits w))

-- the next access of a reader's read; the value of an end is left open here, as false
abbrev pub next_read : ℕ → List Bool → Bool → ℕ × Made
next_read reader bits begun = (length bits, copies.next_read reader (record { begun = begun; value = None }) false)

-- a number access before its first access
abbrev pub new_run : Call → Part → Run
new_run c part = cond (is_read part) (Reading [] false) (Writing (new_write (width c.setup (written_at c part).0)))

-- a part before its first access
abbrev pub enter : Call → Part → Place
enter c part = record { part = part; run = new_run c part }

-- no access of the number access is made
abbrev pub is_fresh : Run → Bool
is_fresh (Writing w) = (w.bit == 0) && is_none w.run
is_fresh (Reading bits begun) = cond begun false (length bits == 0)

-- the next access, if the call is not over
abbrev pub access_at : Call → Part → Run → Access
access_at c part (Writing w) = access_of c.process (written_at c part).0 (next_written (written_at c part).1 w)
access_at c part (Reading bits begun) = access_of (read_at c part).0 (read_at c part).1 (next_read c.process bits begun)

-- the next access; none once the call was answered
abbrev pub next_access : Call → Place → Option Access
next_access c at = cond (is_over at.part) None (Some (access_at c at.part at.run))

-- the next access is the last one of its number access
abbrev pub is_last : Call → Part → Run → Bool
is_last c part (Writing w) = (write_moved c.setup.processes (written_at c part).1 w).bit == w.width
is_last c part (Reading bits begun) = begun && (length bits + 1 == width c.setup (read_at c part).1)

-- the bits read with it, whose value is v
abbrev pub bits_with : Run → Bool → List Bool
bits_with (Writing w) v = []
bits_with (Reading bits begun) v = cond begun (bits ++ v ∷ []) bits

-- the number access after it, where it is not the last one
abbrev pub run_after : Call → Part → Run → Bool → Run
run_after c part (Writing w) v = Writing (write_moved c.setup.processes (written_at c part).1 w)
run_after c part (Reading bits begun) v = Reading (bits_with (Reading bits begun) v) (cond begun false true)

-- the place after the next access, whose value is v
abbrev pub place_after : Call → Place → Bool → Place
place_after c at v = cond (is_last c at.part at.run) (enter c (part_after c at.part (bits_with at.run v))) (record { part = at.part; run = run_after c at.part at.run v })

-- the marks on the next access, whose value is v
abbrev pub marks_of : Call → Place → Bool → List Mark
marks_of c at v = cond (is_fresh at.run) (first_marks at.part) [] ++ cond (is_last c at.part at.run) (last_marks c at.part (bits_with at.run v)) []

-- the stage at a place
abbrev pub stage_at : Place → Stage
stage_at at = stage_of at.part (is_fresh at.run)

-- the value of a move: that with which a read ends
abbrev pub value_of : Move → Bool
value_of (EndRead v) = v
value_of _ = false

-- the place of a call after these accesses of its process, the newest first
abbrev pub place_of : Call → List Access → Place
place_of c [] = enter c Raises
place_of c (a ∷ accesses) = place_after c (place_of c accesses) (value_of a.how)

-- the accesses of entries
abbrev pub accesses_of : Past → List Access
accesses_of [] = []
accesses_of (e ∷ past) = elim e.access [ None ↦ accesses_of past | Some a ↦ a ∷ accesses_of past ]

-- the numbers and bits that were read with these accesses
abbrev pub reads_of : Call → List Access → ReadSoFar
reads_of c [] = record { finished = []; bits = [] }
reads_of c (a ∷ accesses) = with_access c.setup (Some a) (reads_of c accesses)

-- access number n of the script after these reads
abbrev pub scripted : Call → Numbers → ℕ → Option Next
scripted c values n = nth n (local_program c values)

-- each of these accesses was the next one of the script after those before it, a read's end with some value
abbrev pub IsFollowed : Call → List Access → Type 0
IsFollowed c [] = Unit {0}
IsFollowed c (a ∷ accesses) = IsFollowed c accesses × ((n : Next) × (v : Bool) × (scripted c (reads_of c accesses).finished (length accesses) ≡ Some n) × (a ≡ ended_with v n.access))

-- the entry with which p continues from its place
abbrev pub entry_at : Setup → Past → ℕ → Bool → Call → Place → Entry
entry_at s past p flick c at =
    let a : Access = valued s past flick (access_at c at.part at.run) in
    record { process = p; access = Some a; marks = map (placed (length (history s past))) (marks_of c at (value_of a.how)) }
