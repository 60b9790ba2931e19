-- The number access of its call that a process is making, and the values that it knows.
use Rattle.std.specs.Prelude.{ℕ, ◌+◌, ◌==◌, Bool, true, false, cond, not, List, [], ◌∷◌, ◌++◌}
use Rattle.model.specs.declared.access.Access.{Access}
use Rattle.model.specs.declared.access.Field.{Field}
use Rattle.model.specs.declared.access.Field.TheVariants.{Choosing, Ticket, Commit}
use Rattle.safe_number.specs.{bits_of_number, number_of_bits}
use Rattle.plain_store.specs.{Answer, Contents, changes}
use Rattle.plain_store.specs.declared.Answer.TheVariants as answer
use Rattle.model.specs.declared.marks.Mark.{Mark}
use Rattle.model.specs.declared.marks.Mark.TheVariants.{Waiting, Taken, Left, Answered}
use Rattle.model.specs.declared.stages.Stage.{Stage}
use Rattle.model.specs.declared.stages.Stage.TheVariants as stage
use Rattle.model.specs.Program.{Version, Wait, greatest, max_of, is_one, first_full, waits_of, entered_if_none, lets_by, version_of, newest_stamp, newest_process, image_field, stamp_field, store_read, reply, new_image}
use Rattle.model.specs.Registers.{processes, others, write_of, read_of}
use Rattle.model.specs.Scripts.{Call}

-- a number access of a call, with the values that the process knows when it makes it
pub data Part : Type 0 where
  Raises : Part  -- A: writes `Choosing` 1
  Asks : (j : ℕ) (js : List ℕ) (tickets : List ℕ) → Part  -- B: reads j's ticket, then those of js; the tickets were read
  TakesTicket : (ticket : ℕ) → Part  -- C: writes its ticket
  Lowers : (ticket : ℕ) → Part  -- C: writes `Choosing` 0
  Refuses : (full : ℕ) → Part  -- C, where no greater ticket fits: writes `Choosing` 0
  Waits : (ticket : ℕ) (w : Wait) (ws : List Wait) → Part  -- D: reads what is waited for; ws comes after it
  AsksCommit : (k : ℕ) (ks : List ℕ) (versions : List Version) → Part  -- E: reads k's commit bit; the versions were read
  AsksStamp : (k : ℕ) (ks : List ℕ) (versions : List Version) (commit : Bool) → Part  -- E: reads the stamp that this commit bit chooses
  AsksImage : (versions : List Version) → Part  -- F: reads the newest image
  WritesImage : (versions : List Version) (store : Contents) → Part  -- G: writes the image of the store after the command; this store was read
  WritesStamp : (versions : List Version) (store : Contents) → Part  -- G: writes the new stamp
  WritesCommit : (versions : List Version) (store : Contents) → Part  -- G: writes the commit bit
  Clears : (answer : Answer) → Part  -- H: writes `Ticket` 0; then the call is answered
  Over : Part  -- the call was answered

-- the part reads a register
abbrev pub is_read : Part → Bool
is_read Raises = false
is_read (Asks j js ts) = true
is_read (TakesTicket t) = false
is_read (Lowers t) = false
is_read (Refuses f) = false
is_read (Waits t w ws) = true
is_read (AsksCommit k ks vs) = true
is_read (AsksStamp k ks vs b) = true
is_read (AsksImage vs) = true
is_read (WritesImage vs st) = false
is_read (WritesStamp vs st) = false
is_read (WritesCommit vs st) = false
is_read (Clears a) = false
is_read Over = false

-- no access is left
abbrev pub is_over : Part → Bool
is_over Over = true
is_over _ = false

-- the register that a part reads: its owner, and its field
abbrev pub read_at : Call → Part → ℕ × Field
read_at c (Asks j js ts) = (j, Ticket)
read_at c (Waits t w ws) = w
read_at c (AsksCommit k ks vs) = (k, Commit)
read_at c (AsksStamp k ks vs b) = (k, stamp_field b)
read_at c (AsksImage vs) = (newest_process vs, image_field (version_of vs (newest_process vs)))
read_at c _ = (0, Choosing)

-- the own register that a part writes, and its new bits
abbrev pub written_at : Call → Part → Field × List Bool
written_at c Raises = (Choosing, true ∷ [])
written_at c (TakesTicket t) = (Ticket, bits_of_number c.setup.ticket_bits t)
written_at c (Lowers t) = (Choosing, false ∷ [])
written_at c (Refuses f) = (Choosing, false ∷ [])
written_at c (WritesImage vs st) = (image_field (not (version_of vs c.process)), new_image c st)
written_at c (WritesStamp vs st) = (stamp_field (not (version_of vs c.process)), bits_of_number c.setup.stamp_bits (newest_stamp vs + 1))
written_at c (WritesCommit vs st) = (Commit, not (version_of vs c.process) ∷ [])
written_at c (Clears a) = (Ticket, bits_of_number c.setup.ticket_bits 0)
written_at c _ = (Choosing, [])

-- the accesses of a part
abbrev pub doing : Call → Part → List Access
doing c part = cond (is_read part) (read_of c.setup c.process (read_at c part).0 (read_at c part).1) (write_of c.setup c.process (written_at c part).0 (written_at c part).1)

-- the marks on the first begin of a part
abbrev pub first_marks : Part → List Mark
first_marks (Clears a) = Left ∷ []
first_marks _ = []

-- the marks on the last end of a part, after these bits were read
abbrev pub last_marks : Call → Part → List Bool → List Mark
last_marks c (Lowers t) value = Waiting t ∷ entered_if_none (waits_of c)
last_marks c (Refuses f) value = Answered (answer.TicketsFull f) ∷ []
last_marks c (Waits t w ws) value = cond (lets_by c t w value) (entered_if_none ws) []
last_marks c (AsksImage vs) value = cond (changes (store_read c value) c.command) [] (Taken 0 (reply c (store_read c value)) ∷ [])
last_marks c (WritesCommit vs st) value = Taken 0 (reply c st) ∷ []
last_marks c (Clears a) value = Answered a ∷ []
last_marks c _ value = []

-- on to E, of these processes
abbrev pub to_e : List ℕ → List Version → Part
to_e [] vs = AsksImage vs
to_e (k ∷ ks) vs = AsksCommit k ks vs

-- on to D, with these waits
abbrev pub to_d : Call → ℕ → List Wait → Part
to_d c t [] = to_e (processes c.setup) []
to_d c t (w ∷ ws) = Waits t w ws

-- on to C, with all tickets read
abbrev pub to_c : Call → List ℕ → Part
to_c c ts = elim (greatest ts == max_of c.setup.ticket_bits) [ true ↦ Refuses (first_full c ts) | false ↦ TakesTicket (greatest ts + 1) ]

-- on to B, with these tickets still to be read
abbrev pub to_b : Call → List ℕ → List ℕ → Part
to_b c [] ts = to_c c ts
to_b c (j ∷ js) ts = Asks j js ts

-- on to G, with this store read
abbrev pub to_g : Call → List Version → Contents → Part
to_g c vs st = elim (changes st c.command) [
  | false ↦ Clears (answer.Reply (reply c st))
  | true ↦ elim (newest_stamp vs == max_of c.setup.stamp_bits) [ true ↦ Clears answer.StampsFull | false ↦ WritesImage vs st ]
]

-- the part that comes after, where these bits were read
abbrev pub part_after : Call → Part → List Bool → Part
part_after c Raises value = to_b c (others c.setup c.process) []
part_after c (Asks j js ts) value = to_b c js (ts ++ number_of_bits value ∷ [])
part_after c (TakesTicket t) value = Lowers t
part_after c (Lowers t) value = to_d c t (waits_of c)
part_after c (Refuses f) value = Over
part_after c (Waits t w ws) value = to_d c t (cond (lets_by c t w value) ws (w ∷ ws))
part_after c (AsksCommit k ks vs) value = AsksStamp k ks vs (is_one value)
part_after c (AsksStamp k ks vs b) value = to_e ks (vs ++ (b, number_of_bits value) ∷ [])
part_after c (AsksImage vs) value = to_g c vs (store_read c value)
part_after c (WritesImage vs st) value = WritesStamp vs st
part_after c (WritesStamp vs st) value = WritesCommit vs st
part_after c (WritesCommit vs st) value = Clears (answer.Reply (reply c st))
part_after c (Clears a) value = Over
part_after c Over value = Over

-- the stage at a part; fresh: none of its accesses was made
abbrev pub stage_of : Part → Bool → Stage
stage_of Raises fresh = stage.Doorway
stage_of (Asks j js ts) fresh = stage.Doorway
stage_of (TakesTicket t) fresh = stage.Doorway
stage_of (Lowers t) fresh = stage.Doorway
stage_of (Refuses f) fresh = stage.Doorway
stage_of (Waits t w ws) fresh = stage.Waiting
stage_of (AsksCommit k ks vs) fresh = stage.Inside
stage_of (AsksStamp k ks vs b) fresh = stage.Inside
stage_of (AsksImage vs) fresh = stage.Inside
stage_of (WritesImage vs st) fresh = stage.Inside
stage_of (WritesStamp vs st) fresh = stage.Inside
stage_of (WritesCommit vs st) fresh = stage.Inside
stage_of (Clears a) true = stage.Inside
stage_of (Clears a) false = stage.Leaving
stage_of Over fresh = stage.Idle
