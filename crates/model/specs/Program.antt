-- The local program: the number accesses of a call, as a function of the numbers read so far. Parts A to D and H are the bakery (Lamport 1974); parts E to G are this project's own.
use Rattle.std.specs.Prelude.{ℕ, ◌+◌, ◌-◌, ◌^◌, ◌==◌, nat_lt, max, Bool, true, false, not, ◌&&◌, ◌||◌, List, [], ◌∷◌, ◌++◌, map, flat_map, fold, slice_index, slice_index_or, cond}
use Rattle.model.specs.declared.access.Field.{Field}
use Rattle.model.specs.declared.access.Field.TheVariants.{Choosing, Ticket, Commit, Stamp0, Stamp1, Image0, Image1}
use Rattle.safe_number.specs.{bits_in, bits_of_number, number_of_bits}
use Rattle.plain_store.specs.{Answer, Contents, Reply, after, callers_of, changes, reply_to}
use Rattle.plain_store.specs.declared.Answer.TheVariants as answer
use Rattle.store_image.specs.{image_of, store_in}
use Rattle.model.specs.declared.marks.Mark.{Mark}
use Rattle.model.specs.declared.marks.Mark.TheVariants.{Waiting, Entered, Taken, Left, Answered}
use Rattle.model.specs.Registers.{processes, others, width, image_bytes, bytes_of_bits}
use Rattle.model.specs.Scripts.{Script, Call, Numbers, caller, writing, reading, then_read, none}

-- the greatest of some numbers, 0 of none
abbrev pub greatest : List ℕ → ℕ
greatest = fold max 0

-- the first place of n in the list
abbrev pub index_of : ℕ → List ℕ → ℕ
index_of n [] = 0
index_of n (x ∷ xs) = cond (x == n) 0 (1 + index_of n xs)

-- the greatest number of w bits
abbrev pub max_of : ℕ → ℕ
max_of w = 2 ^ w - 1

-- a bit that was read is 1
abbrev pub is_one : List Bool → Bool
is_one value = slice_index_or value 0 false

-- H: the ticket is cleared, and the call answered
abbrev pub clearing : Call → List Mark → Answer → Script
clearing c first a = writing c Ticket (bits_of_number c.setup.ticket_bits 0) first (Answered a ∷ []) ∷ []

-- H, by a process that is inside
abbrev pub part_h : Call → Answer → Script
part_h c = clearing c (Left ∷ [])

-- after a withdrawal: H, by a process that is not inside
abbrev pub withdrawn : Call → Script
withdrawn c = clearing c [] answer.Withdrawn

-- the stamp that a commit bit chooses
abbrev pub stamp_field : Bool → Field
stamp_field false = Stamp0
stamp_field true = Stamp1

-- the image that a commit bit chooses
abbrev pub image_field : Bool → Field
image_field false = Image0
image_field true = Image1

-- the version that a process has committed: its commit bit, and its stamp
abbrev pub Version : Type 0
Version = Bool × ℕ

-- the greatest stamp
abbrev pub newest_stamp : List Version → ℕ
newest_stamp versions = greatest (map (λ v. v.1) versions)

-- the process that has it, the lowest on a tie
abbrev pub newest_process : List Version → ℕ
newest_process versions = index_of (newest_stamp versions) (map (λ v. v.1) versions)

-- the commit bit of process k
abbrev pub version_of : List Version → ℕ → Bool
version_of versions k = slice_index_or (map (λ v. v.0) versions) k false

-- the store whose image was read; the empty store, if the bits are not an image
abbrev pub store_read : Call → List Bool → Contents
store_read c value = store_in c.setup.slots (callers_of c.setup) (bytes_of_bits (image_bytes c.setup) value)

-- the store's reply to the call
abbrev pub reply : Call → Contents → Reply
reply c store = reply_to store c.command (caller c)

-- the bits of the image of the store after the command
abbrev pub new_image : Call → Contents → List Bool
new_image c store = bits_in (image_of (after store c.command (caller c))) (width c.setup Image0)

-- the new store is written over the version that is not committed, and that version is committed
abbrev pub change : Call → List Version → Contents → Script
change c versions store =
    let other = not (version_of versions c.process) in
    writing c (image_field other) (new_image c store) [] []
    ∷ writing c (stamp_field other) (bits_of_number c.setup.stamp_bits (newest_stamp versions + 1)) [] []
    ∷ writing c Commit (other ∷ []) [] (Taken 0 (reply c store) ∷ [])
    ∷ part_h c (answer.Reply (reply c store))

-- G: a change, if there is one and its stamp fits
abbrev pub part_g : Call → List Version → Contents → Script
part_g c versions store = elim (changes store c.command) [
  | false ↦ part_h c (answer.Reply (reply c store))
  | true ↦ elim (newest_stamp versions == max_of c.setup.stamp_bits) [ true ↦ part_h c answer.StampsFull | false ↦ change c versions store ]
]

-- F: the newest image is read; a command that changes nothing is taken at its last end
abbrev pub part_f : Call → List Version → Numbers → Script
part_f c versions =
    let newest = newest_process versions in
    then_read c newest (image_field (version_of versions newest))
    (λ value. let store = store_read c value in cond (changes store c.command) [] (Taken 0 (reply c store) ∷ []))
    (λ value more. part_g c versions (store_read c value))

-- E: each process's commit bit, then the stamp that it chooses
abbrev pub part_e : Call → List ℕ → List Version → Numbers → Script
part_e c [] versions = part_f c versions
part_e c (k ∷ ks) versions =
    then_read c k Commit none λ commit.
    then_read c k (stamp_field (is_one commit)) none λ stamp.
    part_e c ks (versions ++ (is_one commit, number_of_bits stamp) ∷ [])

-- D: a wait, for a process and its register
abbrev pub Wait : Type 0
Wait = ℕ × Field

-- (a, j) is below (b, p)
abbrev pub is_below : ℕ → ℕ → ℕ → ℕ → Bool
is_below a j b p = nat_lt a b || ((a == b) && nat_lt j p)

-- the value read ends the wait: choosing is 0; the ticket is 0, or above one's own
abbrev pub lets_by : Call → ℕ → Wait → List Bool → Bool
lets_by c ticket (j, Choosing) value = not (is_one value)
lets_by c ticket (j, _) value = (number_of_bits value == 0) || is_below ticket c.process (number_of_bits value) j

-- each other process is waited for until it is not choosing, then until its ticket lets by
abbrev pub waits_of : Call → List Wait
waits_of c = flat_map (λ j. (j, Choosing) ∷ (j, Ticket) ∷ []) (others c.setup c.process)

-- a process that waits for no other process is inside
abbrev pub entered_if_none : List Wait → List Mark
entered_if_none [] = Entered ∷ []
entered_if_none (w ∷ ws) = []

-- D: reads of what is waited for, each until it lets by
abbrev pub part_d : Call → ℕ → Numbers → List Wait → Script
part_d c ticket values [] = part_e c (processes c.setup) [] values
part_d c ticket [] (w ∷ ws) = reading c w.0 w.1 [] ∷ []
part_d c ticket (value ∷ more) (w ∷ ws) =
    let by = lets_by c ticket w value in
    reading c w.0 w.1 (cond by (entered_if_none ws) []) ∷ part_d c ticket more (cond by ws (w ∷ ws))

-- the lowest process whose ticket was read as the greatest
abbrev pub first_full : Call → List ℕ → ℕ
first_full c tickets = slice_index (others c.setup c.process) (index_of (greatest tickets) tickets)

-- C: one more than the greatest ticket is written, if it fits
abbrev pub part_c : Call → List ℕ → Numbers → Script
part_c c tickets values =
    let ticket = greatest tickets + 1 in
    elim (greatest tickets == max_of c.setup.ticket_bits) [
      | true ↦ writing c Choosing (false ∷ []) [] (Answered (answer.TicketsFull (first_full c tickets)) ∷ []) ∷ []
      | false ↦
          writing c Ticket (bits_of_number c.setup.ticket_bits ticket) [] []
          ∷ writing c Choosing (false ∷ []) [] (Waiting ticket ∷ entered_if_none (waits_of c))
          ∷ part_d c ticket values (waits_of c)
    ]

-- B: the others' tickets are read
abbrev pub part_b : Call → List ℕ → List ℕ → Numbers → Script
part_b c [] tickets = part_c c tickets
part_b c (j ∷ js) tickets = then_read c j Ticket none λ value. part_b c js (tickets ++ number_of_bits value ∷ [])

-- A, and all that follows
abbrev pub local_program : Call → Numbers → Script
local_program c values = writing c Choosing (true ∷ []) [] [] ∷ part_b c (others c.setup c.process) [] values
