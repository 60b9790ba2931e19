-- The moves of one single-reader bit, and what the safe rule makes of them.
use Rattle.std.specs.Prelude.{ℕ, ◌==◌, Bool, true, false, ◌&&◌, List, [], ◌∷◌, None, Some, cond, flat_map}
use Rattle.safe_bit.specs.{Move, read_value}
use Rattle.safe_bit.specs.declared.Move.TheVariants.{BeginRead, EndRead}
use Rattle.reader_copies.specs.{IsRead}
use Rattle.model.specs.declared.access.Access.{Access}
use Rattle.model.specs.declared.access.Field.{Field}
use Rattle.model.specs.declared.access.Field.TheVariants.{Choosing, Ticket, Commit, Stamp0, Stamp1, Image0, Image1}
use Rattle.plain_store.specs.{Setup}
use Rattle.model.specs.Entries.{Entry, Past}
use Rattle.model.specs.Registers.{opening_bit}

-- the fields in their order
abbrev pub fields : List Field
fields = Choosing ∷ Ticket ∷ Commit ∷ Stamp0 ∷ Stamp1 ∷ Image0 ∷ Image1 ∷ []

-- the place of each, counted from 0
abbrev pub field_number : Field → ℕ
field_number Choosing = 0
field_number Ticket = 1
field_number Commit = 2
field_number Stamp0 = 3
field_number Stamp1 = 4
field_number Image0 = 5
field_number Image1 = 6

-- both are accesses of one single-reader bit
abbrev pub same_bit : Access → Access → Bool
same_bit a b = (a.bit == b.bit) && (a.reader == b.reader) && (a.owner == b.owner) && (field_number a.field == field_number b.field)

-- the move that an entry makes on the bit of a, if it makes one
abbrev pub move_on : Access → Entry → List Move
move_on a e = elim e.access [ None ↦ [] | Some b ↦ cond (same_bit a b) (b.how ∷ []) [] ]

-- the moves on the bit of a, the newest first
abbrev pub moves_of : Access → Past → List Move
moves_of a past = flat_map (move_on a) past

-- a read's end with this value; any other move as it is
abbrev pub ended : Bool → Move → Move
ended v (EndRead _) = EndRead v
ended v m = m

-- an access; the end of a read gets the value v, any other move stays as it is
abbrev pub ended_with : Bool → Access → Access
ended_with v a = record a { how = ended v a.how }

-- the access, a read's end with the value of the safe rule, the flick where that is left open
abbrev pub valued : Setup → Past → Bool → Access → Access
valued s past flick a = ended_with (read_value (opening_bit s a) (moves_of a past) flick) a

-- only reads begin and end
abbrev pub AllReads : List Move → Type 0
AllReads [] = Unit {0}
AllReads (m ∷ moves) = IsRead m × AllReads moves

-- a read begins among them
abbrev pub begins_read : List Move → Bool
begins_read [] = false
begins_read (BeginRead ∷ moves) = true
begins_read (_ ∷ moves) = begins_read moves
