-- A call at one of its parts: the access of the part, the next part, and the marks.
use Rattle.std.specs.Prelude.{◌≡◌, ◌<◌, ◌≤◌, ℕ, Bool, true, false, List, [], ◌∷◌, length}
use Rattle.plain_store.specs.declared.Answer.TheVariants as answer
use Rattle.model.specs.{Call, Mark, width}
use Rattle.model.specs.declared.marks.Mark.TheVariants as mark
use Rattle.model.specs.Parts.{Part, Lowers, Refuses, Waits, AsksCommit, AsksImage, WritesImage, WritesCommit, Clears, is_over, is_read, read_at, written_at}
use Rattle.model.specs.safe_number.{bits_of_number, number_of_bits}
use Rattle.process.specs.declared.access_request.AccessRequest.{AccessRequest}
use Rattle.process.specs.declared.access_request.AccessRequest.TheVariants as asks

-- a call and its present part
pub record PartState : Type 0 where
  pub call : Call
  pub part : Part

-- the part reads the image
abbrev pub reads_image : Part → Bool
reads_image (AsksImage versions) = true
reads_image _ = false

-- the part writes the new image
abbrev pub writes_image : Part → Bool
writes_image (WritesImage versions store) = true
writes_image _ = false

-- the description of an access is that of the part
abbrev pub IsAsked : Call → Part → AccessRequest → Type 0
IsAsked c part asks.Nothing = is_over part ≡ true
IsAsked c part (asks.Reads owner field) = (is_over part ≡ false) × (is_read part ≡ true) × (owner < c.setup.processes) × (read_at c part ≡ (owner, field))
IsAsked c part (asks.Writes field number) = (is_over part ≡ false) × (is_read part ≡ false) × (width c.setup field ≤ 32) × (written_at c part ≡ (field, bits_of_number (width c.setup field) number))
IsAsked c part (asks.WritesImage field) = (writes_image part ≡ true) × ((written_at c part).0 ≡ field)

-- these bits were read at a part, if it reads, and they make this number
pub record IsOutcome (c : Call) (part : Part) (bits : List Bool) (number : ℕ) : Type 0 where
  pub makes : number_of_bits bits ≡ number
  pub whole : is_read part ≡ true → length bits ≡ width c.setup (read_at c part).1

-- the marks on the last access of a wait, by what comes next
abbrev pub marks_waited : Part → List Mark
marks_waited (AsksCommit k ks versions) = mark.Entered ∷ []
marks_waited (AsksImage versions) = mark.Entered ∷ []
marks_waited _ = []

-- the marks with which the doorway ends
abbrev pub marks_lowered : ℕ → Part → List Mark
marks_lowered t (Waits u w ws) = mark.Waiting t ∷ []
marks_lowered t _ = mark.Waiting t ∷ mark.Entered ∷ []

-- the marks of a last access that may take a command
abbrev pub marks_taken : Part → List Mark
marks_taken (Clears (answer.Reply reply)) = mark.Taken 0 reply ∷ []
marks_taken _ = []

-- the marks on the last access of a part, by what comes next
abbrev pub marks_to : Part → Part → List Mark
marks_to (Lowers t) next = marks_lowered t next
marks_to (Refuses full) next = mark.Answered (answer.TicketsFull full) ∷ []
marks_to (Waits t w ws) next = marks_waited next
marks_to (AsksImage versions) next = marks_taken next
marks_to (WritesCommit versions store) next = marks_taken next
marks_to (Clears a) next = mark.Answered a ∷ []
marks_to _ next = []
