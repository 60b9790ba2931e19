-- The torn bit and the pending change that a failure finds at a place of a call or of a withdrawal.
use Rattle.std.specs.Prelude.{ℕ, ◌<◌, Bool, not, List, Option, None, Some, option_map}
use Rattle.reader_copies.specs.Runs as copies
use Rattle.model.specs.declared.access.Field.{Field}
use Rattle.model.specs.declared.access.Field.TheVariants.{Ticket}
use Rattle.model.specs.declared.access.TornBit.{TornBit}
use Rattle.safe_number.specs.{NumberWrite, torn_bit}
use Rattle.plain_store.specs.{Contents, Reply, Setup}
use Rattle.model.specs.Closings.{Closing, Withdraws}
use Rattle.model.specs.Parts.{Part, WritesImage, WritesStamp, WritesCommit, written_at}
use Rattle.model.specs.Places.{Run, Writing, Reading, Place}
use Rattle.model.specs.Program.{Version, newest_stamp, version_of, reply}
use Rattle.model.specs.Registers.{width}
use Rattle.model.specs.Scripts.{Call}

-- a torn bit of a register
abbrev pub named : Field → ℕ × copies.Settling → TornBit
named field torn = record { field = field; bit = torn.0; torn = torn.1 }

-- the torn bit of a write of a register: its write has begun and has not ended on every copy
abbrev pub torn_in : Field → NumberWrite → Option TornBit
torn_in field w = option_map (named field) (torn_bit w)

-- the torn bit of a number access; a read tears none
abbrev pub torn_run : Call → Part → Run → Option TornBit
torn_run c part (Writing w) = torn_in (written_at c part).0 w
torn_run c part (Reading bits begun) = None

-- a torn bit that exists in this setup, of which a copy is left to settle
abbrev pub IsTornOf : Setup → TornBit → Type 0
IsTornOf s t = (t.bit < width s t.field) × (t.torn.reader < s.processes)

-- the torn bit of a place
abbrev pub torn_at : Call → Place → Option TornBit
torn_at c at = torn_run c at.part at.run

-- the torn bit of a withdrawal
abbrev pub torn_closing : Closing → Option TornBit
torn_closing (Withdraws w) = torn_in Ticket w
torn_closing _ = None

-- a change of the store that is being written: its reply, the greatest stamp that was read, and the commit bit's new value
abbrev pub Change : Type 0
Change = Reply × ℕ × Bool

-- the change of a call that has read these versions and this store
abbrev pub change_of : Call → List Version → Contents → Change
change_of c vs store = (reply c store, newest_stamp vs, not (version_of vs c.process))

-- the change that a part writes
abbrev pub pending_at : Call → Part → Option Change
pending_at c (WritesImage vs store) = Some (change_of c vs store)
pending_at c (WritesStamp vs store) = Some (change_of c vs store)
pending_at c (WritesCommit vs store) = Some (change_of c vs store)
pending_at c _ = None
