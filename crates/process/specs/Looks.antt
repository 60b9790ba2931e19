-- Facts about a process that are computed from its work.
use Rattle.std.specs.Prelude.{ℕ, Bool, ◌&&◌, not, cond, List, [], Option, None, Some, option_map}
use Rattle.plain_store.specs.{Setup}
use Rattle.model.specs.safe_number.{number_of_bits}
use Rattle.model.specs.{Closing, Place, Reading, Run, Settles, Writing, greatest, max_of}
use Rattle.model.specs.Parts.{Part, Asks, TakesTicket, Lowers, Refuses, is_read}
use Rattle.laws.specs.{Doing, RegisterWrite, Runs, Closes, register_write}
use Rattle.registers.specs.{register_bytes}
use Rattle.process.specs.declared.looks.KnownTicket.{KnownTicket}
use Rattle.process.specs.declared.looks.KnownTicket.TheVariants.{Above, Is}
use Rattle.process.specs.declared.looks.Settling.{Settling}
use Rattle.process.specs.CallParts.{reads_image}

-- the bits that were read
abbrev pub bits_read : Run → List Bool
bits_read (Reading bits begun) = bits
bits_read (Writing w) = []

-- the part reads a register that holds a number
abbrev pub reads_number : Part → Bool
reads_number part = is_read part && not (reads_image part)

-- the number read so far; 0 if no register or an image is read
abbrev pub number_at : Place → ℕ
number_at at = cond (reads_number at.part) (number_of_bits (bits_read at.run)) 0

abbrev pub number_read : Doing → ℕ
number_read (Runs command number at) = number_at at
number_read _ = 0

-- the known facts about the ticket, after part A and while the process is in its doorway
abbrev pub ticket_known_at : Setup → Part → Option KnownTicket
ticket_known_at s (Asks j js tickets) = Some (Above (greatest tickets))
ticket_known_at s (TakesTicket t) = Some (Is t)
ticket_known_at s (Lowers t) = Some (Is t)
ticket_known_at s (Refuses full) = Some (Above (max_of s.ticket_bits))
ticket_known_at s _ = None

abbrev pub ticket_known : Setup → Doing → Option KnownTicket
ticket_known s (Runs command number at) = ticket_known_at s at.part
ticket_known s _ = None

-- the bit that the memory unit settles
abbrev pub settling_in : Closing → Option Settling
settling_in (Settles field bit begun taken inside t) = Some (record { field = field; bit = bit; written = begun; cut = t.made; copy = t.reader; begun = t.begun; value = t.value })
settling_in _ = None

abbrev pub settling_of : Doing → Option Settling
settling_of (Closes command number at) = settling_in at
settling_of _ = None

-- The bytes that a process or its memory unit writes to a register. The result is `None` if neither writes a register.
abbrev pub bytes_written : Setup → ℕ → Doing → Option (List ℕ)
bytes_written s p d = option_map (λ (w : RegisterWrite). register_bytes w.bits) (register_write s p d)
