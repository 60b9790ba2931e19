-- Good setups, and the opening store of a setup.
use Rattle.std.specs.Prelude.{ℕ, Bool, ◌==◌, nat_le, if◌then◌else◌, List, [], ◌∷◌, length, replicate, Result, Ok, Err}
use Rattle.std.specs.Int.{is_in_range}
use Rattle.plain_store.specs.Pairs.{Pair}
use Rattle.plain_store.specs.Store.{Contents}
use Rattle.plain_store.specs.declared.setups.BadSetup.{BadSetup}
use Rattle.plain_store.specs.declared.setups.BadSetup.TheVariants.{Version, Processes, TicketBits, StampBits, Slots, Opening}
use Rattle.plain_store.specs.declared.setups.Setup.{Setup}

-- the most processes: version 2 has twice as many
abbrev pub most_processes : ℕ → ℕ
most_processes version = if version == 1 then 8 else 16

-- the most bits of a ticket or a stamp: version 2 has twice as many
abbrev pub most_bits : ℕ → ℕ
most_bits version = if version == 1 then 16 else 32

-- no more pairs than slots, and in version 1 none
abbrev pub is_good_opening : ℕ → ℕ → List Pair → Bool
is_good_opening version slots pairs = nat_le (length pairs) (if version == 1 then 0 else slots)

-- the first field whose test fails
abbrev pub first_fault : List (Bool × BadSetup) → Result (Unit {0}) BadSetup
first_fault [] = Ok tt
first_fault (check ∷ checks) = if check.0 then first_fault checks else Err check.1

-- the fields in their order, each with the test of its range
abbrev pub checks : Setup → List (Bool × BadSetup)
checks s =
    (is_in_range 1 2 s.version, Version)
    ∷ (is_in_range 1 (most_processes s.version) s.processes, Processes)
    ∷ (is_in_range 1 (most_bits s.version) s.ticket_bits, TicketBits)
    ∷ (is_in_range 1 (most_bits s.version) s.stamp_bits, StampBits)
    ∷ (is_in_range 1 8 s.slots, Slots)
    ∷ (is_good_opening s.version s.slots s.opening, Opening)
    ∷ []

-- a setup of version 1, which opens without pairs
abbrev pub version_one : (processes ticket_bits stamp_bits slots : ℕ) → Setup
version_one processes ticket_bits stamp_bits slots = record { version = 1; processes = processes; ticket_bits = ticket_bits; stamp_bits = stamp_bits; slots = slots; opening = [] }

-- the first field that is out of its range
abbrev pub checked : Setup → Result (Unit {0}) BadSetup
checked s = first_fault (checks s)

-- the number of callers that a store distinguishes: in version 1 none
abbrev pub callers_of : Setup → ℕ
callers_of s = if s.version == 1 then 0 else s.processes

-- the opening store: the opening pairs in the order added, and no call yet
abbrev pub opening_store : Setup → Contents
opening_store s = record { pairs = s.opening; slots = s.slots; numbers = replicate (callers_of s) 0 }
