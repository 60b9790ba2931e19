-- The registers of all processes of a setup: an access on them, and a dropped read.
use Rattle.std.specs.Prelude.{◌≡◌, ◌==◌, ℕ, Bool, true, false, List, Ok}
use Rattle.process.specs.registers.safe_bit.Cell.{Cell}
use Rattle.process.specs.registers.{AreOf, applied}
use Rattle.plain_store.specs.{Setup, checked}
use Rattle.model.specs.{Access, Field, Version, stamp_field}
use Rattle.model.specs.declared.access.Field.TheVariants.{Commit, Image0, Image1}
use Rattle.model.specs.safe_number.{number_of_bits}
use Rattle.process.specs.{ProcessState, answered_at, cells_opening, dropped, memory_with, register_held}

-- the registers of all processes of a setup
pub record SetupMemory : Type 0 where
  pub setup : Setup
  pub registers : List (List Cell)

-- the setup is good, and the registers are those of the setup
pub record IsMemory (s : Setup) (registers : List (List Cell)) : Type 0 where
  pub good : checked s ≡ Ok tt
  pub are : AreOf s registers

-- the registers of a setup, borrowed for a process
pub record BorrowedMemory : Type 0 where
  pub process : ℕ
  pub memory : SetupMemory

-- the registers borrowed for this process
abbrev pub borrowed_for : ℕ → SetupMemory → BorrowedMemory
borrowed_for process memory = record { process = process; memory = memory }

-- the register holds an image, and not a number
abbrev pub is_image : Field → Bool
is_image Image0 = true
is_image Image1 = true
is_image _ = false

-- the number that a register of the process holds, by the copies of reader 0
abbrev pub number_in : BorrowedMemory → Field → ℕ
number_in one field = number_of_bits (register_held one.memory.setup one.memory.registers one.process field)

-- the version that the process has committed: its commit bit, and the stamp that this bit chooses
abbrev pub version_held : BorrowedMemory → Version
version_held one = let commit = number_in one Commit == 1 in (commit, number_in one (stamp_field commit))

-- the initial memory
abbrev pub opening : Setup → SetupMemory
opening s = record { setup = s; registers = memory_with (cells_opening s) s }

-- the next access of a process, with the value that the memory returns
abbrev pub answered_by : ProcessState → SetupMemory → Bool → Access
answered_by now memory flick = answered_at now memory.registers flick

-- the memory after an access, which changes one copy of one bit
abbrev pub memory_after : SetupMemory → Access → SetupMemory
memory_after memory a = record memory { registers = applied memory.setup.processes memory.registers a }

-- the memory that is borrowed for a process, after an access
abbrev pub with_access : BorrowedMemory → Access → BorrowedMemory
with_access one a = record one { memory = memory_after one.memory a }

-- the memory after the open read of a process is dropped, if it has one
abbrev pub memory_dropped : ProcessState → SetupMemory → SetupMemory
memory_dropped now memory = record memory { registers = dropped now memory.registers }
