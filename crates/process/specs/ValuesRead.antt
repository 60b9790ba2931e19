-- The values that a process has read in its call, and the present part of the call.
use Rattle.std.specs.Prelude.{◌≡◌, ◌≢◌, ◌<◌, ◌≤◌, ℕ, ◌+◌, ◌-◌, Bool, List, [], ◌∷◌, flat_map, length, take, Ok}
use Rattle.std.specs.List.{range_with_len}
use Rattle.plain_store.specs.{Setup, callers_of, checked}
use Rattle.model.specs.declared.access.Field.TheVariants.{Choosing, Ticket}
use Rattle.model.specs.Parts.{Part, Raises, Asks, TakesTicket, Lowers, Refuses, Waits, AsksCommit, AsksStamp, AsksImage, WritesImage, WritesStamp, WritesCommit, Clears, Over}
use Rattle.model.specs.{Call, Version, Wait, greatest, max_of}
use Rattle.process.specs.declared.part.ProgramPoint.{ProgramPoint}
use Rattle.process.specs.declared.part.ProgramPoint.TheVariants as at
use Rattle.process.specs.declared.part.ProcessCall.{ProcessCall}
use Rattle.process.specs.declared.values_read.ValuesRead.{ValuesRead}
use Rattle.process.specs.Others.{others_below, others_from}

-- the call of a process
abbrev pub call_of : ProcessCall → Call
call_of c = record { setup = c.setup; process = c.process; command = c.command; number = c.number }

-- the tickets of the others below j
abbrev pub tickets_seen : ℕ → ℕ → ValuesRead → List ℕ
tickets_seen p j seen = take (others_below p j) seen.numbers

-- versions by their commit bits and their stamps
abbrev pub versions : List Bool → List ℕ → List Version
versions [] stamps = []
versions (commit ∷ commits) [] = []
versions (commit ∷ commits) (stamp ∷ stamps) = (commit, stamp) ∷ versions commits stamps

-- the versions of the first k processes
abbrev pub versions_seen : ℕ → ValuesRead → List Version
versions_seen k seen = versions (take k seen.commits) (take k seen.numbers)

-- the other processes from k on
abbrev pub others_of : Call → ℕ → List ℕ
others_of c k = others_from c.setup.processes c.process k

-- all processes from k on
abbrev pub all_from : Call → ℕ → List ℕ
all_from c k = range_with_len k (c.setup.processes - k)

-- the registers for which it waits, of the other processes from k on
abbrev pub waits_from : Call → ℕ → List Wait
waits_from c k = flat_map (λ j. (j, Choosing) ∷ (j, Ticket) ∷ []) (others_of c k)

-- the part of the call, with the values that were read
abbrev pub part_at : Call → ValuesRead → ProgramPoint → Part
part_at c seen at.Raises = Raises
part_at c seen (at.Asks j) = Asks j (others_of c (j + 1)) (tickets_seen c.process j seen)
part_at c seen (at.TakesTicket t) = TakesTicket t
part_at c seen (at.Lowers t) = Lowers t
part_at c seen (at.Refuses full) = Refuses full
part_at c seen (at.AwaitsChoosing t j) = Waits t (j, Choosing) ((j, Ticket) ∷ waits_from c (j + 1))
part_at c seen (at.AwaitsTicket t j) = Waits t (j, Ticket) (waits_from c (j + 1))
part_at c seen (at.AsksCommit k) = AsksCommit k (all_from c (k + 1)) (versions_seen k seen)
part_at c seen (at.AsksStamp k commit) = AsksStamp k (all_from c (k + 1)) (versions_seen k seen) commit
part_at c seen at.AsksImage = AsksImage (versions_seen c.setup.processes seen)
part_at c seen at.WritesImage = WritesImage (versions_seen c.setup.processes seen) seen.store
part_at c seen at.WritesStamp = WritesStamp (versions_seen c.setup.processes seen) seen.store
part_at c seen at.WritesCommit = WritesCommit (versions_seen c.setup.processes seen) seen.store
part_at c seen (at.Clears a) = Clears a
part_at c seen at.Over = Over

-- a call of a process of a good setup
pub record IsCall (c : Call) : Type 0 where
  pub good : checked c.setup ≡ Ok tt
  pub process : c.process < c.setup.processes
  pub processes : c.setup.processes ≤ 16
  pub some_ticket : 1 ≤ c.setup.ticket_bits
  pub few_ticket : c.setup.ticket_bits ≤ 32
  pub some_stamp : 1 ≤ c.setup.stamp_bits
  pub few_stamp : c.setup.stamp_bits ≤ 32

-- the fields have room for a number and a bit of each process
pub record HasRoom (seen : ValuesRead) : Type 0 where
  pub numbers : length seen.numbers ≡ 16
  pub commits : length seen.commits ≡ 16

-- the first n numbers fit in `bits` bits
abbrev pub Fit : ℕ → ℕ → ValuesRead → Type 0
Fit n bits seen = greatest (take n seen.numbers) ≤ max_of bits

-- the store is one of the setup, and the successor of the greatest stamp fits
pub record IsChange (s : Setup) (seen : ValuesRead) : Type 0 where
  pub slots : seen.store.slots ≡ s.slots
  pub numbers : length seen.store.numbers ≡ callers_of s
  pub stamp : greatest (take s.processes seen.numbers) < max_of s.stamp_bits

-- the invariant of a part
abbrev pub Holds : Call → ValuesRead → ProgramPoint → Type 0
Holds c seen (at.Asks j) = (j < c.setup.processes) × (j ≢ c.process) × Fit (others_below c.process j) c.setup.ticket_bits seen
Holds c seen (at.AwaitsChoosing t j) = j < c.setup.processes
Holds c seen (at.AwaitsTicket t j) = j < c.setup.processes
Holds c seen (at.AsksCommit k) = (k < c.setup.processes) × Fit k c.setup.stamp_bits seen
Holds c seen (at.AsksStamp k commit) = (k < c.setup.processes) × Fit k c.setup.stamp_bits seen
Holds c seen at.AsksImage = Fit c.setup.processes c.setup.stamp_bits seen
Holds c seen at.WritesImage = IsChange c.setup seen
Holds c seen at.WritesStamp = IsChange c.setup seen
Holds c seen at.WritesCommit = IsChange c.setup seen
Holds c seen _ = Unit {0}

-- the invariant of the fields
pub record KeepsPart (c : Call) (seen : ValuesRead) (part : ProgramPoint) : Type 0 where
  pub call : IsCall c
  pub room : HasRoom seen
  pub holds : Holds c seen part
