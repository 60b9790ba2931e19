-- The memory of all processes after it was borrowed for one of them.
use Rattle.std.specs.Borrow.{Lends, MutBor, Fml}
use Rattle.bakery.specs.Memory.{BorrowedMemory, SetupMemory}
use Rattle.bakery.specs.contracts.data.Data.{the_row as part}
use Rattle.bakery.specs.contracts.data_row.DataRow.{the_row as row}
use Rattle.bakery.specs.contracts.lock.Lock.{the_row as lock}
use Rattle.bakery.specs.contracts.lock.Locks.{the_row as locks}

-- the memory of the locks ends as the borrowed one does
abbrev pub BorrowsLock : MutBor SetupMemory → MutBor BorrowedMemory → Fml
BorrowsLock all one = Lends locks lock all one (λ last. last.memory)

-- the memory of the versions ends as the borrowed one does
abbrev pub BorrowsPart : MutBor SetupMemory → MutBor BorrowedMemory → Fml
BorrowsPart all one = Lends row part all one (λ last. last.memory)
