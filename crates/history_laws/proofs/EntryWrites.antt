-- An entry with an access writes one field of its process at most.
use Rattle.std.proofs.Common.{◌≡◌, ℕ, ◌∷◌, Some}
use Rattle.model.specs.{Access, Entry, Past}
use Rattle.plain_store.specs.{Setup}
use Rattle.laws.proofs.FrameCells.{EntryBy}
use Rattle.laws.proofs.FrameWires.{wires-fields, wires-others}
use Rattle.laws.proofs.Invariant.{wires}
use Rattle.history_laws.proofs.Uncommitted.{WritesOne}

pub writes_one : (s : Setup) (past : Past) (p : ℕ) (e : Entry) (x : Access) → EntryBy p e → e.access ≡ Some x → WritesOne p x.field (wires s past) (wires s (e ∷ past))
writes_one s past p e x by h = record { others = λ q ne. wires-others s past e p q by ne; fields = λ g ne. wires-fields s past e x p g h ne }
