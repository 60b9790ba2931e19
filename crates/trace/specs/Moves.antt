-- The properties of moves.
use Rattle.std.specs.Prelude.{ℕ, ◌^◌, nat_lt, Bool, true, false, List, [], ◌∷◌, Option, None, Some}
use Rattle.std.specs.List.{list_all}
use Rattle.trace.specs.declared.accesses.CellAccess.{CellAccess}
use Rattle.trace.specs.declared.accesses.CellMove.{CellMove}
use Rattle.trace.specs.declared.accesses.CellMove.TheVariants.{Write, End, Read, Value, Set, Get, Swap, Add, Cas}

-- a move begins a write or a read that ends later
abbrev pub begins : CellMove → Bool
begins (Write v) = true
begins Read = true
begins _ = false

-- a move ends a write or a read that began earlier
abbrev pub ends : CellMove → Bool
ends End = true
ends (Value v) = true
ends _ = false

-- a begin or an end
abbrev pub is_part : CellMove → Bool
is_part (Write v) = true
is_part End = true
is_part Read = true
is_part (Value v) = true
is_part _ = false

-- a move writes and does not read
abbrev pub only_writes : CellMove → Bool
only_writes (Write v) = true
only_writes End = true
only_writes (Set v) = true
only_writes _ = false

-- a move reads and writes in one entry
abbrev pub changes : CellMove → Bool
changes (Swap new gives) = true
changes (Add addend gives) = true
changes (Cas expected new gives) = true
changes _ = false

-- a move begins a read, which may end with it
abbrev pub reads : CellMove → Bool
reads Read = true
reads (Get v) = true
reads (Swap new gives) = true
reads (Add addend gives) = true
reads (Cas expected new gives) = true
reads _ = false

-- a move begins a write, which may end with it
abbrev pub writes : CellMove → Bool
writes (Write v) = true
writes (Set v) = true
writes (Swap new gives) = true
writes (Add addend gives) = true
writes (Cas expected new gives) = true
writes _ = false

-- a move begins or ends a write
abbrev pub alters : CellMove → Bool
alters Read = false
alters (Value v) = false
alters (Get v) = false
alters _ = true

-- a move begins a read that ends later
abbrev pub begins_read : CellMove → Bool
begins_read Read = true
begins_read _ = false

-- a move ends a read that began earlier
abbrev pub ends_read : CellMove → Bool
ends_read (Value v) = true
ends_read _ = false

-- the value of a write that begins
abbrev pub value_written : CellMove → Option ℕ
value_written (Write v) = Some v
value_written (Set v) = Some v
value_written _ = None

-- the value that a move read, as the trace states it
abbrev pub value_read : CellMove → Option ℕ
value_read (Value v) = Some v
value_read (Get v) = Some v
value_read (Swap new gives) = Some gives
value_read (Add addend gives) = Some gives
value_read (Cas expected new gives) = Some gives
value_read _ = None

-- the values of a move
abbrev pub values : CellMove → List ℕ
values (Write v) = v ∷ []
values End = []
values Read = []
values (Value v) = v ∷ []
values (Set v) = v ∷ []
values (Get v) = v ∷ []
values (Swap new gives) = new ∷ gives ∷ []
values (Add addend gives) = addend ∷ gives ∷ []
values (Cas expected new gives) = expected ∷ new ∷ gives ∷ []

-- they fit a width
abbrev pub fits : ℕ → CellMove → Bool
fits width how = list_all (λ v. nat_lt v (2 ^ width)) (values how)

-- the same move, if it reads this value
abbrev pub move_reading : ℕ → CellMove → CellMove
move_reading v (Value x) = Value v
move_reading v (Get x) = Get v
move_reading v (Swap new x) = Swap new v
move_reading v (Add addend x) = Add addend v
move_reading v (Cas expected new x) = Cas expected new v
move_reading v how = how

-- the same access, if it reads this value
abbrev pub access_reading : ℕ → CellAccess → CellAccess
access_reading v a = record a { how = move_reading v a.how }
