-- Open accesses as memory keeps them.
use Rattle.std.proofs.Common.{◌≡◌, ℕ, Bool, true, false, cond, Option, None, Some, is_some, option_map, refl}
use Rattle.std.specs.Option.{option_map_or}
use Rattle.trace.specs.{Cell, CellAccess, CellMove, TracePast, TraceSetup}
use Rattle.trace.specs.declared.accesses.CellMove.TheVariants.{Write, End, Read, Value, Set, Get, Swap, Add, Cas}
use Rattle.trace_memory.specs.{MadeAccess, if_begun, kept_access, kept_open, latest_access, number_of, opened}
use Rattle.trace_accesses.specs.{kept_begin, kept_overlaps, overlaps_open}

-- where an open access began

begin-made : (s : TraceSetup) (number : ℕ) (o : Option MadeAccess) → kept_begin number (option_map (kept_access s) o) ≡ option_map_or number_of o number
begin-made s number None = refl
begin-made s number (Some m) = refl

pub begin-kept : (s : TraceSetup) (number p : ℕ) (past : TracePast) → kept_begin number (kept_open s p past) ≡ option_map_or number_of (opened p past) number
begin-kept s number p past = begin-made s number (opened p past)

-- Which access overlaps it: memory keeps of a read what it may give, and of a write nothing.

overlaps-made : (s : TraceSetup) (a : CellAccess) (cell : Cell) (how : CellMove) (before since : TracePast) →
    kept_overlaps a (option_map (kept_access s) (if_begun (Some (record { access = record { cell = cell; how = how }; before = before; since = since }))))
    ≡ option_map_or (overlaps_open a) (if_begun (Some (record { access = record { cell = cell; how = how }; before = before; since = since }))) false
overlaps-made s a cell (Write v) before since = refl
overlaps-made s a cell End before since = refl
overlaps-made s a cell Read before since = refl
overlaps-made s a cell (Value v) before since = refl
overlaps-made s a cell (Set v) before since = refl
overlaps-made s a cell (Get v) before since = refl
overlaps-made s a cell (Swap new gives) before since = refl
overlaps-made s a cell (Add addend gives) before since = refl
overlaps-made s a cell (Cas expected new gives) before since = refl

overlaps-begun : (s : TraceSetup) (a : CellAccess) (o : Option MadeAccess) →
    kept_overlaps a (option_map (kept_access s) (if_begun o)) ≡ option_map_or (overlaps_open a) (if_begun o) false
overlaps-begun s a None = refl
overlaps-begun s a (Some m) = overlaps-made s a m.access.cell m.access.how m.before m.since

pub overlaps-kept : (s : TraceSetup) (a : CellAccess) (q : ℕ) (past : TracePast) → kept_overlaps a (kept_open s q past) ≡ option_map_or (overlaps_open a) (opened q past) false
overlaps-kept s a q past = overlaps-begun s a (latest_access q past)

-- a value that is there if a test holds
pub some-cond : {A : Type 0} (b : Bool) (x : A) → is_some (cond b (Some x) None) ≡ b
some-cond true x = refl
some-cond false x = refl
