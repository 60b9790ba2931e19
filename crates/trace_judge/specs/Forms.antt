-- Short and long forms of a trace: an access in one entry, or its begin and its end.
use Rattle.std.specs.Prelude.{◌≡◌, ◌↔◌, ℕ, IsFalse, IsTrue, List, [], ◌∷◌, ◌++◌, Option, None, Some}
use Rattle.trace.specs.{CellAccess, CellMove, TraceEntry, TraceSetup, is_atomic, is_trace_setup, trace_entry}
use Rattle.trace.specs.declared.accesses.CellMove.TheVariants.{Write, End, Read, Value, Set, Get}
use Rattle.trace_judge.specs.declared.verdicts.TraceVerdict.TheVariants.{Good}
use Rattle.trace_judge.specs.Verdicts.{verdict_of}

-- the begin of an access in one entry
abbrev pub begin_of : CellMove → Option CellMove
begin_of (Set v) = Some (Write v)
begin_of (Get v) = Some Read
begin_of _ = None

-- and its end; another move stays
abbrev pub end_of : CellMove → CellMove
end_of (Set v) = End
end_of (Get v) = Value v
end_of how = how

-- the same access with another move
abbrev pub with_move_of : CellAccess → CellMove → CellAccess
with_move_of a how = record a { how = how }

-- the begin of an access of p as an entry without marks, if it has one
abbrev pub begin_entry : ℕ → CellAccess → List TraceEntry
begin_entry p a = elim (begin_of a.how) [ None ↦ [] | Some how ↦ trace_entry p (Some (with_move_of a how)) [] ∷ [] ]

-- an entry with its access in two, the marks on the second
abbrev pub in_two : TraceEntry → List TraceEntry
in_two e = elim e.access [
  | None ↦ e ∷ []
  | Some a ↦ begin_entry e.process a ++ trace_entry e.process (Some (with_move_of a (end_of a.how))) e.marks ∷ []
]

-- a trace with all accesses in two
abbrev pub long_form : List TraceEntry → List TraceEntry
long_form [] = []
long_form (e ∷ entries) = in_two e ++ long_form entries

-- In safe and regular memory a trace is good exactly if its long form is.
abbrev pub LongFormIsSame : Type 0
LongFormIsSame = (s : TraceSetup) (entries : List TraceEntry) → IsTrue (is_trace_setup s) → IsFalse (is_atomic s.memory) → (verdict_of s entries ≡ Good) ↔ (verdict_of s (long_form entries) ≡ Good)
