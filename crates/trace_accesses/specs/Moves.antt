-- How a picture shows a move.
use Rattle.picture_layout.specs.{AccessKind, AccessStep}
use Rattle.picture_layout.specs.declared.accesses.AccessKind.TheVariants as kind
use Rattle.picture_layout.specs.declared.accesses.AccessStep.TheVariants as step
use Rattle.trace.specs.{CellMove}
use Rattle.trace.specs.declared.accesses.CellMove.TheVariants.{Write, End, Read, Value, Set, Get, Swap, Add, Cas}

-- the kind of its access
abbrev pub kind_of : CellMove → AccessKind
kind_of (Write v) = kind.Write
kind_of End = kind.Write
kind_of Read = kind.Read
kind_of (Value v) = kind.Read
kind_of (Set v) = kind.Write
kind_of (Get v) = kind.Read
kind_of (Swap new gives) = kind.Update
kind_of (Add addend gives) = kind.Update
kind_of (Cas expected new gives) = kind.Update

-- its part of the access
abbrev pub step_of : CellMove → AccessStep
step_of (Write v) = step.Begin
step_of End = step.End
step_of Read = step.Begin
step_of (Value v) = step.End
step_of (Set v) = step.Whole
step_of (Get v) = step.Whole
step_of (Swap new gives) = step.Whole
step_of (Add addend gives) = step.Whole
step_of (Cas expected new gives) = step.Whole
