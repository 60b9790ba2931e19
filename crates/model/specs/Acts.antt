-- The effect of an event, as contracts see it.
use Rattle.std.specs.Prelude.{List, Option}
use Rattle.model.specs.declared.access.Access.{Access}
use Rattle.model.specs.declared.marks.Mark.{Mark}

-- at most one access, and the marks in their order
pub record Act : Type 0 where
  pub access : Option Access
  pub marks : List Mark
