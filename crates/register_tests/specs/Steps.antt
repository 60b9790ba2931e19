-- What is known of a door, a section and a memory unit after some steps.
use Rattle.std.specs.Prelude.{Bool, true, false, Option, None, Some}
use Rattle.bakery.specs.{DoorProgress, SectionProgress}
use Rattle.bakery.specs.declared.unit_progress.UnitProgress.{UnitProgress}
use Rattle.bakery.specs.declared.unit_progress.UnitProgress.TheVariants as progress
use Rattle.bakery.specs.Doors as door
use Rattle.bakery.specs.Sections as section

-- a door that had further accesses has further ones after a step with this result, if it made one
abbrev pub door_goes : Option DoorProgress → Bool
door_goes None = true
door_goes (Some progress) = door.goes_on progress

-- the process waits after a step with this result; if it made none, it waits as before
abbrev pub door_waits : Bool → Option DoorProgress → Bool
door_waits before None = before
door_waits before (Some progress) = door.reports_wait progress

-- a section that had further accesses has further ones after a step with this result, if it made one
abbrev pub section_goes : Option SectionProgress → Bool
section_goes None = true
section_goes (Some progress) = section.goes_on progress

-- nothing remains of the unit's work
abbrev pub is_down : UnitProgress → Bool
is_down progress.Down = true
is_down _ = false
