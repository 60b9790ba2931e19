-- The laws of every cursor that is at a part of a call.
use Rattle.std.specs.Prelude.{◌≡◌, ◌<◌, Bool, false, true, Ok, Some}
use Rattle.plain_store.specs.{checked}
use Rattle.model.specs.{Call, Part, access_at, enter, marks_of, place_after}
use Rattle.registers.specs.Accesses.{next_access}
use Rattle.registers.specs.AtParts.{IsAtPart, IsDone, entered, marks_moved, moved, place_at, place_moved, run_at}
use Rattle.registers.specs.Cursors.{CursorState, is_over}
use Rattle.registers.specs.Progress.{last_access}

-- its next access is that of its position
abbrev pub CursorReportsNext : Type 0
CursorReportsNext = (c : Call) (part : Part) (cur : CursorState) → IsAtPart c part cur → access_at c part (run_at cur) ≡ next_access cur false

-- it reaches the next position: it advances within the register access, and after the last access the next part begins
abbrev pub CursorGoesOn : Type 0
CursorGoesOn = (c : Call) (part : Part) (cur : CursorState) (v : Bool) → IsAtPart c part cur → place_after c (place_at part cur) v ≡ place_moved c part (moved cur v)

-- its marks are those of its position
abbrev pub CursorReportsMarks : Type 0
CursorReportsMarks = (c : Call) (part : Part) (cur : CursorState) (v : Bool) → IsAtPart c part cur → marks_of c (place_at part cur) v ≡ marks_moved c part cur (moved cur v)

-- it is at its part until it is over; then it has made all accesses of the part
abbrev pub CursorStays : Type 0
CursorStays = (c : Call) (part : Part) (cur : CursorState) (v : Bool) → IsAtPart c part cur → is_over (moved cur v) ≡ false → IsAtPart c part (moved cur v)

abbrev pub CursorEnds : Type 0
CursorEnds = (c : Call) (part : Part) (cur : CursorState) (v : Bool) → IsAtPart c part cur → is_over (moved cur v) ≡ true → IsDone c part (moved cur v)

-- After its next access, this access is its last one.
abbrev pub CursorReportsLast : Type 0
CursorReportsLast = (c : Call) (part : Part) (cur : CursorState) (v : Bool) → IsAtPart c part cur → last_access (moved cur v) ≡ Some (next_access cur v)

-- the cursor with which a part begins is at the part, and has the position of its begin
abbrev pub CursorBegins : Type 0
CursorBegins = (c : Call) (part : Part) → checked c.setup ≡ Ok tt → c.process < c.setup.processes → IsAtPart c part (entered c part) × (place_at part (entered c part) ≡ enter c part)
