-- The signs at the foot of a column.
use Rattle.std.specs.Prelude.{ℕ, ◌+◌, ◌-◌, ◌*◌, ◌/◌, ◌^◌, min, Bool, true, false, cond, is_some, List, [], ◌∷◌, codes, length}
use Rattle.std.specs.Fmt.{decimal}
use Rattle.model.specs.{Mark}
use Rattle.model.specs.declared.marks.Mark.TheVariants as mark
use Rattle.markup.specs.{Block, Label, Pill, Point, Ring, Shape, path_from}
use Rattle.picture_layout.specs.{LineContent, capped, like}
use Rattle.picture_layout.specs.declared.line_contents.LineContent.TheVariants.{Marked, Refused, Tired, Shown, Ended, LockMarked, LockEnded}

-- a place so far to the left of another and above it
abbrev pub moved_by : Point → ℕ → ℕ → Point
moved_by at left up = record { x = at.x - left; y = at.y - up }

-- a place so far below another, as far as a number of 32 bits goes
abbrev pub down_by : Point → ℕ → Point
down_by at down = record { x = at.x; y = min (at.y + down) (2 ^ 32 - 1) }

-- the digit of a bit
abbrev pub bit_digit : Bool → List ℕ
bit_digit true = codes "1"
bit_digit false = codes "0"

-- the sign of a torn bit that is settled
abbrev pub settled_sign : Bool → Point → List Shape
settled_sign value at = path_from (codes "diamond") (moved_by at 0 9) (codes "l9 9l-9 9l-9 -9z") ∷ Label (codes "in") (down_by at 3) (bit_digit value) ∷ []

-- how wide the pill of a place in the history is
abbrev pub pill_width : ℕ → ℕ
pill_width place = capped (6 * length (decimal place) + 10)

-- a place in the history: filled if its command changed the store
abbrev pub taken_sign : Bool → ℕ → Point → List Shape
taken_sign changed place at =
    Pill (cond changed (codes "pill") (codes "pill-o")) (moved_by at (pill_width place / 2) 8) (pill_width place)
    ∷ Label (cond changed (codes "in-w") (codes "in")) (down_by at 3) (decimal place) ∷ []

-- the sign of a mark
abbrev pub mark_sign : Mark → Bool → Point → List Shape
mark_sign (mark.Called command) changed at = path_from (codes "sign") (moved_by at 0 5) (codes "l8 5l-8 5z") ∷ []
mark_sign (mark.Answered answer) changed at = Block (codes "sign") (moved_by at 3 4) 7 8 ∷ []
mark_sign mark.Failed changed at = path_from (codes "cross") (moved_by at 6 6) (codes "l12 12m0 -12l-12 12") ∷ []
mark_sign (mark.Settled value) changed at = settled_sign value at
mark_sign (mark.Taken place reply) changed at = taken_sign changed place at
mark_sign mark.Down changed at = Block (codes "sign") (moved_by at 2 9) 4 18 ∷ []
mark_sign mark.Restarted changed at = Ring (codes "ring") at ∷ []
mark_sign mark.Withdrew changed at = path_from (codes "back") (moved_by at 5 0) (codes "l9 -6v12z") ∷ []
mark_sign (mark.Waiting ticket) changed at = []
mark_sign mark.Entered changed at = []
mark_sign mark.Left changed at = []

-- the sign of what a line says
abbrev pub sign : LineContent → Point → List Shape
sign (Marked p mark change) at = mark_sign mark (is_some change) at
sign (Refused p refusal) at = path_from (codes "no-sign") (moved_by at 6 0) (codes "a6 6 0 1 0 12 0a6 6 0 1 0 -12 0m2 4l8 -8") ∷ []
sign (Tired p) at = path_from (codes "glass") (moved_by at 6 7) (codes "h12l-12 14h12z") ∷ []
sign (Shown words) at = Block (codes "sign") (moved_by at 2 5) 4 10 ∷ []
sign (Ended events taken refused) at = Block (codes "sign") (moved_by at 2 5) 4 10 ∷ []
sign (LockMarked p mark) at = mark_sign (like mark) false at
sign (LockEnded entries) at = Block (codes "sign") (moved_by at 2 5) 4 10 ∷ []
