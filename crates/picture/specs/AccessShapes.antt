-- What a band draws of accesses: guides, boxes, words and ties.
use Rattle.std.specs.Prelude.{ℕ, zero, suc, ◌+◌, ◌-◌, Bool, true, false, ◌==◌, cond, is_some, nat_lt, List, [], ◌∷◌, ◌++◌, codes, Option, None, Some}
use Rattle.std.specs.List.{list_any}
use Rattle.markup.specs.{Block, End, Label, Note, Shape, line_from, path_from}
use Rattle.picture_layout.specs.{AccessKind, AccessStep, Lane, Layout, UnendedAccess, Seen, ShownAccess, access_title, boxes_of, is_over, lane_in, open_next}
use Rattle.picture_layout.specs.declared.accesses.AccessKind.TheVariants as kind
use Rattle.picture_layout.specs.declared.accesses.AccessStep.TheVariants as step
use Rattle.picture.specs.Bars.{point}

-- the guide of a column that shows an access: a line through all lanes
abbrev pub guide : Layout → Seen → List Shape
guide layout column = cond (is_some column.access) (line_from (codes "guide") (point column.x 20) (point column.x layout.height) ∷ []) []

-- the style of a box: a read that a write overlaps has one of its own
abbrev pub box_style : AccessKind → Bool → List ℕ
box_style kind.Read false = codes "read"
box_style kind.Read true = codes "overlapped"
box_style kind.Write is_overlapped = codes "write"
box_style kind.Update is_overlapped = codes "update"

-- the style of the box of an access that does not end in its band
abbrev pub open_style : AccessKind → Bool → List ℕ
open_style kind is_overlapped = box_style kind is_overlapped ++ codes " unended"

-- the box of an access from one place to another, and that of one that does not end in its band
abbrev pub access_box : Lane → UnendedAccess → ℕ → ℕ → Shape
access_box lane access from to = Block (box_style access.kind access.is_overlapped) (point from (boxes_of lane)) (to - from) 28

abbrev pub open_box : Lane → UnendedAccess → ℕ → ℕ → Shape
open_box lane access from to = Block (open_style access.kind access.is_overlapped) (point from (boxes_of lane)) (to - from) 28

-- the box of an access that ends, if one was open
abbrev pub ended_box : Lane → Option UnendedAccess → ℕ → ℕ → List Shape
ended_box lane None from to = []
ended_box lane (Some access) from to = access_box lane access from to ∷ []

-- whether an access overlaps an open one as it begins, and one of the two writes
abbrev pub begins_overlapped : ShownAccess → Bool
begins_overlapped access = list_any (λ (is_over : Bool). is_over) access.overlaps

-- the box of a whole access
abbrev pub whole_style : AccessKind → Bool → List ℕ
whole_style kind is_overlapped = box_style kind is_overlapped ++ codes " whole"

abbrev pub whole_box : Lane → ShownAccess → ℕ → Shape
whole_box lane access x = Block (whole_style access.kind (begins_overlapped access)) (point x (boxes_of lane)) 4 28

-- the words of an access, in a style, and its cell, from a place on
abbrev pub styled_words : List ℕ → Lane → ℕ → ShownAccess → List Shape
styled_words style lane x access =
    Label style (point x (boxes_of lane + 12)) access.words.items
    ∷ Label (codes "cell") (point x (boxes_of lane + 24)) access.cell.items ∷ []

abbrev pub move_words : Lane → ℕ → ShownAccess → List Shape
move_words = styled_words (codes "move")

-- the style of the value that an access gives: a read that a write overlapped has a style of its own
abbrev pub value_by : AccessKind → Bool → List ℕ
value_by kind.Read true = codes "saw"
value_by _ is_overlapped = codes "move"

abbrev pub value_style : Option UnendedAccess → List ℕ
value_style None = codes "move"
value_style (Some access) = value_by access.kind access.is_overlapped

-- the words of an access that ends, if it has any
abbrev pub value_words : Lane → ℕ → Option UnendedAccess → List ℕ → List Shape
value_words lane x before [] = []
value_words lane x before (byte ∷ words) = Label (value_style before) (point x (boxes_of lane + 12)) (byte ∷ words) ∷ []

-- some shapes of an access in a group with its title
abbrev pub titled : ShownAccess → List Shape → List Shape
titled access shapes = Note (access_title access) ∷ (shapes ++ End ∷ [])

-- the words of an access that begins
abbrev pub begun_shapes : Lane → ShownAccess → ℕ → List Shape
begun_shapes lane access x = titled access (move_words lane (x + 4) access)

-- the box of an access that ends, and what it gives
abbrev pub ended_shapes : Lane → Option UnendedAccess → ℕ → ShownAccess → ℕ → List Shape
ended_shapes lane before from access x = titled access (ended_box lane before from x ++ value_words lane (x + 4) before access.words.items)

-- the box of a whole access, and its words
abbrev pub whole_shapes : Lane → ShownAccess → ℕ → List Shape
whole_shapes lane access x =
    titled access (whole_box lane access x ∷ styled_words (value_by access.kind (begins_overlapped access)) lane (x + 7) access)

-- the box of an access that is open up to a place: where its band ends, or where the next access of its process takes its place
abbrev pub unended_box : Lane → Option UnendedAccess → ℕ → ℕ → List Shape
unended_box lane None from to = []
unended_box lane (Some access) from to = open_box lane access from to ∷ []

-- What an entry draws of an access. The words of one that begins are drawn over its box, and so after it. If an access is open that never ends, because its process failed, its box goes up to this one.
abbrev pub access_shapes : Lane → Option UnendedAccess → ℕ → ShownAccess → ℕ → AccessStep → List Shape
access_shapes lane before from access x step.Begin = unended_box lane before from x
access_shapes lane before from access x step.End = ended_shapes lane before from access x
access_shapes lane before from access x step.Whole = unended_box lane before from x ++ whole_shapes lane access x

-- an access, if a process makes it
abbrev pub made_by : ℕ → Option ShownAccess → Option ShownAccess
made_by p None = None
made_by p (Some access) = cond (access.process == p) (Some access) None

-- what a column draws of an access of its process, if it shows one
abbrev pub shapes_if : Lane → Option UnendedAccess → ℕ → ℕ → Option ShownAccess → List Shape
shapes_if lane before from x None = []
shapes_if lane before from x (Some access) = access_shapes lane before from access x access.step

-- the position at which the access that is open after a column began
abbrev pub from_next : ℕ → ℕ → Seen → ℕ
from_next p from column = cond (is_some (made_by p column.access)) column.x from

-- The accesses of a process from a place on, up to the end of its lane, where this one is open from there on.
abbrev pub accesses_from : Lane → ℕ → ℕ → Option UnendedAccess → ℕ → List Seen → List Shape
accesses_from lane p end before from [] = unended_box lane before from end
accesses_from lane p end before from (column ∷ columns) =
    shapes_if lane before from column.x (made_by p column.access)
    ++ accesses_from lane p end (open_next p before column) (from_next p from column) columns

-- the words of an access, if an entry begins it
abbrev pub begun_words : Layout → ℕ → ShownAccess → AccessStep → List Shape
begun_words layout x access step.Begin = begun_shapes (lane_in layout access.process) access x
begun_words layout x access _ = []

abbrev pub begun_if : Layout → ℕ → Option ShownAccess → List Shape
begun_if layout x None = []
begun_if layout x (Some access) = begun_words layout x access access.step

abbrev pub begun : Layout → Seen → List Shape
begun layout column = begun_if layout column.x column.access

-- a dot
abbrev pub dot : ℕ → ℕ → Shape
dot x y = path_from (codes "dot") (point (x - 3) y) (codes "a3 3 0 1 0 6 0a3 3 0 1 0 -6 0")

-- a tie from a box to one below it
abbrev pub tie : ℕ → ℕ → ℕ → List Shape
tie x upper lower = line_from (codes "tie") (point x (upper + 28)) (point x lower) ∷ dot x (upper + 28) ∷ dot x lower ∷ []

-- a tie between two boxes
abbrev pub tie_between : ℕ → ℕ → ℕ → List Shape
tie_between x box other = cond (nat_lt box other) (tie x box other) (tie x other box)

-- the tie from an access to that of a process, if it overlaps it
abbrev pub tie_to : Layout → ℕ → ShownAccess → ℕ → List Shape
tie_to layout x access p =
    cond (is_over access p) (tie_between x (boxes_of (lane_in layout access.process)) (boxes_of (lane_in layout p))) []

-- the ties to the accesses of the processes below a number
abbrev pub ties_to : Layout → ℕ → ShownAccess → ℕ → List Shape
ties_to layout x access zero = []
ties_to layout x access (suc p) = ties_to layout x access p ++ tie_to layout x access p

-- the ties of a column, if it shows an access
abbrev pub ties_of : Layout → ℕ → Option ShownAccess → List Shape
ties_of layout x None = []
ties_of layout x (Some access) = ties_to layout x access 16

abbrev pub ties : Layout → Seen → List Shape
ties layout column = ties_of layout column.x column.access
