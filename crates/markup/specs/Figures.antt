-- The shapes of a picture, and the text of each.
use Rattle.std.specs.Prelude.{◌≡◌, ℕ, List, [], ◌∷◌, ◌++◌, codes, flat_map, OnOk, Result}
use Rattle.std.specs.Fmt.{decimal}
use Rattle.markup.specs.Markup.{Said, marking_by, noting, said_text, empty_element_by, text_element_by}
use Rattle.markup.specs.declared.figures.Point.{Point}
use Rattle.markup.specs.declared.names.Key.TheVariants as key
use Rattle.markup.specs.declared.names.Tag.TheVariants as tag

-- a shape, its style first
pub data Shape : Type 0 where
  Path : List ℕ → List ℕ → Shape  -- a path with this description
  Block : List ℕ → Point → ℕ → ℕ → Shape  -- a box, by its upper left corner, its width and its height
  Pill : List ℕ → Point → ℕ → Shape  -- a box 16 pixels high with round ends
  Ring : List ℕ → Point → Shape  -- a ring of 5 pixels round a place
  Label : List ℕ → Point → List ℕ → Shape  -- words that begin at a place
  Mark : List Said → List ℕ → Shape  -- a mark begins: its attributes, and its line of the run
  Note : List ℕ → Shape  -- a group other than a mark begins, by its title
  End : Shape  -- a mark or a group ends

-- the place of a shape's upper left corner, or of the beginning of its words
abbrev pub place_said : Point → List Said
place_said at = (key.X, decimal at.x) ∷ (key.Y, decimal at.y) ∷ []

-- a style, and the other attributes of a tag
abbrev pub styled : List ℕ → List Said → List ℕ
styled style says = flat_map said_text ((key.Class, style) ∷ says)

-- a shape as text, on a line of its own
unfoldable pub drawn : Shape → List ℕ
drawn (Path style along) = empty_element_by tag.Path (styled style ((key.Path, along) ∷ []))
drawn (Block style corner width height) = empty_element_by tag.Rect (styled style (place_said corner ++ (key.Width, decimal width) ∷ (key.Height, decimal height) ∷ []))
drawn (Pill style corner width) = empty_element_by tag.Rect (styled style (place_said corner ++ (key.Width, decimal width) ∷ (key.Height, decimal 16) ∷ (key.Rx, decimal 8) ∷ []))
drawn (Ring style middle) = empty_element_by tag.Circle (styled style ((key.Cx, decimal middle.x) ∷ (key.Cy, decimal middle.y) ∷ (key.R, decimal 5) ∷ []))
drawn (Label style at text) = text_element_by tag.Text (styled style (place_said at)) text ++ codes "\n"
drawn (Mark says line) = marking_by (flat_map said_text says) line
drawn (Note title) = noting title
drawn End = codes "</g>\n"

-- a call adds a shape to markup, unless memory runs out
abbrev pub AddsShape : {A E : Type 0} → Result A E → List ℕ → Shape → List ℕ → Type 0
AddsShape result old shape new = OnOk result (new ≡ old ++ drawn shape)

-- shapes, one after the other
abbrev pub drawings : List Shape → List ℕ
drawings = flat_map drawn

-- a path from a place on
unfoldable pub path_from : List ℕ → Point → List ℕ → Shape
path_from style from rest = Path style (codes "M" ++ decimal from.x ++ codes " " ++ decimal from.y ++ rest)

-- a line from one place to another
unfoldable pub line_from : List ℕ → Point → Point → Shape
line_from style from to = path_from style from (codes "L" ++ decimal to.x ++ codes " " ++ decimal to.y)
