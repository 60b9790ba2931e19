-- The bars of a picture and the stages of a record.
use Rattle.std.specs.Prelude.{◌≡◌, ◌<◌, ℕ, ◌&&◌, ◌||◌, not, List, [], ◌∷◌, ◌++◌, flat_map}
use Rattle.std.specs.List.{AllByRecursion}
use Rattle.model.specs.{Past, stage}
use Rattle.picture.specs.Bandings.{Accesses, Item, Judges, Reads, Reports, columns_of, state_after}
use Rattle.picture.specs.Windows.{WindowPlan, begun_in, item_if, plan_at, precedes, shows_item, within}
use Rattle.picture.specs.declared.windows.Window.{Window}
use Rattle.picture_layout.specs.{LineContent, Seen, at_first, marks_in, marks_said, stage_among}

-- what the lines among items say, in their order
abbrev pub line_contents : List Item → List LineContent
line_contents [] = []
line_contents (Reports line ∷ before) = line_contents before ++ line.line_content ∷ []
line_contents (Reads read ∷ before) = line_contents before
line_contents (Accesses access ∷ before) = line_contents before
line_contents (Judges at verdict ∷ before) = line_contents before

-- the items that a picture of a window takes in: until the window begins those before it, and those that are shown
abbrev pub items_taken : Window → List Item → List Item
items_taken w [] = []
items_taken w (item ∷ before) =
    item_if (shows_item w item || (precedes w item && not (begun_in w before))) item (items_taken w before)

-- A column shows the state after the items that came up to some moment: right of it, where the bars of its band go on, the bar of each process is its stage in any record whose marks are those of the lines up to then.
pub record ShowsStages (processes : ℕ) (items : List Item) (column : Seen) : Type 0 where
  pub later : List Item
  pub before : List Item
  pub are : later ++ before ≡ items
  pub after : column.after ≡ state_after (at_first processes) before
  pub stages : (past : Past) → flat_map marks_said (line_contents before) ≡ marks_in past →
      (p : ℕ) → p < processes → p < 16 → stage_among column.after.stages p ≡ stage p past

-- So does each column of the picture of a window, after the items that it takes in.
abbrev pub BarsAreStages : Type 0
BarsAreStages = (plan : WindowPlan) (items : List Item) →
    AllByRecursion (ShowsStages plan.processes (items_taken plan.window items))
    (columns_of (plan_at plan items) (within plan.window items))
