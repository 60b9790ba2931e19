-- Markup as it is read.
use Rattle.std.specs.Prelude.{ℕ, List, [], ◌∷◌, ◌++◌, codes}
use Rattle.markup.specs.Elements.{Stack, begun, ended, opens_in}
use Rattle.markup.specs.Markup.{tag_name}
use Rattle.markup.specs.Titles.{lines_in}
use Rattle.markup.specs.declared.names.Tag.{Tag}

-- a reading of markup: the titles of its marks, and the elements that are open after it, by those that are open before it
pub record Reading : Type 0 where
  pub lines : List (List ℕ)
  pub opens : Stack → Stack

abbrev pub reading : List ℕ → Reading
reading markup = record { lines = lines_in markup; opens = opens_in markup }

-- the reading of two parts of markup, one after the other
abbrev pub joined : Reading → Reading → Reading
joined read more = record { lines = read.lines ++ more.lines; opens = λ stack. more.opens (read.opens stack) }

-- a reading, with this markup after it
abbrev pub followed_by : List ℕ → Reading → Reading
followed_by more read = joined read (reading more)

-- a reading, with these lines after it
abbrev pub with_lines : List (List ℕ) → Reading → Reading
with_lines lines read = record { lines = read.lines ++ lines; opens = read.opens }

-- a reading, with tags after it that change the open elements in this way
abbrev pub with_tags : (Stack → Stack) → Reading → Reading
with_tags change read = record { lines = read.lines; opens = λ stack. change (read.opens stack) }

-- a reading, with markup after it that has no mark
abbrev pub with_tags_of : List ℕ → Reading → Reading
with_tags_of more = with_tags (opens_in more)

-- a reading, after an element begins or ends
abbrev pub with_begun : List ℕ → Reading → Reading
with_begun name = with_tags (begun name)

abbrev pub with_ended : List ℕ → Reading → Reading
with_ended name = with_tags (ended name)

-- a reading, after a tag's element begins
abbrev pub with_entered : Tag → Reading → Reading
with_entered tag = with_begun (tag_name tag)

-- the name of a group
abbrev pub group : List ℕ
group = codes "g"

-- a reading, after a mark with this line begins
abbrev pub with_mark : List ℕ → Reading → Reading
with_mark line read = with_begun group (with_lines (line ∷ []) read)
