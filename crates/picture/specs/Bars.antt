-- The bars of the lanes of a band, and the words in them.
use Rattle.std.specs.Prelude.{ℕ, zero, suc, ◌+◌, ◌-◌, ◌*◌, ◌/◌, Bool, true, false, ◌==◌, not, ◌&&◌, ◌||◌, cond, nat_le, nat_lt, List, [], ◌∷◌, ◌++◌, codes, length, Option, None, Some}
use Rattle.std.specs.Fmt.{decimal}
use Rattle.std.specs.Str.{bytes_eq}
use Rattle.model.specs.{Stage, stage_word}
use Rattle.model.specs.declared.stages.Stage.TheVariants as stage
use Rattle.markup.specs.{Block, Label, Point, Shape, line_from}
use Rattle.picture_layout.specs.{ProcessGroup, Lane, Seen, BarWord, bar_of, capped, stage_among, lies_in, word_of}
use Rattle.picture.specs.Words.{left_reach_of, right_reach_of, word_text}
use Rattle.picture_layout.specs.declared.groups.BarWord.TheVariants as word
use Rattle.picture.specs.declared.words.Stretch.{Stretch}

-- a point in a band
abbrev pub point : ℕ → ℕ → Point
point x y = record { x = x; y = y }

-- the height of the bar of a stage, in a lane with columns and in a thin one
abbrev pub full_height : Stage → ℕ
full_height stage.Inside = 24
full_height stage.Leaving = 8
full_height _ = 14

abbrev pub height_of : Lane → Stage → ℕ
height_of lane stage = cond lane.is_full (full_height stage) (full_height stage / 2)

-- a box that has the stage as its class, around the middle line of a lane; it is left out if it would have no width
abbrev pub stage_box : Lane → Stage → ℕ → ℕ → List Shape
stage_box lane stage from to =
    cond (nat_lt from to) (Block (stage_word stage) (point from (bar_of lane - height_of lane stage / 2)) (to - from) (height_of lane stage) ∷ []) []

-- the bar of a stage from one position to another; an idle process has a line instead
abbrev pub bar : Lane → Stage → ℕ → ℕ → List Shape
bar lane stage.Idle from to = line_from (codes "idle") (point from (bar_of lane)) (point to (bar_of lane)) ∷ []
bar lane stage from to = stage_box lane stage from to

-- whether two stages are the same
abbrev pub is_stage : Stage → Stage → Bool
is_stage a b = bytes_eq (stage_word a) (stage_word b)

-- The bars of a process, from a position to the end of its lane, where the process has this stage at the position. A bar ends
-- at the first column after which the process has another stage, and the bar of that stage begins there.
abbrev pub bars : Lane → ℕ → ℕ → Stage → ℕ → List Seen → List Shape
bars lane p end stage from [] = bar lane stage from end
bars lane p end stage from (column ∷ columns) = cond (is_stage (stage_among column.after.stages p) stage)
    (bars lane p end stage from columns)
    (bar lane stage from column.x ++ bars lane p end (stage_among column.after.stages p) column.x columns)

-- the rule between a lane and the one above it
abbrev pub lane_rule : Lane → ℕ → List Shape
lane_rule lane zero = []
lane_rule lane (suc p) = line_from (codes "rule") (point 8 lane.top) (point 1188 lane.top) ∷ []

-- the rule and the name to the left of a lane
abbrev pub lane_name : Lane → ℕ → List Shape
lane_name lane p =
    lane_rule lane p
    ++ Label (cond lane.is_full (codes "lane") (codes "thin")) (point 8 (bar_of lane + 4)) (codes "P" ++ decimal p) ∷ []

-- whether two groups of processes are the same, and whether two words of bars are
abbrev pub is_group : ProcessGroup → ProcessGroup → Bool
is_group a b = (a.count == b.count) && bytes_eq a.first b.first

abbrev pub is_word : BarWord → BarWord → Bool
is_word word.Nothing word.Nothing = true
is_word (word.Is a) (word.Is b) = is_stage a b
is_word (word.Behind a) (word.Behind b) = is_group a b
is_word (word.Awaits a) (word.Awaits b) = is_group a b
is_word _ _ = false

-- the style of a word: the word of a process that is inside is white, because its bar is dark
abbrev pub style_of_word : BarWord → List ℕ
style_of_word (word.Is stage.Inside) = codes "white"
style_of_word _ = codes "stage"

-- whether a text fits into a stretch that ends there, if this width is left free at its end
abbrev pub has_room_for : ℕ → ℕ → Stretch → List ℕ → Bool
has_room_for free to stretch text = nat_le (capped (6 * length text + stretch.pad + free + 3)) (to - stretch.from)

-- the word of a stretch, if it has one and the word fits
abbrev pub word_in : ℕ → ℕ → ℕ → Stretch → Option (List ℕ) → List Shape
word_in middle free to stretch None = []
word_in middle free to stretch (Some text) = cond (has_room_for free to stretch text) (Label (style_of_word stretch.word) (point (stretch.from + stretch.pad) middle) text ∷ []) []

-- the word of a stretch, if it was not written before
abbrev pub stretch_word : ℕ → ℕ → ℕ → Stretch → List Shape
stretch_word middle free to stretch = cond stretch.is_said [] (word_in middle free to stretch (word_text stretch.word))

-- whether the word of a stretch fits into it, and whether it is written in the stretch or was written before
abbrev pub has_word : ℕ → ℕ → Stretch → Option (List ℕ) → Bool
has_word free to stretch None = false
has_word free to stretch (Some text) = has_room_for free to stretch text

abbrev pub says_word : ℕ → ℕ → Stretch → Bool
says_word free to stretch = stretch.is_said || has_word free to stretch (word_text stretch.word)

-- the widths that are left free before and after a column; in the lane of the column, its signs lie there
abbrev pub free_left : ℕ → Seen → ℕ
free_left p column = cond (lies_in p column.lane) (left_reach_of column) 0

abbrev pub pad_behind : ℕ → Seen → ℕ
pad_behind p column = cond (lies_in p column.lane) (capped (right_reach_of column + 4)) 5

-- the stretch that begins at a column
abbrev pub stretch_at : ℕ → Seen → Stretch
stretch_at p column = record { from = column.x; pad = pad_behind p column; word = word_of column.after p; is_said = false }

-- whether a stretch ends at a column: the column lies in the lane, or the word after the column is another one
abbrev pub ends_at : ℕ → Stretch → Seen → Bool
ends_at p stretch column = lies_in p column.lane || not (is_word (word_of column.after p) stretch.word)

-- the stretch that begins at such a column; its word counts as written if it is the word of the stretch before, which was written
abbrev pub next_stretch : ℕ → Stretch → Seen → Stretch
next_stretch p stretch column =
    record (stretch_at p column) { is_said = is_word (word_of column.after p) stretch.word && says_word (free_left p column) column.x stretch }

-- The words of a process from a stretch on. Each is written in the first stretch into which it fits, and again once it has changed.
abbrev pub words_from : ℕ → ℕ → ℕ → Stretch → List Seen → List Shape
words_from p middle end stretch [] = stretch_word middle 0 end stretch
words_from p middle end stretch (column ∷ columns) = cond (ends_at p stretch column)
    (stretch_word middle (free_left p column) column.x stretch ++ words_from p middle end (next_stretch p stretch column) columns)
    (words_from p middle end stretch columns)
