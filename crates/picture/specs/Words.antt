-- The words in the bars of a lane, the line of tickets, and the width of the signs at the foot of a column.
use Rattle.std.specs.Prelude.{ℕ, ◌+◌, ◌*◌, max, Bool, cond, nat_lt, List, [], ◌∷◌, ◌++◌, codes, length, take, Option, None, Some}
use Rattle.std.specs.Fmt.{decimal}
use Rattle.std.specs.List.{join_by}
use Rattle.model.specs.{Mark, stage_word}
use Rattle.model.specs.declared.marks.Mark.TheVariants as mark
use Rattle.picture_layout.specs.{ProcessGroup, RunLine, Seen, State, BarWord, capped, mark_reported, queue_of, settles_and_takes_in}
use Rattle.picture_layout.specs.declared.groups.BarWord.TheVariants as word

-- numbers, with these bytes between each two
abbrev pub listed_with : List ℕ → List ℕ → List ℕ
listed_with = join_by decimal

-- some processes: up to three by their numbers, and more by how many there are
abbrev pub group_text : ProcessGroup → List ℕ
group_text group = cond (nat_lt 3 group.count) (decimal group.count ++ codes " others") (listed_with (codes ",") (take group.count group.first))

-- the word in the bar of a process, if it has one
abbrev pub word_text : BarWord → Option (List ℕ)
word_text word.Nothing = None
word_text (word.Is stage) = Some (stage_word stage)
word_text (word.Behind group) = Some (codes "behind " ++ group_text group)
word_text (word.Awaits group) = Some (group_text group ++ codes " choosing")

-- the processes in the line of tickets, with single spaces
abbrev pub queue_text : State → List ℕ
queue_text state = listed_with (codes " ") (queue_of state)

-- the style of a row; a refusal has a style of its own
abbrev pub row_class : Bool → Bool → List ℕ
row_class is_verb is_refusal = cond is_verb (codes "verb") (codes "rest") ++ cond is_refusal (codes " no") []

-- how far the sign of a mark reaches to the right
abbrev pub mark_reach : Mark → ℕ
mark_reach (mark.Called command) = 8
mark_reach (mark.Answered answer) = 4
mark_reach mark.Failed = 6
mark_reach (mark.Settled value) = 9
mark_reach mark.Down = 2
mark_reach mark.Restarted = 5
mark_reach mark.Withdrew = 5
mark_reach (mark.Taken place reply) = capped (5 + 3 * length (decimal place))
mark_reach _ = 1

-- how far the sign of a line reaches to the right; a line without a mark has another sign
abbrev pub reach_by : Option Mark → ℕ
reach_by None = 6
reach_by (Some mark) = mark_reach mark

-- how far the signs at the foot of a column reach to the right
abbrev pub lines_reach : List RunLine → ℕ
lines_reach [] = 1
lines_reach (line ∷ lines) = max (reach_by (mark_reported line.line_content)) (lines_reach lines)

abbrev pub right_reach_of : Seen → ℕ
right_reach_of column = lines_reach column.lines

-- how far they reach to the left
abbrev pub left_reach_of : Seen → ℕ
left_reach_of column = cond (settles_and_takes_in column) 24 (right_reach_of column)
