-- The effect of the lines of a bits file on a bit, and their text, one after another.
use Rattle.std.specs.Prelude.{ℕ, Bool, not, if◌then◌else◌, List, [], ◌∷◌, ◌++◌, codes}
use Rattle.safe_bit.specs.Cell.{Cell, cell_after, without_read, read_answer}
use Rattle.safe_bit.specs.declared.moves.Move.TheVariants as move
use Rattle.scenario.specs.{BitLine}
use Rattle.scenario.specs.declared.bit_files.BitLine.TheVariants.{Write, End, Settle, Read, Value, Drop}

-- whether the bit may take the call now
abbrev pub can_take : Cell → BitLine → Bool
can_take bit (Write v) = not bit.writing
can_take bit End = bit.writing
can_take bit (Settle v) = bit.writing
can_take bit Read = not bit.reading
can_take bit (Value flick) = bit.reading
can_take bit Drop = bit.reading

-- the bit after a call that is made
abbrev pub made : Cell → BitLine → Cell
made bit (Write v) = cell_after bit (move.BeginWrite v)
made bit End = cell_after bit move.EndWrite
made bit (Settle v) = cell_after bit (move.Settle v)
made bit Read = cell_after bit move.BeginRead
made bit (Value flick) = cell_after bit (move.EndRead (read_answer bit flick))
made bit Drop = without_read bit

-- the text of a call that is made: for the end of a read, its value
abbrev pub made_text : Cell → BitLine → List ℕ
made_text bit (Value flick) = if read_answer bit flick then codes "1\n" else codes "0\n"
made_text bit other = []

-- the bit after a line
abbrev pub bit_after : Cell → BitLine → Cell
bit_after bit line = if can_take bit line then made bit line else bit

-- the text of a line
abbrev pub bit_line_text : Cell → BitLine → List ℕ
bit_line_text bit line = if can_take bit line then made_text bit line else codes "refused\n"

-- the text of lines, each applied to the bit after those before it
abbrev pub cell_text_from : Cell → List BitLine → List ℕ
cell_text_from bit [] = []
cell_text_from bit (line ∷ lines) = bit_line_text bit line ++ cell_text_from (bit_after bit line) lines
