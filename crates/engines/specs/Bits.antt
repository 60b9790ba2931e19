-- The text of `bits` for a file, by the safe rule alone.
use Rattle.std.specs.Prelude.{ℕ, Bool, true, false, not, if◌then◌else◌, List, [], ◌∷◌, ◌++◌, codes, Result}
use Rattle.safe_bit.specs.{Move, is_write_open, read_value}
use Rattle.safe_bit.specs.declared.moves.Move.TheVariants.{BeginWrite, EndWrite, BeginRead, EndRead}
use Rattle.safe_bit.specs.declared.moves.Move.TheVariants as move
use Rattle.scenario.specs.{BitLine, bits_of}
use Rattle.scenario.specs.files.{LineFault, text_by}
use Rattle.scenario.specs.declared.bit_files.BitLine.TheVariants.{Write, End, Settle, Read, Value, Drop}

-- the accesses made on the bit: its moves, the newest first, and whether a read is open
pub record BitRun : Type 0 where
  pub moves : List Move
  pub reading : Bool

-- no access yet
abbrev pub run_at_start : BitRun
run_at_start = record { moves = []; reading = false }

-- whether the call's condition holds: one write at a time, and one read at a time
abbrev pub is_in_turn : BitRun → BitLine → Bool
is_in_turn run (Write v) = not (is_write_open run.moves)
is_in_turn run End = is_write_open run.moves
is_in_turn run (Settle v) = is_write_open run.moves
is_in_turn run Read = not run.reading
is_in_turn run (Value flick) = run.reading
is_in_turn run Drop = run.reading

-- the value of the open read by the safe rule; the bit is initially 0
abbrev pub answer_of : BitRun → Bool → Bool
answer_of run flick = read_value false run.moves flick

-- the run after a call that is made; dropping a read adds no move
abbrev pub called : BitRun → BitLine → BitRun
called run (Write v) = record run { moves = BeginWrite v ∷ run.moves }
called run End = record run { moves = EndWrite ∷ run.moves }
called run (Settle v) = record run { moves = move.Settle v ∷ run.moves }
called run Read = record { moves = BeginRead ∷ run.moves; reading = true }
called run (Value flick) = record { moves = EndRead (answer_of run flick) ∷ run.moves; reading = false }
called run Drop = record run { reading = false }

-- the text of a call that is made: for the end of a read, its value
abbrev pub call_text : BitRun → BitLine → List ℕ
call_text run (Value flick) = if answer_of run flick then codes "1\n" else codes "0\n"
call_text run other = []

-- the run after a line: a call whose condition does not hold is not made
abbrev pub run_after : BitRun → BitLine → BitRun
run_after run line = if is_in_turn run line then called run line else run

-- the text of a line
abbrev pub line_text : BitRun → BitLine → List ℕ
line_text run line = if is_in_turn run line then call_text run line else codes "refused\n"

-- the text of lines, each after those before it
abbrev pub bits_text_from : BitRun → List BitLine → List ℕ
bits_text_from run [] = []
bits_text_from run (line ∷ lines) = line_text run line ++ bits_text_from (run_after run line) lines

-- the text of the lines of a file
abbrev pub bits_printed : List BitLine → List ℕ
bits_printed = bits_text_from run_at_start

-- the text of a bits file, or its fault
abbrev pub bits_text : List ℕ → Result (List ℕ) LineFault
bits_text = text_by bits_of bits_printed
