-- The lines of a report, which is what a judge prints, and the words and numbers in them.
use Rattle.std.specs.Prelude.{ℕ, ◌+◌, ◌*◌, ◌-◌, ◌^◌, ◌==◌, ◌&&◌, cond, min, nat_le, List, [], ◌∷◌, ◌++◌, codes, drop, length, map, take, Option, None, Some}
use Rattle.std.specs.Char.{is_ascii_digit}
use Rattle.std.specs.Option.{option_or}
use Rattle.std.specs.Str.{bytes_eq}
use Rattle.bstr.specs.Text.{lines_of, without_terminator}

-- the lines of a report, without their ends
abbrev pub report_lines : List ℕ → List (List ℕ)
report_lines report = map without_terminator (lines_of report)

-- a line of a judge, as the text of the picture has it
abbrev pub judged_text : List ℕ → List ℕ
judged_text line = codes "judge " ++ line

-- the rest of a line after a word, if the line begins with the word
abbrev pub behind : List ℕ → List ℕ → Option (List ℕ)
behind word line =
    cond (nat_le (length word) (length line) && bytes_eq (take (length word) line) word)
    (Some (drop (length word) line))
    None

-- the rest of the first line that begins with the word
abbrev pub text_behind : List ℕ → List (List ℕ) → Option (List ℕ)
text_behind word [] = None
text_behind word (line ∷ lines) = option_or (behind word line) (text_behind word lines)

-- the rest of a text after its first space
abbrev pub behind_space : List ℕ → List ℕ
behind_space [] = []
behind_space (b ∷ bs) = cond (b == 32) bs (behind_space bs)

-- the number whose digits a text begins with, after those of n; a number that 64 bits do not hold is the greatest that they hold
abbrev pub number_from : ℕ → List ℕ → ℕ
number_from n [] = n
number_from n (b ∷ bs) =
    cond (is_ascii_digit b)
    (number_from (min (min (n * 10) (2 ^ 64 - 1) + (b - 48)) (2 ^ 64 - 1)) bs)
    n

abbrev pub number_of : List ℕ → ℕ
number_of = number_from 0

-- the process whose number a text begins with; 255 represents any greater number
abbrev pub process_of : List ℕ → ℕ
process_of text = min (number_of text) 255
