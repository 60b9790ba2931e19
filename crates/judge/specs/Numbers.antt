-- The numbers of the lines with the entries of a record.
use Rattle.std.specs.Prelude.{ℕ, ◌+◌, Bool, false, List, [], ◌∷◌, ◌++◌, cond}
use Rattle.files.specs.{lines, words_of}
use Rattle.record_file.specs.{begins_with_digit}

-- words are those of an entry: the first one begins with a digit
abbrev pub say_entry : List (List ℕ) → Bool
say_entry [] = false
say_entry (first ∷ words) = begins_with_digit first

-- the number of a line, if it is that of an entry
abbrev pub number_in : ℕ → List ℕ → List ℕ
number_in n line = cond (say_entry (words_of line)) (n ∷ []) []

-- the numbers of those lines that are entries; the first line has number n
abbrev pub numbers_from : ℕ → List (List ℕ) → List ℕ
numbers_from n [] = []
numbers_from n (line ∷ rest) = number_in n line ++ numbers_from (n + 1) rest

-- the numbers of the lines of a text that are its entries; skipped lines are counted
abbrev pub numbers_of : List ℕ → List ℕ
numbers_of text = numbers_from 1 (lines text)
