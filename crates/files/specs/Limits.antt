-- The lines of a text that are not skipped, and texts within the limits.
use Rattle.std.specs.Prelude.{◌≡◌, ◌≤◌, ℕ, ◌+◌, Bool, true, false, not, nat_le, if◌then◌else◌, List, [], ◌∷◌, length, filter, map}
use Rattle.std.specs.List.{list_all}
use Rattle.files.specs.Words.{lines, words_of, begins_with}

-- whether a line is not skipped: it has a word, and the first begins with no #
abbrev pub is_said : List (List ℕ) → Bool
is_said [] = false
is_said (first ∷ words) = not (begins_with 35 first)

-- the words of the lines of a text that are not skipped
abbrev pub said_words : List ℕ → List (List (List ℕ))
said_words text = filter is_said (map words_of (lines text))

-- The numbers of the lines that are not skipped, if the first of all these lines has number n.
abbrev pub said_numbers : ℕ → List (List ℕ) → List ℕ
said_numbers n [] = []
said_numbers n (line ∷ rest) = if is_said (words_of line) then n ∷ said_numbers (n + 1) rest else said_numbers (n + 1) rest

-- a line that is not too long
abbrev pub is_short : List ℕ → Bool
is_short line = nat_le (length line) 128

-- a text of 4,096 lines at most, none of them too long; skipped lines too
pub record IsWithinLimits (text : List ℕ) : Type 0 where
  pub few : length (lines text) ≤ 4096
  pub short : list_all is_short (lines text) ≡ true
