-- The lines of a text, and the words of a line.
use Rattle.std.specs.Prelude.{ℕ, Bool, false, not, ◌&&◌, ◌||◌, ◌==◌, if◌then◌else◌, List, [], ◌∷◌, length, filter, map}
use Rattle.std.specs.Borrow.{Bor}
use Rattle.std.specs.List.{slice_split}

-- whether the first byte is this one
abbrev pub begins_with : ℕ → List ℕ → Bool
begins_with b [] = false
begins_with b (c ∷ cs) = c == b

-- lines, with one more byte at the start of the first line
abbrev pub onto : ℕ → List (List ℕ) → List (List ℕ)
onto b [] = (b ∷ []) ∷ []
onto b (line ∷ rest) = (b ∷ line) ∷ rest

-- the lines of `b ∷ bs`, where those of `bs` are known: 0x0A ends a line, and a 0x0D before it is dropped
abbrev pub lines_with : ℕ → List ℕ → List (List ℕ) → List (List ℕ)
lines_with b bs known = if b == 10 then [] ∷ known else if (b == 13) && begins_with 10 bs then known else onto b known

-- The lines of a text, without their ends. After the last 0x0A there is a line only if there is a byte.
abbrev pub lines : List ℕ → List (List ℕ)
lines [] = []
lines (b ∷ bs) = lines_with b bs (lines bs)

-- a space or a tab
abbrev pub is_blank : ℕ → Bool
is_blank b = (b == 32) || (b == 9)

-- the words of a line: the parts between blanks that have a byte
abbrev pub words_of : List ℕ → List (List ℕ)
words_of line = filter (λ word. not (length word == 0)) (slice_split is_blank line)

-- words, as lists of bytes
abbrev pub texts : List (Bor (List ℕ)) → List (List ℕ)
texts = map (λ word. word.now)
