-- The first line of a text, taken from it byte by byte.
use Rattle.std.specs.Prelude.{◌≡◌, ◌<◌, ℕ, ◌==◌, not, Bool, true, if◌then◌else◌, List, [], ◌∷◌, ◌++◌, length}
use Rattle.std.specs.List.{list_all}
use Rattle.files.specs.Words.{lines}

-- whether a byte ends a line: 0x0A
abbrev pub ends_line : ℕ → Bool
ends_line b = b == 10

-- a byte other than 0x0A
abbrev pub is_inner : ℕ → Bool
is_inner b = not (b == 10)

-- the waiting bytes before the first 0x0A were appended to a line, and the bytes after it still wait
pub record MovesEnded (old new : List ℕ) (line longer : List ℕ) : Type 0 where
  pub part : List ℕ
  pub inner : list_all is_inner part ≡ true
  pub split : old ≡ part ++ 10 ∷ new
  pub moved : longer ≡ line ++ part

-- the waiting bytes contain no 0x0A, and all of them were appended to a line
pub record MovesAll (old new : List ℕ) (line longer : List ℕ) : Type 0 where
  pub inner : list_all is_inner old ≡ true
  pub none : new ≡ []
  pub moved : longer ≡ line ++ old

-- the bytes of a line without the 0x0D at their end, if there is one
abbrev pub without_return : List ℕ → List ℕ
without_return [] = []
without_return (b ∷ []) = if b == 13 then [] else b ∷ []
without_return (b ∷ c ∷ bs) = b ∷ without_return (c ∷ bs)

-- the first line of a text is this, and its other lines are those of this rest
abbrev pub TakesLine : List ℕ → List ℕ → List ℕ → Type 0
TakesLine text line rest = lines text ≡ line ∷ lines rest

-- the first line of a text has more than 128 bytes
pub record IsTooLong (text : List ℕ) : Type 0 where
  pub line : List ℕ
  pub others : List (List ℕ)
  pub is : lines text ≡ line ∷ others
  pub long : 128 < length line
