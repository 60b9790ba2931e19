-- The words of an access, as bytes of UTF-8.
use Rattle.std.specs.Prelude.{ℕ, ◌==◌, cond, List, [], ◌∷◌, ◌++◌, codes, Option, None, Some}
use Rattle.std.specs.Fmt.{decimal}
use Rattle.trace.specs.{CellMove, value_read}
use Rattle.trace.specs.declared.accesses.CellMove.TheVariants.{Write, End, Read, Value, Set, Get, Swap, Add, Cas}

-- the bytes of `→ `
abbrev pub arrow : List ℕ
arrow = 226 ∷ 134 ∷ 146 ∷ 32 ∷ []

-- the bytes of ` ≠ `
abbrev pub other_than : List ℕ
other_than = 32 ∷ 226 ∷ 137 ∷ 160 ∷ 32 ∷ []

-- the words of a move before the value that it read
abbrev pub begin_words : CellMove → List ℕ
begin_words (Write v) = codes "write " ++ decimal v
begin_words End = []
begin_words Read = codes "read"
begin_words (Value v) = []
begin_words (Set v) = codes "set " ++ decimal v
begin_words (Get v) = codes "get "
begin_words (Swap new gives) = codes "swap " ++ decimal new ++ codes " "
begin_words (Add addend gives) = codes "add " ++ decimal addend ++ codes " "
begin_words (Cas expected new gives) = codes "cas " ++ decimal expected ++ codes " " ++ decimal new ++ codes " "

-- the value that was last written, if another one was read
abbrev pub unlike : ℕ → ℕ → List ℕ
unlike stored v = cond (v == stored) [] (other_than ++ decimal stored)

-- the value that was read, if one was
abbrev pub value_words : ℕ → Option ℕ → List ℕ
value_words stored None = []
value_words stored (Some v) = arrow ++ (decimal v ++ unlike stored v)

-- the words of a move on a cell that stored this value before it
abbrev pub words_of : ℕ → CellMove → List ℕ
words_of stored how = begin_words how ++ value_words stored (value_read how)
