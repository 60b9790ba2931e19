-- The words of a move, as bytes of UTF-8.
use Rattle.std.specs.Prelude.{ℕ, Bool, true, false, List, [], ◌∷◌, ◌++◌, codes}
use Rattle.record_file.specs.scenario.{bit_word}
use Rattle.model.specs.safe_bit.{Move}
use Rattle.model.specs.safe_bit.declared.Move.TheVariants.{BeginWrite, EndWrite, BeginRead, EndRead, Settle}

-- The bytes of `→ `.
abbrev pub arrow : List ℕ
arrow = 226 ∷ 134 ∷ 146 ∷ 32 ∷ []

-- The bytes of ` ≠ `.
abbrev pub other_than : List ℕ
other_than = 32 ∷ 226 ∷ 137 ∷ 160 ∷ 32 ∷ []

-- The value last written, if another one was read.
abbrev pub unlike : Bool → Bool → List ℕ
unlike true true = []
unlike true false = other_than ++ bit_word true
unlike false true = other_than ++ bit_word false
unlike false false = []

-- The words of a move on a bit for which this value was last written or settled.
abbrev pub words_of : Bool → Move → List ℕ
words_of written (BeginWrite v) = codes "write " ++ bit_word v
words_of written EndWrite = []
words_of written BeginRead = codes "read"
words_of written (EndRead v) = arrow ++ (bit_word v ++ unlike written v)
words_of written (Settle v) = codes "settle " ++ bit_word v
