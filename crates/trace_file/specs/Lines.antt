-- The parts of an entry without a fault, whose words are read one after the other.
use Rattle.std.specs.Prelude.{◌≡◌, ℕ, true, not, codes, List, [], ◌∷◌, ◌++◌, Some, Ok}
use Rattle.std.specs.List.{list_all}
use Rattle.files.specs.{words_of}
use Rattle.trace.specs.{CellAccess, CellMove, LockMark, TraceEntry, TraceRegister, begins_with_digit}
use Rattle.trace_file.specs.Reading.{access_of, entry_of, is_sign, marks_read, move_of, named_move_of, parts_of, value_of}
use Rattle.trace_file.specs.declared.keywords.MoveWord.{MoveWord}

-- words begin with this value, followed by the words of these bytes
pub record IsValue (words : List (List ℕ)) (value : ℕ) (behind : List ℕ) : Type 0 where
  pub first : List ℕ
  pub are : words ≡ first ∷ words_of behind
  pub says : value_of first ≡ Ok value

-- they begin with the word `gives` and this value
pub record IsGiven (words : List (List ℕ)) (value : ℕ) (behind : List ℕ) : Type 0 where
  pub first : List ℕ
  pub are : words ≡ codes "gives" ∷ first ∷ words_of behind
  pub says : value_of first ≡ Ok value

-- none of the words is a sign
abbrev pub AreUnsigned : List (List ℕ) → Type 0
AreUnsigned words = list_all (λ w. not (is_sign w)) words ≡ true

-- they begin with the operands of a move
pub record IsMove (name : MoveWord) (words : List (List ℕ)) (how : CellMove) (behind : List ℕ) : Type 0 where
  pub operands : List (List ℕ)
  pub are : words ≡ operands ++ words_of behind
  pub say : named_move_of name operands ≡ Ok how
  pub unsigned : AreUnsigned operands

-- they begin with an access
pub record IsAccess (registers : List TraceRegister) (words : List (List ℕ)) (access : CellAccess) (behind : List ℕ) : Type 0 where
  pub part : List (List ℕ)
  pub are : words ≡ part ++ words_of behind
  pub say : access_of registers part ≡ Ok (Some access)
  pub unsigned : AreUnsigned part

-- they are a move
pub record IsWholeMove (words : List (List ℕ)) (how : CellMove) : Type 0 where
  pub name : List ℕ
  pub operands : List (List ℕ)
  pub are : words ≡ name ∷ operands
  pub say : move_of (name ∷ operands) ≡ Ok how
  pub unsigned : AreUnsigned (name ∷ operands)

-- an entry with an access and no mark
abbrev pub access_alone : ℕ → CellAccess → TraceEntry
access_alone process access = record { process = process; access = Some access; marks = [] }

-- they are these marks, each after its sign
pub record AreMarks (words : List (List ℕ)) (marks : List LockMark) : Type 0 where
  pub parts : List (List (List ℕ))
  pub are : parts_of words ≡ [] ∷ parts
  pub say : marks_read 0 parts (Ok []) ≡ Ok marks

-- they are this entry
pub record IsEntry (registers : List TraceRegister) (words : List (List ℕ)) (entry : TraceEntry) : Type 0 where
  pub first : List ℕ
  pub behind : List (List ℕ)
  pub are : words ≡ first ∷ behind
  pub digit : begins_with_digit first ≡ true
  pub says : entry_of registers first behind ≡ Ok entry
