-- The lines of reasons that all judges have, and whose reasons they are.
use Rattle.std.specs.Prelude.{◌≡◌, ℕ, List, [], ◌∷◌, ◌++◌, codes, length, reverse, slice_get, Option, Some, None}
use Rattle.std.specs.Fmt.{decimal}
use Rattle.plain_store.specs.{Setup}
use Rattle.model.specs.{Entry, Past, Stage, stage_word}
use Rattle.record_file.specs.{entry_line}

-- a word and a number
abbrev pub number_line : List ℕ → ℕ → List ℕ
number_line word n = word ++ (codes " " ++ (decimal n ++ codes "\n"))

-- two words
abbrev pub word_line : List ℕ → List ℕ → List ℕ
word_line name word = name ++ (codes " " ++ (word ++ codes "\n"))

-- a word and an entry, spelled as in a record
abbrev pub named_entry : List ℕ → Entry → List ℕ
named_entry name e = name ++ (codes " " ++ entry_line e)

-- the number of the line of the bad entry, and that entry
abbrev pub bad_lines : ℕ → Entry → List ℕ
bad_lines n e = number_line (codes "line") n ++ named_entry (codes "is") e

-- the stage of its process, if that exists
abbrev pub stage_line : Option Stage → List ℕ
stage_line None = []
stage_line (Some stage) = word_line (codes "stage") (stage_word stage)

-- these are the lines of the reasons of the bad entry of a record: entry k, in the line with its number, after the entries before it
pub record AreLinesAt (Are : Setup → Past → ℕ → Entry → List ℕ → Type 0) (s : Setup) (entries : List Entry) (numbers : List ℕ) (k : ℕ) (lines : List ℕ) : Type 0 where
  pub entry : Entry
  pub past : Past
  pub later : Past
  pub splits : reverse entries ≡ later ++ entry ∷ past
  pub place : length past ≡ k
  pub number : ℕ
  pub line : slice_get numbers k ≡ Some number
  pub are : Are s past number entry lines
