-- Files of lines: the part that all their grammars have in common.
-- The fault of a file is that of the first line with a fault. The faults of a line come in this order: a line that is too
-- long or comes too late, the faults of the grammar, and one line too many to keep.
use Rattle.std.specs.Prelude.{ℕ, ◌+◌, ◌||◌, nat_lt, if◌then◌else◌, List, [], ◌∷◌, ◌++◌, length, Option, Some, None, Result, Ok, Err}
use Rattle.files.specs.Checks.{◌>>=◌}
use Rattle.files.specs.Words.{lines, words_of, begins_with}
use Rattle.files.specs.declared.faults.FaultKind.{FaultKind}
use Rattle.files.specs.declared.faults.FaultKind.TheVariants.{NotFirst, TooLong}
use Rattle.files.specs.declared.faults.LineFault.{LineFault}

-- A grammar of lines: the value after the first line, and after a later line, given the value before it.
-- It sees a line as its first word and the words after it.
pub record Grammar (S : Type 0) : Type 0 where
  pub first : List ℕ → List (List ℕ) → Result S FaultKind
  pub later : List ℕ → List (List ℕ) → S → Result S FaultKind

-- a line that is not skipped: it is the first, if nothing was read before
abbrev pub statement_read : {S : Type 0} → Grammar S → List ℕ → List (List ℕ) → Option S → Result (Option S) FaultKind
statement_read g first words None = g.first first words >>= λ s. Ok (Some s)
statement_read g first words (Some before) = g.later first words before >>= λ s. Ok (Some s)

-- a line without words, and one whose first word begins with #, are skipped
abbrev pub words_read : {S : Type 0} → Grammar S → List (List ℕ) → Option S → Result (Option S) FaultKind
words_read g [] before = Ok before
words_read g (first ∷ words) before = if begins_with 35 first then Ok before else statement_read g first words before

-- line number n, which has at most 128 bytes and is one of the first 4,096
abbrev pub line_read : {S : Type 0} → Grammar S → ℕ → List ℕ → Option S → Result (Option S) FaultKind
line_read g n line before = if nat_lt 4096 n || nat_lt 128 (length line) then Err TooLong else words_read g (words_of line) before

-- a fault of line n
abbrev pub at_line : {A : Type 0} → ℕ → Result A FaultKind → Result A LineFault
at_line n (Ok x) = Ok x
at_line n (Err kind) = Err (record { line = n; kind = kind })

-- the lines from number n on
abbrev pub lines_read : {S : Type 0} → Grammar S → ℕ → List (List ℕ) → Option S → Result (Option S) LineFault
lines_read g n [] before = Ok before
lines_read g n (line ∷ rest) before = at_line n (line_read g n line before) >>= lines_read g (n + 1) rest

-- if all lines were skipped, the first one is missing: n is the number that it would have
abbrev pub begun : {S : Type 0} → ℕ → Option S → Result S LineFault
begun n None = Err (record { line = n; kind = NotFirst })
begun n (Some s) = Ok s

-- the value of a whole text, or its first fault
abbrev pub file_of : {S : Type 0} → Grammar S → List ℕ → Result S LineFault
file_of g text = lines_read g 1 (lines text) None >>= begun (length (lines text) + 1)

-- one more line, of which there are at most 4,000
abbrev pub one_more : {A : Type 0} → List A → A → Result (List A) FaultKind
one_more kept line = if nat_lt (length kept) 4000 then Ok (kept ++ line ∷ []) else Err TooLong
