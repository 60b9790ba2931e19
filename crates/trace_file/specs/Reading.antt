-- The entry that the words of a line mean, or its first fault in the order of faults.
use Rattle.std.specs.Prelude.{ℕ, ◌+◌, ◌-◌, ◌^◌, nat_lt, not, ◌&&◌, Bool, if◌then◌else◌, List, [], ◌∷◌, ◌++◌, length, codes, Option, Some, None, Result, Ok, Err}
use Rattle.std.specs.Borrow.{Bor}
use Rattle.std.specs.List.{slice_range, slice_split}
use Rattle.std.specs.Str.{bytes_eq}
use Rattle.files.specs.{FaultKind, counted, fault_if, known, texts, word, ◌>>=◌}
use Rattle.files.specs.declared.faults.FaultKind.TheVariants.{Unknown, Words}
use Rattle.scenario.specs.{number_at}
use Rattle.trace.specs.{Cell, CellAccess, CellMove, LockMark, TraceEntry, TraceRegister}
use Rattle.trace.specs.declared.accesses.CellMove.TheVariants as move
use Rattle.trace_file.specs.Faults.{both}
use Rattle.trace_file.specs.Keywords.{mark_word_of, move_word_of}
use Rattle.trace_file.specs.declared.keywords.MoveWord.{MoveWord}
use Rattle.trace_file.specs.declared.keywords.MoveWord.TheVariants as name

-- a value of a cell
abbrev pub value_of : List ℕ → Result ℕ FaultKind
value_of = number_at (2 ^ 32 - 1)

-- if there is a word at this position, it is this key word: `gives` or `opens`
abbrev pub key_at : ℕ → List ℕ → List (List ℕ) → Result (Unit {0}) FaultKind
key_at i key words = fault_if (nat_lt i (length words) && not (bytes_eq (word i words) key)) Unknown

-- the word `NAME[...]`
abbrev pub indexed : List ℕ → List ℕ → List ℕ
indexed name index = name ++ (codes "[" ++ (index ++ codes "]"))

-- the bytes between the brackets, if a word is `NAME[...]`
abbrev pub index_in : List ℕ → List ℕ → List ℕ
index_in name w = slice_range w (length name + 1) (length w - 1)

-- whether a word is `NAME` of a shared register, or `NAME[...]` of another register
abbrev pub is_cell_of : List ℕ → TraceRegister → Bool
is_cell_of w r = bytes_eq w (if r.is_shared then r.name else indexed r.name (index_in r.name w))

-- the index in such a word
abbrev pub index_of : TraceRegister → List ℕ → Result (Option ℕ) FaultKind
index_of r w = if r.is_shared then Ok None else (number_at 255 (index_in r.name w) >>= λ n. Ok (Some n))

-- the cell that a word names, of the registers from number k on
abbrev pub cell_from : ℕ → List TraceRegister → List ℕ → Result Cell FaultKind
cell_from k [] w = Err Unknown
cell_from k (r ∷ rs) w = if is_cell_of w r then (index_of r w >>= λ index. Ok (record { register = k; index = index })) else cell_from (k + 1) rs w

-- no word after the key word of a move
abbrev pub no_value : CellMove → List (List ℕ) → Result CellMove FaultKind
no_value how words = counted 0 words >>= λ counts. Ok how

-- one value after it
abbrev pub one_value : List (List ℕ) → Result ℕ FaultKind
one_value words = counted 1 words >>= λ counts. value_of (word 0 words)

-- `K gives OLD` after it
unfoldable pub two_values : List (List ℕ) → Result (ℕ × ℕ) FaultKind
two_values words = do
  gives ← key_at 1 (codes "gives") words
  counts ← counted 3 words
  new ← value_of (word 0 words)
  old ← value_of (word 2 words)
  Ok (new, old)

-- `EXPECTED NEW gives OLD` after it
unfoldable pub cas_values : List (List ℕ) → Result (ℕ × ℕ × ℕ) FaultKind
cas_values words = do
  gives ← key_at 2 (codes "gives") words
  counts ← counted 4 words
  expected ← value_of (word 0 words)
  new ← value_of (word 1 words)
  old ← value_of (word 3 words)
  Ok (expected, new, old)

-- a move, by its key word and the words after it
abbrev pub named_move_of : MoveWord → List (List ℕ) → Result CellMove FaultKind
named_move_of name.Write words = one_value words >>= λ v. Ok (move.Write v)
named_move_of name.End words = no_value move.End words
named_move_of name.Read words = no_value move.Read words
named_move_of name.Value words = one_value words >>= λ v. Ok (move.Value v)
named_move_of name.Set words = one_value words >>= λ v. Ok (move.Set v)
named_move_of name.Get words = one_value words >>= λ v. Ok (move.Get v)
named_move_of name.Swap words = two_values words >>= λ v. Ok (move.Swap v.0 v.1)
named_move_of name.Add words = two_values words >>= λ v. Ok (move.Add v.0 v.1)
named_move_of name.Cas words = cas_values words >>= λ v. Ok (move.Cas v.0 v.1 v.2)

abbrev pub move_of : List (List ℕ) → Result CellMove FaultKind
move_of [] = Err Words
move_of (name ∷ words) = known (move_word_of name) >>= λ m. named_move_of m words

-- the access in these words, a cell and a move; without words there is no access
abbrev pub access_of : List TraceRegister → List (List ℕ) → Result (Option CellAccess) FaultKind
access_of registers [] = Ok None
access_of registers (cell ∷ words) = both (cell_from 0 registers cell) (move_of words) >>= λ read. Ok (Some (record { cell = read.0; how = read.1 }))

-- the mark in these words, of which there is one
abbrev pub mark_of : List (List ℕ) → Result LockMark FaultKind
mark_of [] = Err Words
mark_of (name ∷ words) = known (mark_word_of name) >>= λ m. counted 0 words >>= λ counts. Ok m

-- the sign before each mark, the word `:`
abbrev pub is_sign : List ℕ → Bool
is_sign w = bytes_eq w (codes ":")

-- the parts of a line between the signs
abbrev pub parts_of : List (List ℕ) → List (List (List ℕ))
parts_of = slice_split is_sign

-- the parts of the words after a sign, if there is a sign
abbrev pub parts_behind : Option (Bor (List (Bor (List ℕ)))) → List (List (List ℕ))
parts_behind None = []
parts_behind (Some words) = parts_of (texts words.now)

-- one more mark after n others; a line has at most four
abbrev pub with_mark : ℕ → Result (List LockMark) FaultKind → Result LockMark FaultKind → Result (List LockMark) FaultKind
with_mark n before m = both (both before m) (fault_if (not (nat_lt n 4)) Words) >>= λ read. Ok (read.0.0 ++ read.0.1 ∷ [])

-- the marks of some parts, after n others
abbrev pub marks_read : ℕ → List (List (List ℕ)) → Result (List LockMark) FaultKind → Result (List LockMark) FaultKind
marks_read n [] before = before
marks_read n (part ∷ parts) before = marks_read (n + 1) parts (with_mark n before (mark_of part))

-- the marks of the parts after an access
abbrev pub marks_behind : Option (Bor (List (Bor (List ℕ)))) → Result (List LockMark) FaultKind
marks_behind words = marks_read 0 (parts_behind words) (Ok [])

-- an entry of a process, an access and marks
abbrev pub entry_with : Result ℕ FaultKind → Result (Option CellAccess) FaultKind → Result (List LockMark) FaultKind → Result TraceEntry FaultKind
entry_with process access marks = both (both process access) marks >>= λ read. Ok (record { process = read.0.0; access = read.0.1; marks = read.1 })

-- an entry, by its first word and the parts after it: the first part is the access, each other part a mark
abbrev pub entry_by : List TraceRegister → List ℕ → List (List (List ℕ)) → Result TraceEntry FaultKind
entry_by registers process [] = Err Words
entry_by registers process (access ∷ marks) = entry_with (number_at 255 process) (access_of registers access) (marks_read 0 marks (Ok []))

-- The entry that a line means, by its first word and the words after it: an access, marks, or both.
abbrev pub entry_of : List TraceRegister → List ℕ → List (List ℕ) → Result TraceEntry FaultKind
entry_of registers process [] = Err Words
entry_of registers process (w ∷ words) = entry_by registers process (parts_of (w ∷ words))
