-- The record that a record file contains, or its first fault.
-- Lines, words, skipped lines, headings and opening pairs are those of scenario files. A record file may have any number of lines.
use Rattle.std.specs.Prelude.{ℕ, ◌+◌, ◌==◌, ◌||◌, not, nat_lt, Bool, true, false, if◌then◌else◌, List, [], ◌∷◌, ◌++◌, length, codes, Option, Some, None, Result, Ok, Err}
use Rattle.std.specs.Char.{is_ascii_digit}
use Rattle.std.specs.Option.{option_to_list}
use Rattle.std.specs.Str.{bytes_eq}
use Rattle.plain_store.specs.{Setup}
use Rattle.files.specs.{FaultKind, Grammar, LineFault, at_line, begun, fault_if, known, lines, word, words_of, words_read, ◌>>=◌}
use Rattle.files.specs.declared.faults.FaultKind.TheVariants.{NotFirst, Unknown, TooLong}
use Rattle.model.specs.{Entry}
use Rattle.scenario.specs.{Heading, Opener, Progress as Head, at_version, heading_read, open_read, opener_of}
use Rattle.scenario.specs.declared.keywords.Opener.TheVariants as opener
use Rattle.record_file.specs.Reading.{entry_of}
use Rattle.record_file.specs.declared.line_kinds.LineKind.{LineKind}
use Rattle.record_file.specs.declared.line_kinds.LineKind.TheVariants as kind

-- the progress of a reader: the headings and opening pairs so far, whether an entry has ended them, and the entry of this line, if it is one
pub record Progress : Type 0 where
  pub head : Head
  pub ended : Bool
  pub entry : Option Entry

-- whether a word begins with a digit, as the first word of an entry does
abbrev pub begins_with_digit : List ℕ → Bool
begins_with_digit [] = false
begins_with_digit (b ∷ bs) = is_ascii_digit b

-- the kind of a line that scenario files have too, if record files have it: a heading, or an opening pair
abbrev pub kind_in : Option Opener → Option LineKind
kind_in (Some (opener.Heading heading)) = Some (kind.Heading heading)
kind_in (Some opener.Open) = Some kind.Open
kind_in other = None

-- the kind of a line, by its first word
abbrev pub kind_of : List ℕ → Option LineKind
kind_of first = if begins_with_digit first then Some kind.Entry else if bytes_eq first (codes "record") then Some kind.Record else kind_in (opener_of first)

-- `record 1` or `record 2`
unfoldable pub first_read : List ℕ → List (List ℕ) → Result Progress FaultKind
first_read first words = do
  named ← fault_if (not (bytes_eq first (codes "record")) || not (length words == 1)) NotFirst
  head ← at_version (word 0 words)
  Ok (record { head = head; ended = false; entry = None })

-- a heading, before all entries
unfoldable pub head_read : Heading → List (List ℕ) → Progress → Result Progress FaultKind
head_read heading words p = do
  in_place ← fault_if p.ended NotFirst
  head ← heading_read heading words p.head
  Ok (record p { head = head })

-- `open NAME VALUE`, in version 2 and before all entries
unfoldable pub pair_read : List (List ℕ) → Progress → Result Progress FaultKind
pair_read words p = do
  in_table ← fault_if (not (p.head.setup.version == 2)) Unknown
  in_place ← fault_if p.ended NotFirst
  head ← open_read words p.head
  Ok (record p { head = head })

-- an entry: no heading and no opening pair may follow it
abbrev pub entry_read : List ℕ → List (List ℕ) → Progress → Result Progress FaultKind
entry_read first words p = entry_of first words >>= λ entry. Ok (record p { ended = true; entry = Some entry })

-- a line after the first, by its kind
abbrev pub line_said : LineKind → List ℕ → List (List ℕ) → Progress → Result Progress FaultKind
line_said kind.Record first words p = Err NotFirst
line_said (kind.Heading heading) first words p = head_read heading words p
line_said kind.Open first words p = pair_read words p
line_said kind.Entry first words p = entry_read first words p

-- a line after the first
abbrev pub later_read : List ℕ → List (List ℕ) → Progress → Result Progress FaultKind
later_read first words p = known (kind_of first) >>= λ kind. line_said kind first words p

-- the grammar of record files
abbrev pub record_grammar : Grammar Progress
record_grammar = record { first = first_read; later = later_read }

-- the progress before the next line is read
abbrev pub cleared : Option Progress → Option Progress
cleared None = None
cleared (Some p) = Some (record p { entry = None })

-- the entry of the line that was read last, if it is one
abbrev pub entry_in : Option Progress → List Entry
entry_in None = []
entry_in (Some p) = option_to_list p.entry

-- a line, which has at most 128 bytes
abbrev pub line_read : List ℕ → Option Progress → Result (Option Progress) FaultKind
line_read line before = if nat_lt 128 (length line) then Err TooLong else words_read record_grammar (words_of line) before

-- the lines from number n on, after these entries
abbrev pub lines_read : ℕ → List (List ℕ) → Option Progress → List Entry → Result (Option Progress × List Entry) LineFault
lines_read n [] before entries = Ok (before, entries)
lines_read n (line ∷ rest) before entries = at_line n (line_read line before) >>= λ now. lines_read (n + 1) rest (cleared now) (entries ++ entry_in now)

-- a setup and the entries of a record, the oldest first
pub record Said : Type 0 where
  pub setup : Setup
  pub entries : List Entry

-- the record that was read; n is the number of the line after the last
abbrev pub said_by : ℕ → Option Progress × List Entry → Result Said LineFault
said_by n read = begun n read.0 >>= λ p. Ok (record { setup = p.head.setup; entries = read.1 })

-- the record that a text contains from its line number n on, given the progress and the entries before it
abbrev pub rest_read : ℕ → List ℕ → Option Progress → List Entry → Result Said LineFault
rest_read n text before entries = lines_read n (lines text) before entries >>= said_by (n + length (lines text))

-- the record that a whole text contains, or its first fault
abbrev pub record_of : List ℕ → Result Said LineFault
record_of text = rest_read 1 text None []
