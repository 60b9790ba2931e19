-- The meaning of a trace file, or its first fault.
-- Lines, words, skipped lines and numbers are those of record files. The checks of a line are in the order of its faults: an
-- unknown word, a line out of order, the number of words, numbers, the name, the setup.
use Rattle.std.specs.Prelude.{ℕ, ◌+◌, ◌-◌, ◌^◌, ◌==◌, ◌||◌, ◌&&◌, not, nat_lt, Bool, true, false, if◌then◌else◌, List, [], ◌∷◌, ◌++◌, length, codes, Option, Some, None, Result, Ok, Err}
use Rattle.std.specs.Char.{is_ascii_digit}
use Rattle.std.specs.Int.{is_in_range}
use Rattle.std.specs.List.{list_any}
use Rattle.std.specs.Map.{lookup}
use Rattle.std.specs.Option.{option_map_or, option_to_list}
use Rattle.std.specs.Str.{bytes_eq}
use Rattle.files.specs.{FaultKind, Grammar, LineFault, at_line, begun, counted, fault_if, known, lines, word, words_of, words_read, ◌>>=◌}
use Rattle.files.specs.declared.faults.FaultKind.TheVariants.{NotFirst, Unknown, Words, BadName, BadSetup, TooLong}
use Rattle.scenario.specs.{number_at}
use Rattle.trace.specs.{TraceEntry, TraceRegister, TraceSetup, begins_with_digit, is_cell_name, is_register}
use Rattle.trace.specs.declared.setups.TraceMemory.TheVariants.{Safe}
use Rattle.trace_file.specs.Keywords.{line_kinds, memory_of}
use Rattle.trace_file.specs.Reading.{entry_of, key_at, value_of}
use Rattle.trace_file.specs.declared.keywords.TraceLineKind.{TraceLineKind}
use Rattle.trace_file.specs.declared.keywords.TraceLineKind.TheVariants as line

-- the part of a file that was read: the setup so far, the headings that were given, whether an entry has ended the registers, and
-- the entry of the last line, if it is one
pub record TraceProgress : Type 0 where
  pub setup : TraceSetup
  pub has_processes : Bool
  pub has_memory : Bool
  pub ended : Bool
  pub entry : Option TraceEntry

-- the kind of a line by its first word: an entry begins with a digit
abbrev pub kind_of : List ℕ → Option TraceLineKind
kind_of first = if begins_with_digit first then Some line.Entry else lookup (bytes_eq first) line_kinds

-- a trace of which only the first line was read
abbrev pub trace_begun : TraceProgress
trace_begun = record { setup = record { processes = 2; memory = Safe; registers = [] }; has_processes = false; has_memory = false; ended = false; entry = None }

-- `trace 1`
abbrev pub first_read : List ℕ → List (List ℕ) → Result TraceProgress FaultKind
first_read first words = if bytes_eq first (codes "trace") && ((length words == 1) && bytes_eq (word 0 words) (codes "1")) then Ok trace_begun else Err NotFirst

-- a register or an entry was read
abbrev pub is_declared : TraceProgress → Bool
is_declared p = p.ended || not (length p.setup.registers == 0)

-- `processes N`, at most once, and before registers and entries
unfoldable pub processes_read : List (List ℕ) → TraceProgress → Result TraceProgress FaultKind
processes_read words p = do
  in_place ← fault_if (p.has_processes || is_declared p) NotFirst
  counts ← counted 1 words
  n ← number_at 255 (word 0 words)
  fits ← fault_if (not (is_in_range 1 16 n)) BadSetup
  Ok (record p { setup = record p.setup { processes = n }; has_processes = true })

-- `memory M`, at most once, and before registers and entries
unfoldable pub memory_read : List (List ℕ) → TraceProgress → Result TraceProgress FaultKind
memory_read [] p = fault_if (p.has_memory || is_declared p) NotFirst >>= λ in_place. Err Words
memory_read (name ∷ words) p = do
  memory ← known (memory_of name)
  in_place ← fault_if (p.has_memory || is_declared p) NotFirst
  counts ← counted 0 words
  Ok (record p { setup = record p.setup { memory = memory }; has_memory = true })

-- the name of a register
abbrev pub cell_name_of : List ℕ → Result (List ℕ) FaultKind
cell_name_of w = if is_cell_name w then Ok w else Err BadName

-- the opening value of a register: 0 without `opens V`
abbrev pub opening_of : List (List ℕ) → Result ℕ FaultKind
opening_of words = if length words == 4 then value_of (word 3 words) else Ok 0

-- whether one of these registers has a name
abbrev pub has_name : List TraceRegister → List ℕ → Bool
has_name registers name = list_any (λ other. bytes_eq other.name name) registers

-- whether a setup allows this register as the next one
abbrev pub may_declare : TraceSetup → TraceRegister → Bool
may_declare s r = nat_lt (length s.registers) 64 && (is_register s.memory r && not (has_name s.registers r.name))

-- one more register
abbrev pub declared_read : TraceRegister → TraceProgress → Result TraceProgress FaultKind
declared_read r p = if may_declare p.setup r then Ok (record p { setup = record p.setup { registers = p.setup.registers ++ r ∷ [] } }) else Err BadSetup

-- `register NAME WIDTH opens V` or `shared NAME WIDTH opens V`, before entries
unfoldable pub register_read : Bool → List (List ℕ) → TraceProgress → Result TraceProgress FaultKind
register_read is_shared words p = do
  opens ← key_at 2 (codes "opens") words
  in_place ← fault_if p.ended NotFirst
  counts ← fault_if (not ((length words == 2) || (length words == 4))) Words
  width ← number_at 255 (word 1 words)
  value ← opening_of words
  name ← cell_name_of (word 0 words)
  declared_read (record { name = name; width = width; opens = value; is_shared = is_shared }) p

-- an entry, after which a heading or a register is a fault
abbrev pub entry_read : List ℕ → List (List ℕ) → TraceProgress → Result TraceProgress FaultKind
entry_read first words p = entry_of p.setup.registers first words >>= λ entry. Ok (record p { ended = true; entry = Some entry })

-- a line after the first, by its kind
abbrev pub line_said : TraceLineKind → List ℕ → List (List ℕ) → TraceProgress → Result TraceProgress FaultKind
line_said line.Trace first words p = Err NotFirst
line_said line.Processes first words p = processes_read words p
line_said line.Memory first words p = memory_read words p
line_said line.Register first words p = register_read false words p
line_said line.Shared first words p = register_read true words p
line_said line.Entry first words p = entry_read first words p

-- a line after the first
abbrev pub later_read : List ℕ → List (List ℕ) → TraceProgress → Result TraceProgress FaultKind
later_read first words p = known (kind_of first) >>= λ kind. line_said kind first words p

-- the grammar of trace files
abbrev pub trace_grammar : Grammar TraceProgress
trace_grammar = record { first = first_read; later = later_read }

-- before the next line is read
abbrev pub cleared : Option TraceProgress → Option TraceProgress
cleared None = None
cleared (Some p) = Some (record p { entry = None })

-- the entry of the line that was read last, if it is one
abbrev pub entry_in : Option TraceProgress → List TraceEntry
entry_in None = []
entry_in (Some p) = option_to_list p.entry

-- the number of that line, if it is an entry
abbrev pub number_in : ℕ → Option TraceProgress → List ℕ
number_in n None = []
number_in n (Some p) = option_map_or (λ entry. n ∷ []) p.entry []

-- a line, which has at most 128 bytes
abbrev pub line_read : List ℕ → Option TraceProgress → Result (Option TraceProgress) FaultKind
line_read line before = if nat_lt 128 (length line) then Err TooLong else words_read trace_grammar (words_of line) before

-- the setup and the entries of a trace, the oldest first, and the number of each entry's line
pub record TraceSaid : Type 0 where
  pub setup : TraceSetup
  pub entries : List TraceEntry
  pub numbers : List ℕ

-- the part of a file that was read, with its entries and the numbers of their lines
pub record TraceRead : Type 0 where
  pub last : Option TraceProgress
  pub entries : List TraceEntry
  pub numbers : List ℕ

-- the lines from number n on, after the part that was read before
abbrev pub lines_read : ℕ → List (List ℕ) → TraceRead → Result TraceRead LineFault
lines_read n [] before = Ok before
lines_read n (line ∷ rest) before = at_line n (line_read line before.last) >>= λ now. lines_read (n + 1) rest (record { last = cleared now; entries = before.entries ++ entry_in now; numbers = before.numbers ++ number_in n now })

-- the whole that was read; n is the number of the line after the last
abbrev pub said_by : ℕ → TraceRead → Result TraceSaid LineFault
said_by n read = begun n read.last >>= λ p. Ok (record { setup = p.setup; entries = read.entries; numbers = read.numbers })

-- the meaning of a text from its line number n on, after the part that was read before
abbrev pub rest_read : ℕ → List ℕ → TraceRead → Result TraceSaid LineFault
rest_read n text before = lines_read n (lines text) before >>= said_by (n + length (lines text))

-- The meaning of a whole trace file, or its first fault.
abbrev pub trace_said : List ℕ → Result TraceSaid LineFault
trace_said text = rest_read 1 text (record { last = None; entries = []; numbers = [] })
