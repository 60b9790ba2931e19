-- The forms of lines: a key word of a table, and after it the operands that the table lists.
-- A form does not state whether the setup allows a register or a number of processes.
use Rattle.std.specs.Prelude.{◌≡◌, ℕ, Bool, true, false, ◌&&◌, codes, map, List, [], ◌∷◌, Option, Some, None, Result, Ok, Err}
use Rattle.std.specs.Borrow.{Bor}
use Rattle.std.specs.Option.{is_none}
use Rattle.std.specs.Result.{is_ok}
use Rattle.std.specs.Str.{bytes_eq}
use Rattle.files.specs.{FaultKind, KeyWord}
use Rattle.files.specs.declared.faults.FaultKind.TheVariants.{NotFirst, Unknown, Words, Number, BadName, BadValue, BadSetup, TooLong, Memory}
use Rattle.scenario.specs.{fault_of, has_row, number_at}
use Rattle.trace.specs.{begins_with_digit}
use Rattle.trace_file.specs.Reading.{mark_of, move_of, value_of}
use Rattle.trace_file.specs.TraceFiles.{cell_name_of, later_read, trace_begun}
use Rattle.trace_file.specs.declared.forms.TraceOperand.{TraceOperand}
use Rattle.trace_file.specs.declared.forms.TraceOperand.TheVariants as operand
use Rattle.trace_file.specs.declared.forms.TracePattern.{TracePattern}

-- the fault of a word as `gives`
abbrev pub key_fault : Bool → Option FaultKind
key_fault true = None
key_fault false = Some Unknown

-- the fault of a word as an operand, by the grammar
abbrev pub fault_at : TraceOperand → List ℕ → Option FaultKind
fault_at operand.Process w = fault_of (number_at 255 w)
fault_at operand.Count w = fault_of (number_at 255 w)
fault_at operand.Width w = fault_of (number_at 255 w)
fault_at operand.Value w = fault_of (value_of w)
fault_at operand.Name w = fault_of (cell_name_of w)
fault_at operand.Gives w = key_fault (bytes_eq w (codes "gives"))

-- whether words are these operands, each in its place
abbrev pub are_operands : List TraceOperand → List (List ℕ) → Bool
are_operands [] [] = true
are_operands [] (w ∷ words) = false
are_operands (o ∷ os) [] = false
are_operands (o ∷ os) (w ∷ words) = is_none (fault_at o w) && are_operands os words

-- key words, each with the operands after it
abbrev pub Phrases : Type 0
Phrases = List (List ℕ × List TraceOperand)

-- operands, the phrases of which one follows, and whether the line may end instead
pub record Form : Type 0 where
  pub operands : List TraceOperand
  pub phrases : Phrases
  pub may_end : Bool

-- whether words are a phrase of a table
abbrev pub is_phrase : Phrases → List ℕ → List (List ℕ) → Bool
is_phrase = has_row 2 are_operands

-- whether words are one of these phrases, or no words where the line may end
abbrev pub is_ending : Phrases → Bool → List (List ℕ) → Bool
is_ending phrases may_end [] = may_end
is_ending phrases may_end (w ∷ words) = is_phrase phrases w words

-- whether words are operands, followed by an ending
abbrev pub fits_form : List TraceOperand → Phrases → Bool → List (List ℕ) → Bool
fits_form [] phrases may_end words = is_ending phrases may_end words
fits_form (o ∷ os) phrases may_end [] = false
fits_form (o ∷ os) phrases may_end (w ∷ words) = is_none (fault_at o w) && fits_form os phrases may_end words

-- whether a line has a form of a table, by its first word and the words after it
abbrev pub has_form : List (List ℕ × Form) → List ℕ → List (List ℕ) → Bool
has_form = has_row 2 (λ form words. fits_form form.operands form.phrases form.may_end words)

-- the tables of the code, without their addresses
abbrev pub phrases_in : List (KeyWord (Bor (List TraceOperand))) → Phrases
phrases_in = map (λ row. (row.0.now, row.1.now))

abbrev pub forms_in : List (KeyWord TracePattern) → List (List ℕ × Form)
forms_in = map (λ row. (row.0.now, record { operands = row.1.operands.now; phrases = phrases_in row.1.phrases.now; may_end = row.1.may_end }))

-- the moves
abbrev pub moves : Phrases
moves =
    (codes "write", operand.Value ∷ [])
    ∷ (codes "end", [])
    ∷ (codes "read", [])
    ∷ (codes "value", operand.Value ∷ [])
    ∷ (codes "set", operand.Value ∷ [])
    ∷ (codes "get", operand.Value ∷ [])
    ∷ (codes "swap", operand.Value ∷ operand.Gives ∷ operand.Value ∷ [])
    ∷ (codes "add", operand.Value ∷ operand.Gives ∷ operand.Value ∷ [])
    ∷ (codes "cas", operand.Value ∷ operand.Value ∷ operand.Gives ∷ operand.Value ∷ [])
    ∷ []

-- the marks
abbrev pub marks : Phrases
marks = (codes "call", []) ∷ (codes "wait", []) ∷ (codes "enter", []) ∷ (codes "leave", []) ∷ (codes "answer", []) ∷ []

-- the memories
abbrev pub memory_phrases : Phrases
memory_phrases = (codes "safe", []) ∷ (codes "regular", []) ∷ (codes "atomic", []) ∷ []

-- the opening value of a register
abbrev pub openings : Phrases
openings = (codes "opens", operand.Value ∷ []) ∷ []

-- a register
abbrev pub a_register : Form
a_register = record { operands = operand.Name ∷ operand.Width ∷ []; phrases = openings; may_end = true }

-- the headings and registers
abbrev pub heads : List (List ℕ × Form)
heads =
    (codes "processes", record { operands = operand.Count ∷ []; phrases = []; may_end = true })
    ∷ (codes "memory", record { operands = []; phrases = memory_phrases; may_end = false })
    ∷ (codes "register", a_register)
    ∷ (codes "shared", a_register)
    ∷ []

-- whether a line has no fault, or only one of its setup
abbrev pub is_formed : {A : Type 0} → Result A FaultKind → Bool
is_formed (Ok read) = true
is_formed (Err BadSetup) = true
is_formed (Err NotFirst) = false
is_formed (Err Unknown) = false
is_formed (Err Words) = false
is_formed (Err Number) = false
is_formed (Err BadName) = false
is_formed (Err BadValue) = false
is_formed (Err TooLong) = false
is_formed (Err Memory) = false

-- The words after a cell are read exactly if they have the form of a move.
abbrev pub MovesHaveForms : Type 0
MovesHaveForms = (name : List ℕ) (words : List (List ℕ)) → is_ok (move_of (name ∷ words)) ≡ is_phrase moves name words

-- The words after a sign are read exactly if they have the form of a mark.
abbrev pub MarksHaveForms : Type 0
MarksHaveForms = (name : List ℕ) (words : List (List ℕ)) → is_ok (mark_of (name ∷ words)) ≡ is_phrase marks name words

-- After the first line, a line that does not begin with a digit has the form of a heading or a register exactly if it is formed.
abbrev pub HeadsHaveForms : Type 0
HeadsHaveForms = (first : List ℕ) (words : List (List ℕ)) → begins_with_digit first ≡ false → is_formed (later_read first words trace_begun) ≡ has_form heads first words
