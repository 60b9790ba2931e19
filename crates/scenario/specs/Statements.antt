-- The meaning of the words of a line after the first one.
use Rattle.std.specs.Prelude.{ℕ, ◌-◌, ◌^◌, Bool, true, ◌==◌, nat_le, if◌then◌else◌, List, [], ◌∷◌, codes, Result, Ok, Err}
use Rattle.std.specs.Str.{bytes_eq}
use Rattle.plain_store.specs.{Command}
use Rattle.plain_store.specs.declared.commands.Command.TheVariants as command
use Rattle.files.specs.{FaultKind, counted, known, word, ◌>>=◌}
use Rattle.scenario.specs.Keywords.{verb_of, target_of}
use Rattle.scenario.specs.Operands.{number_at, integer_at, name_at, value_at}
use Rattle.files.specs.declared.faults.FaultKind.TheVariants.{Unknown, Words}
use Rattle.scenario.specs.declared.keywords.LineWord.{LineWord}
use Rattle.scenario.specs.declared.keywords.LineWord.TheVariants as opener
use Rattle.scenario.specs.declared.keywords.Verb.{Verb}
use Rattle.scenario.specs.declared.keywords.Verb.TheVariants as verb
use Rattle.choices.specs.declared.Flick.TheVariants as flick
use Rattle.scenario.specs.declared.lines.Line.{Line}
use Rattle.scenario.specs.declared.lines.Line.TheVariants as line

-- the number of words that follow the key word of a call
abbrev pub operand_count : Verb → ℕ
operand_count verb.Ask = 0
operand_count verb.Read = 1
operand_count verb.Write = 2
operand_count verb.Add = 2
operand_count verb.Cas = 3

-- the key words that calls of a version have
abbrev pub is_verb_of : ℕ → Verb → Bool
is_verb_of version verb.Ask = version == 2
is_verb_of version verb = true

-- the key word of a call
abbrev pub verb_at : ℕ → List ℕ → Result Verb FaultKind
verb_at version word = known (verb_of word) >>= λ verb. if is_verb_of version verb then Ok verb else Err Unknown

-- the command of a call, by the words after its key word, exactly as many as it takes
unfoldable pub command_of : Verb → List (List ℕ) → Result Command FaultKind
command_of verb.Ask words = Ok command.Ask
command_of verb.Read words = do
  name ← name_at (word 0 words)
  Ok (command.Read name)
command_of verb.Write words = do
  name ← name_at (word 0 words)
  value ← value_at (word 1 words)
  Ok (command.Write name value)
command_of verb.Add words = do
  name ← name_at (word 0 words)
  by ← integer_at (word 1 words)
  Ok (command.Add name by)
command_of verb.Cas words = do
  name ← name_at (word 0 words)
  expected ← value_at (word 1 words)
  value ← value_at (word 2 words)
  Ok (command.Cas name expected value)

-- `call p COMMAND`
unfoldable pub call_of : ℕ → List (List ℕ) → Result Line FaultKind
call_of version (p ∷ v ∷ operands) = do
  verb ← verb_at version v
  counts ← counted (operand_count verb) operands
  process ← number_at 255 p
  command ← command_of verb operands
  Ok (line.Call process command)
call_of version words = Err Words

-- `step p n`
unfoldable pub step_of : List (List ℕ) → Result Line FaultKind
step_of words = do
  counts ← counted 2 words
  process ← number_at 255 (word 0 words)
  steps ← number_at 100000 (word 1 words)
  Ok (line.Step process steps)

-- `go p TARGET`
unfoldable pub go_of : List (List ℕ) → Result Line FaultKind
go_of (p ∷ t ∷ more) = do
  target ← known (target_of t)
  counts ← counted 0 more
  process ← number_at 255 p
  Ok (line.Go process target)
go_of words = Err Words

-- `fail p`, `withdraw p` and `restart p`
unfoldable pub process_of : List (List ℕ) → Result ℕ FaultKind
process_of words = do
  counts ← counted 1 words
  number_at 255 (word 0 words)

-- `flick 0`, `flick 1`, `flick pcg n`
unfoldable pub flick_of : List (List ℕ) → Result Line FaultKind
flick_of [] = Err Words
flick_of (mode ∷ operands) =
    if bytes_eq mode (codes "0") then (counted 0 operands >>= λ counts. Ok (line.Flick flick.Zero))
    else if bytes_eq mode (codes "1") then (counted 0 operands >>= λ counts. Ok (line.Flick flick.One))
    else if bytes_eq mode (codes "pcg") then (counted 1 operands >>= λ counts. number_at (2 ^ 64 - 1) (word 0 operands) >>= λ seed. Ok (line.Flick (flick.Pcg seed)))
    else Err Unknown

-- `wander n`
unfoldable pub wander_of : List (List ℕ) → Result Line FaultKind
wander_of words = do
  counts ← counted 1 words
  turns ← number_at 100000 (word 0 words)
  Ok (line.Wander turns)

-- `show`
unfoldable pub show_of : List (List ℕ) → Result Line FaultKind
show_of words = do
  counts ← counted 0 words
  Ok line.Show

-- a line other than a heading or an opening pair, by its first word
abbrev pub line_of : ℕ → LineWord → List (List ℕ) → Result Line FaultKind
line_of version opener.Call words = call_of version words
line_of version opener.Step words = step_of words
line_of version opener.Go words = go_of words
line_of version opener.Fail words = process_of words >>= λ p. Ok (line.Fail p)
line_of version opener.Withdraw words = process_of words >>= λ p. Ok (line.Withdraw p)
line_of version opener.Restart words = process_of words >>= λ p. Ok (line.Restart p)
line_of version opener.Flick words = flick_of words
line_of version opener.Wander words = wander_of words
line_of version opener.Show words = show_of words

-- the key word of a command
abbrev pub verb_in : Command → Verb
verb_in (command.Read name) = verb.Read
verb_in (command.Write name value) = verb.Write
verb_in (command.Add name by) = verb.Add
verb_in (command.Cas name expected value) = verb.Cas
verb_in command.Ask = verb.Ask

-- the lines that a version has
abbrev pub is_line_of : ℕ → Line → Bool
is_line_of version (line.Call p command) = is_verb_of version (verb_in command)
is_line_of version (line.Step p n) = nat_le n 100000
is_line_of version (line.Wander n) = nat_le n 100000
is_line_of version line = true
