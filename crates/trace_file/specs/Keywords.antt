-- The key words of trace files.
use Rattle.std.specs.Prelude.{ℕ, List, [], ◌∷◌, codes, Option}
use Rattle.std.specs.Map.{lookup}
use Rattle.std.specs.Str.{bytes_eq}
use Rattle.trace.specs.{LockMark, TraceMemory}
use Rattle.trace.specs.declared.marks.LockMark.TheVariants as mark
use Rattle.trace.specs.declared.setups.TraceMemory.TheVariants as memory
use Rattle.trace_file.specs.declared.keywords.MoveWord.{MoveWord}
use Rattle.trace_file.specs.declared.keywords.MoveWord.TheVariants as word
use Rattle.trace_file.specs.declared.keywords.TraceLineKind.{TraceLineKind}
use Rattle.trace_file.specs.declared.keywords.TraceLineKind.TheVariants as line

-- the first words of lines that are not entries
abbrev pub line_kinds : List (List ℕ × TraceLineKind)
line_kinds =
    (codes "processes", line.Processes)
    ∷ (codes "memory", line.Memory)
    ∷ (codes "register", line.Register)
    ∷ (codes "shared", line.Shared)
    ∷ (codes "trace", line.Trace)
    ∷ []

-- the memories
abbrev pub memories : List (List ℕ × TraceMemory)
memories = (codes "safe", memory.Safe) ∷ (codes "regular", memory.Regular) ∷ (codes "atomic", memory.Atomic) ∷ []

abbrev pub memory_of : List ℕ → Option TraceMemory
memory_of word = lookup (bytes_eq word) memories

-- the first words of moves
abbrev pub move_words : List (List ℕ × MoveWord)
move_words =
    (codes "write", word.Write)
    ∷ (codes "end", word.End)
    ∷ (codes "read", word.Read)
    ∷ (codes "value", word.Value)
    ∷ (codes "set", word.Set)
    ∷ (codes "get", word.Get)
    ∷ (codes "swap", word.Swap)
    ∷ (codes "add", word.Add)
    ∷ (codes "cas", word.Cas)
    ∷ []

abbrev pub move_word_of : List ℕ → Option MoveWord
move_word_of word = lookup (bytes_eq word) move_words

-- the words of marks
abbrev pub mark_words : List (List ℕ × LockMark)
mark_words =
    (codes "call", mark.Call)
    ∷ (codes "wait", mark.Wait)
    ∷ (codes "enter", mark.Enter)
    ∷ (codes "leave", mark.Leave)
    ∷ (codes "answer", mark.Answer)
    ∷ []

abbrev pub mark_word_of : List ℕ → Option LockMark
mark_word_of word = lookup (bytes_eq word) mark_words
