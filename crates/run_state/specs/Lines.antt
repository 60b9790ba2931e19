-- The lines of a process: what each begins with, and those of its call.
use Rattle.std.specs.Prelude.{ℕ, List, [], ◌++◌, codes, slice_get, Option, None, Some}
use Rattle.std.specs.Fmt.{decimal}
use Rattle.plain_store.specs.{command_text, reply_text}
use Rattle.model.specs.{Taken}
use Rattle.calls.specs.{Called}

-- a line of p
abbrev pub process_line : ℕ → List ℕ → List ℕ
process_line p words = codes "process " ++ (decimal p ++ (codes " " ++ (words ++ codes "\n")))

-- a line of p, if there are words for it
abbrev pub line_if : ℕ → Option (List ℕ) → List ℕ
line_if p None = []
line_if p (Some words) = process_line p words

-- Its call.

-- which of its calls it is, its command, and the event with which it began
abbrev pub call_words : Called → List ℕ
call_words c = codes "call " ++ (decimal c.call ++ (codes " " ++ (command_text c.command ++ (codes " at " ++ decimal c.called))))

-- from which event something goes on, and up to which, if it has begun
abbrev pub span_words : List ℕ → Option ℕ → Option ℕ → Option (List ℕ)
span_words what None to = None
span_words what (Some from) None = Some (what ++ (codes " from " ++ decimal from))
span_words what (Some from) (Some to) = Some (what ++ (codes " from " ++ (decimal from ++ (codes " to " ++ decimal to))))

-- with which event something has happened, if it has
abbrev pub at_words : List ℕ → Option ℕ → Option (List ℕ)
at_words what None = None
at_words what (Some at) = Some (what ++ (codes " at " ++ decimal at))

-- the place at which its command is taken, the reply there, and the event
abbrev pub taken_words : List Taken → Option ℕ → Option ℕ → Option (List ℕ)
taken_words taken None at = None
taken_words taken (Some place) None = None
taken_words taken (Some place) (Some at) = elim (slice_get taken place) [
  | None ↦ None
  | Some t ↦ Some (codes "taken " ++ (decimal place ++ (codes " " ++ (reply_text t.reply ++ (codes " at " ++ decimal at)))))
]

-- the lines of a call of p
abbrev pub call_lines : ℕ → List Taken → Called → List ℕ
call_lines p taken c =
    process_line p (call_words c)
    ++ (line_if p (span_words (codes "doorway") c.accesses.doorway c.marks.door_end)
    ++ (line_if p (span_words (codes "inside") c.marks.entered c.marks.remaining)
    ++ (line_if p (taken_words taken c.marks.place c.marks.taken)
    ++ line_if p (at_words (codes "withdrew") c.marks.withdrew))))

-- the lines of its call, if it has one
abbrev pub open_lines : ℕ → List Taken → Option Called → List ℕ
open_lines p taken None = []
open_lines p taken (Some c) = call_lines p taken c
