-- How the calls of a run are printed: a table of comma-separated values (RFC 4180).
use Rattle.std.specs.Prelude.{ℕ, ◌-◌, ◌==◌, Bool, ◌||◌, List, [], ◌∷◌, ◌++◌, codes, cond, flat_map, length, Option, None, Some}
use Rattle.std.specs.Fmt.{decimal}
use Rattle.std.specs.List.{list_any}
use Rattle.plain_store.specs.{Answer, Setup, answer_text, command_text}
use Rattle.model.specs.{Past, processes}
use Rattle.calls.specs.declared.called.Called.{Called}
use Rattle.calls.specs.Observing.{ended_call, open_call}

-- a comma or a quote
abbrev pub is_special : ℕ → Bool
is_special b = (b == 44) || (b == 34)

-- a quote twice, any other byte once
abbrev pub doubled : ℕ → List ℕ
doubled b = cond (b == 34) (34 ∷ 34 ∷ []) (b ∷ [])

-- a text as a field: one that contains a comma or a quote is enclosed in quotes, and its own quotes are doubled
abbrev pub field : List ℕ → List ℕ
field text = cond (list_any is_special text) (34 ∷ (flat_map doubled text ++ 34 ∷ [])) text

-- a number, or nothing
abbrev pub number_text : Option ℕ → List ℕ
number_text None = []
number_text (Some n) = decimal n

-- a number or nothing, after a comma
abbrev pub number_field : Option ℕ → List ℕ
number_field n = 44 ∷ number_text n

-- an answer, or nothing
abbrev pub answer_field : Option Answer → List ℕ
answer_field None = []
answer_field (Some a) = field (answer_text a)

-- the first of two numbers that exists
abbrev pub number_or : Option ℕ → ℕ → ℕ
number_or None n = n
number_or (Some k) n = k

-- the number of events after a call's `wait`, up to the one that ended its waiting, or up to the newest
abbrev pub waited : ℕ → Option ℕ → Option ℕ → Option ℕ
waited newest door_end wait_end = elim door_end [ None ↦ None | Some wait ↦ Some (number_or wait_end newest - wait) ]

-- the numbers of a call that follow its command and precede its answer
abbrev pub numbers : ℕ → Called → List (Option ℕ)
numbers newest c =
    Some c.called
    ∷ c.accesses.doorway
    ∷ c.marks.door_end
    ∷ c.marks.entered
    ∷ c.marks.taken
    ∷ c.marks.place
    ∷ c.marks.remaining
    ∷ c.marks.answered
    ∷ c.marks.failed
    ∷ c.marks.withdrew
    ∷ Some c.accesses.reads
    ∷ Some c.accesses.writes
    ∷ Some c.accesses.overlapped
    ∷ waited newest c.marks.door_end c.marks.wait_end
    ∷ c.accesses.waited_for
    ∷ []

-- the fields before them, and the line of a call, where the newest event has this number
abbrev pub call_head : Called → List ℕ
call_head c = decimal c.process ++ codes "," ++ decimal c.call ++ codes "," ++ field (command_text c.command)

abbrev pub call_line : ℕ → Called → List ℕ
call_line newest c =
    call_head c
    ++ flat_map number_field (numbers newest c)
    ++ codes "," ++ answer_field c.marks.answer ++ codes "\n"

-- the first line
abbrev pub header : List ℕ
header = codes "process,call,command,called,doorway,door_end,entered,taken,place,left,answered,failed,withdrew,reads,writes,overlapped,waited,waited_for,answer\n"

-- the line of a call, if there is one
abbrev pub line_of : ℕ → Option Called → List ℕ
line_of newest None = []
line_of newest (Some c) = call_line newest c

-- the lines of the calls that have ended, in the order of their ends
abbrev pub ended_lines : Setup → Past → List ℕ
ended_lines s [] = []
ended_lines s (e ∷ past) = ended_lines s past ++ line_of (length past) (ended_call s past e)

-- the lines of the calls that have not ended, by process
abbrev pub open_lines : Setup → Past → List ℕ
open_lines s past = flat_map (λ p. line_of (length past - 1) (open_call s p past)) (processes s)

-- the table of the calls of a run
abbrev pub table_text : Setup → Past → List ℕ
table_text s past = header ++ (ended_lines s past ++ open_lines s past)
