-- The plans that `race` takes from a file, and the text of a race.
use Rattle.std.specs.Prelude.{ℕ, suc, ◌==◌, nat_lt, if◌then◌else◌, List, [], ◌∷◌, ◌++◌, codes, flat_map, map, Option, None, Some}
use Rattle.std.specs.Fmt.{decimal}
use Rattle.std.specs.List.{range_with_len}
use Rattle.plain_store.specs.{Answer, Command, Contents, Setup, answer_text, show_text}
use Rattle.scenario.specs.{Line, Script}
use Rattle.scenario.specs.declared.lines.Line.TheVariants as line
use Rattle.model.specs.{Placed, lists_of, refusal_line}
use Rattle.model.specs.declared.refusals.Refusal.TheVariants.{NoProcess}
use Rattle.call_check.specs.{Weighed, verdict_text}
use Rattle.std.specs.Global.{Vec}

-- the command of a line, if the line is a call of process p
abbrev pub called_of : ℕ → Line → List Command
called_of p (line.Call q command) = if q == p then command ∷ [] else []
called_of p other = []

-- plan p of a file: the commands of its `call` lines of process p, in order
abbrev pub plan_in : List Line → ℕ → List Command
plan_in lines p = flat_map (called_of p) lines

-- the plans of all processes
abbrev pub plans_in : Script → List (List Command)
plans_in said = map (plan_in said.lines) (range_with_len 0 said.setup.processes)

-- the text for a line: a call of a process that does not exist is refused
abbrev pub refused_text : Setup → Line → List ℕ
refused_text setup (line.Call p command) = if nat_lt p setup.processes then [] else refusal_line p NoProcess
refused_text setup other = []

-- the refused calls of a file, in its order
abbrev pub refused_lines : Setup → List Line → List ℕ
refused_lines setup lines = flat_map (refused_text setup) lines

-- a position, or `-` if there is none
abbrev pub place_text : Option ℕ → List ℕ
place_text None = codes "-"
place_text (Some place) = decimal place

-- an answer to process p
abbrev pub answer_line : ℕ → Option ℕ → Answer → List ℕ
answer_line p place answer = decimal p ++ codes " " ++ place_text place ++ codes " " ++ answer_text answer ++ codes "\n"

-- the line of an answer to process p, if there is one
abbrev pub answer_if_any : ℕ → Option ℕ → Option Answer → List ℕ
answer_if_any p place None = []
answer_if_any p place (Some answer) = answer_line p place answer

-- the text for a call of process p
abbrev pub call_text : ℕ → Placed → List ℕ
call_text p call = answer_if_any p call.place call.answer

-- the answers to process p, in the order of its calls
abbrev pub list_text : ℕ → List Placed → List ℕ
list_text p calls = flat_map (call_text p) calls

-- the answers of these lists, of which the first is that of process p
abbrev pub answers_from : ℕ → List (List Placed) → List ℕ
answers_from p [] = []
answers_from p (calls ∷ lists) = list_text p calls ++ answers_from (suc p) lists

-- the verdict
abbrev pub verdict_line : Weighed → List ℕ
verdict_line verdict = verdict_text verdict ++ codes "\n"

-- The text of a race: the calls that are refused, the answers of all lists, the store at the end, and the verdict on both.
abbrev pub race_text : Script → List (List Placed) → Contents → Weighed → List ℕ
race_text said lists image verdict = refused_lines said.setup said.lines ++ answers_from 0 lists ++ show_text image.pairs ++ verdict_line verdict

-- the text of a race, with the lists of a closing
abbrev pub raced_text : Script → List (Vec Placed) → Contents → Weighed → List ℕ
raced_text said vecs image verdict = race_text said (lists_of vecs) image verdict
