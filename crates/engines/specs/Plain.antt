-- The text of `plain` for a file.
use Rattle.std.specs.Prelude.{ℕ, ◌+◌, ◌==◌, nat_lt, if◌then◌else◌, List, [], ◌∷◌, ◌++◌, codes, replicate, slice_set, Result}
use Rattle.std.specs.Fmt.{decimal}
use Rattle.plain_store.specs.{Caller, Command, Contents, Setup, after, number_of, opening_store, reply_text, reply_to, show_text}
use Rattle.scenario_run.specs.model.{refusal_line}
use Rattle.scenario_run.specs.model.declared.refusals.Refusal.TheVariants.{NoProcess}
use Rattle.scenario.specs.{Line, Script, scenario_of}
use Rattle.scenario.specs.files.{LineFault, text_by}
use Rattle.scenario.specs.declared.lines.Line.TheVariants as line

-- The store, the number of calls applied, and the number of them of each process.
pub record Run : Type 0 where
  pub store : Contents
  pub place : ℕ
  pub counts : List ℕ

-- the caller of the next call of a process; in version 1 calls have no numbers
abbrev pub caller_of : Setup → Run → ℕ → Caller
caller_of setup run p = record { process = p; number = if setup.version == 1 then 0 else number_of run.counts p + 1 }

-- the line of a reply, the text for an applied call, and the text for any call, which is refused if its process does not exist
abbrev pub reply_line : ℕ → ℕ → List ℕ → List ℕ
reply_line place p reply = decimal place ++ codes " " ++ decimal p ++ codes " " ++ reply ++ codes "\n"

abbrev pub applied_text : Setup → Run → ℕ → Command → List ℕ
applied_text setup run p command = reply_line run.place p (reply_text (reply_to run.store command (caller_of setup run p)))

abbrev pub call_text : Setup → Run → ℕ → Command → List ℕ
call_text setup run p command = if nat_lt p setup.processes then applied_text setup run p command else refusal_line p NoProcess

-- the text for a line
abbrev pub line_text : Setup → Run → Line → List ℕ
line_text setup run (line.Call p command) = call_text setup run p command
line_text setup run line.Show = show_text run.store.pairs
line_text setup run other = []

-- one more call of a process
abbrev pub counted : Run → ℕ → Run
counted run p = record run { place = run.place + 1; counts = slice_set run.counts p (number_of run.counts p + 1) }

-- the run after a call that is applied
abbrev pub applied : Setup → Run → ℕ → Command → Run
applied setup run p command = counted (record run { store = after run.store command (caller_of setup run p) }) p

-- the run after a call
abbrev pub called : Setup → Run → ℕ → Command → Run
called setup run p command = if nat_lt p setup.processes then applied setup run p command else run

-- the run after a line
abbrev pub run_after : Setup → Run → Line → Run
run_after setup run (line.Call p command) = called setup run p command
run_after setup run other = run

-- the text for lines
abbrev pub text_from : Setup → Run → List Line → List ℕ
text_from setup run [] = []
text_from setup run (line ∷ lines) = line_text setup run line ++ text_from setup (run_after setup run line) lines

-- the opening store, and no call yet
abbrev pub run_at_start : Setup → Run
run_at_start setup = record { store = opening_store setup; place = 0; counts = replicate setup.processes 0 }

-- the text for a scenario
abbrev pub printed : Script → List ℕ
printed script = text_from script.setup (run_at_start script.setup) script.lines

-- the text of a file, or its fault
abbrev pub plain_text : List ℕ → Result (List ℕ) LineFault
plain_text = text_by scenario_of printed
