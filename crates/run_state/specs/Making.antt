-- The line of a scenario file that made an event, and how `state` writes it.
use Rattle.std.specs.Prelude.{◌≡◌, ◌<◌, ◌≤◌, ℕ, suc, ◌-◌, nat_le, nat_lt, Bool, true, false, ◌&&◌, List, [], ◌∷◌, ◌++◌, codes, length, slice_index, Option}
use Rattle.std.specs.Fmt.{decimal}
use Rattle.plain_store.specs.{Setup}
use Rattle.calls.specs.scenario.{Line, Script, line_words, spaced}
use Rattle.calls.specs.scenario_run.{LineMade, MadeNewest, Run, events_in, happenings, past_after, run_after, run_at_start, runs}

-- The number of the line that is followed by `after` lines, among the numbers of some lines.
abbrev pub number_in : List ℕ → ℕ → ℕ
number_in numbers after = slice_index numbers (length numbers - suc after)

-- whether a line makes event number e: before the line a run has fewer events, and after it that many or more
abbrev pub makes_event : Setup → ℕ → Line → Run → Bool
makes_event s e line run = nat_lt (events_in s run) e && nat_le e (events_in s (run_after s line run))

-- the line of the state: a line's number, how many events it has made, and its words
abbrev pub made_line : ℕ → ℕ → Line → List ℕ
made_line number made line = codes "line " ++ (decimal number ++ (codes " made " ++ (decimal made ++ (codes " " ++ (spaced (line_words line) ++ codes "\n")))))

-- Lines with these numbers are run one after another. One of them makes event number e, if there is such an event: its line of
-- the state.
abbrev pub making_line : List ℕ → Setup → ℕ → Run → List Line → List ℕ
making_line numbers s e run [] = []
making_line numbers s e run (line ∷ after) = elim (makes_event s e line run) [
  | true ↦ made_line (number_in numbers (length after)) (e - events_in s run) line
  | false ↦ making_line numbers s e (run_after s line run) after
]

-- The line of the state for the line that made the newest of `events` events is added to a text.
abbrev pub WritesMade : List ℕ → List Line → Option LineMade → ℕ → List ℕ → List ℕ → Type 0
WritesMade numbers lines newest events old new = (s : Setup) (run : Run) →
    MadeNewest s lines run_at_start run newest → events ≡ events_in s run → new ≡ old ++ making_line numbers s events run_at_start lines

-- The law of the making line.

-- Lines are run one after another. This one of them makes event number e, and it is the one that is written.
pub record IsMade (numbers : List ℕ) (s : Setup) (e : ℕ) (run : Run) (lines : List Line) : Type 0 where
  pub before : List Line
  pub line : Line
  pub after : List Line
  pub is : lines ≡ before ++ line ∷ after
  pub fewer : events_in s (runs s before run) < e
  pub enough : e ≤ events_in s (run_after s line (runs s before run))
  pub written : making_line numbers s e run lines ≡ made_line (number_in numbers (length after)) (e - events_in s (runs s before run)) line

-- A line makes each event of a script's run.
abbrev pub EventsAreMade : Type 0
EventsAreMade = (numbers : List ℕ) (said : Script) (e : ℕ) →
    0 < e → e ≤ length (past_after said.setup (happenings said)) → IsMade numbers said.setup e run_at_start said.lines
