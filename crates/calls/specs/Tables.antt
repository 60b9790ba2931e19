-- The table of the calls of a scenario's run, and the part of it that is written as the run continues.
use Rattle.std.specs.Prelude.{◌≡◌, ◌+◌, ◌^◌, ◌<◌, ◌≤◌, ℕ, List, [], ◌∷◌, ◌++◌, Option, None, Some, Result, length, refl}
use Rattle.std.proofs.Common.{ap, sym, ◌∙◌, arith, append-nil, append_assoc}
use Rattle.std.specs.Io.KnownBytes.{Appends}
use Rattle.plain_store.specs.{Setup}
use Rattle.model.specs.{Entry, Past, entry_of}
use Rattle.scenario.specs.files.{LineFault, WritesFront, text_by}
use Rattle.scenario.specs.{Script, scenario_of}
use Rattle.scenario_run.specs.{Accepted, Happening, Lacks, Looks, UnmarkedStep, Tires, TurnReport, Tries, entry_made, happenings, past_after}
use Rattle.scenario_run.specs.declared.reports.TurnReport.TheVariants as reported
use Rattle.calls.specs.Observing.{ComesInTurn, HasObserved, TableState, ended_call}
use Rattle.calls.specs.Lines.{ended_lines, line_of, table_text}
use Rattle.calls.specs.declared.called.EntryFacts.{EntryFacts}

-- the table of the calls of a scenario's run
abbrev pub tabled : Script → List ℕ
tabled said = table_text said.setup (past_after said.setup (happenings said))

-- the text of a file, or its fault
abbrev pub calls_text : List ℕ → Result (List ℕ) LineFault
calls_text = text_by scenario_of tabled

-- the past with the entry that is reported, if one is
abbrev pub past_with : Past → TurnReport → Past
past_with past (reported.Accepted made) = entry_made made ∷ past
past_with past (reported.Refused p refusal) = past
past_with past (reported.Tired p) = past
past_with past (reported.Shown store) = past

-- the line of the call that ends with it, if one does
abbrev pub reported_line : Setup → Past → TurnReport → List ℕ
reported_line s past (reported.Accepted made) = line_of (length past) (ended_call s past (entry_made made))
reported_line s past (reported.Refused p refusal) = []
reported_line s past (reported.Tired p) = []
reported_line s past (reported.Shown store) = []

-- the facts about a reported entry; it has marks, so the number that it read is left out
abbrev pub known_reported : Accepted → EntryFacts
known_reported made = record { overlapped = made.overlapped; read = None }

-- the facts about a Step without a mark
abbrev pub known_step : UnmarkedStep → EntryFacts
known_step made = record { overlapped = made.overlapped; read = made.number }

-- the entry that is reported, if one is, may come next
abbrev pub IsInTurn : Setup → Past → TurnReport → Type 0
IsInTurn s past (reported.Accepted made) = ComesInTurn s past (entry_made made) (known_reported made)
IsInTurn s past (reported.Refused p refusal) = Unit {0}
IsInTurn s past (reported.Tired p) = Unit {0}
IsInTurn s past (reported.Shown store) = Unit {0}

-- a table has observed what is reported, after any past, and the line of the call that ended was written
abbrev pub Reports : TurnReport → TableState → TableState → Option (List ℕ) → Option (List ℕ) → Type 0
Reports answer old new taken then =
    (past : Past) → HasObserved old past → IsInTurn old.setup past answer → HasObserved new (past_with past answer) × Appends taken then (reported_line old.setup past answer)

-- a prefix of that line was written
abbrev pub CutsReported : TurnReport → TableState → Option (List ℕ) → Option (List ℕ) → Type 0
CutsReported answer old taken then = (past : Past) → HasObserved old past → IsInTurn old.setup past answer → WritesFront taken then (reported_line old.setup past answer)

-- a table with this setup has observed all that has happened
pub record HasTabled (s : Setup) (happened : List Happening) (table : TableState) : Type 0 where
  pub setup : table.setup ≡ s
  pub observed : HasObserved table (past_after s happened)

-- the lines of the calls that have ended
abbrev pub lines_after : Setup → List Happening → List ℕ
lines_after s happened = ended_lines s (past_after s happened)

-- a run only adds to the lines
one_longer : (s : Setup) (before : List Happening) (this : Happening) → (text : List ℕ) × (lines_after s (this ∷ before) ≡ lines_after s before ++ text)
one_longer s before (Tries event) = by (entry_of s (past_after s before) event)
  where
    by : (o : Option Entry) → (text : List ℕ) × (ended_lines s (elim o as (λ _. Past) [ None ↦ past_after s before | Some e ↦ e ∷ past_after s before ]) ≡ lines_after s before ++ text)
    by None = ([], sym (append-nil (lines_after s before)))
    by (Some e) = (line_of (length (past_after s before)) (ended_call s (past_after s before) e), refl)
one_longer s before (Lacks p) = ([], sym (append-nil (lines_after s before)))
one_longer s before (Tires p) = ([], sym (append-nil (lines_after s before)))
one_longer s before Looks = ([], sym (append-nil (lines_after s before)))

pub lines_longer : (s : Setup) (before more : List Happening) → (text : List ℕ) × (lines_after s (more ++ before) ≡ lines_after s before ++ text)
lines_longer s before [] = ([], sym (append-nil (lines_after s before)))
lines_longer s before (this ∷ more) =
    let u = lines_longer s before more in
    let v = one_longer s (more ++ before) this in
    (u.0 ++ v.0, v.1 ∙ ap (λ l. l ++ v.0) u.1 ∙ append_assoc (lines_after s before) u.0 v.0)

-- where there is room for some entries, there is room for fewer
pub fewer : (n k more : ℕ) → k ≤ more → n + more < 2 ^ 64 → n + k < 2 ^ 64
fewer n k more less room = omega (arith, less, room)
