-- The record of a scenario's run as text, and the part of it that is written during the run.
use Rattle.std.specs.Prelude.{◌≡◌, ℕ, List, [], ◌∷◌, ◌++◌, flat_map, reverse, Option, None, Some, Result}
use Rattle.std.proofs.Common.{ap, sym, ◌∙◌, append-nil, append_assoc}
use Rattle.std.proofs.lemmas.Grind.{flat_map-append}
use Rattle.std.proofs.lemmas.List.{reverse-append}
use Rattle.plain_store.specs.{Setup}
use Rattle.judge.specs.record_file.{entry_line, record_text, step_entry}
use Rattle.scenario.specs.files.{LineFault, text_by}
use Rattle.scenario.specs.{Script, scenario_of}
use Rattle.scenario_run.specs.{Happening, Lacks, Looks, Tires, TurnReport, Tries, entry_made, past_after, run_record}
use Rattle.scenario_run.specs.model.{Access, Entry, Past, entry_of}
use Rattle.scenario_run.specs.declared.reports.TurnReport.TheVariants as reported

-- the text of the record of a scenario's run: its setup, and a line for each entry
abbrev pub recorded : Script → List ℕ
recorded said = record_text said.setup (run_record said)

-- the text of a file, or its fault
abbrev pub recording_text : List ℕ → Result (List ℕ) LineFault
recording_text = text_by scenario_of recorded

-- the lines of the entries of the run so far, the oldest first
abbrev pub entries_text : Setup → List Happening → List ℕ
entries_text s happened = flat_map entry_line (reverse (past_after s happened))

-- the line of the entry of a turn, if it has one
abbrev pub entry_reported : TurnReport → List ℕ
entry_reported (reported.Accepted made) = entry_line (entry_made made)
entry_reported (reported.Refused p refusal) = []
entry_reported (reported.Tired p) = []
entry_reported (reported.Shown store) = []

-- the line of the entry of a Step
abbrev pub step_line : ℕ → Access → List ℕ
step_line p access = entry_line (step_entry p access)

-- the lines after one more entry, and after more of the run
pub lines_more : (e : Entry) (past : Past) → flat_map entry_line (reverse (e ∷ past)) ≡ flat_map entry_line (reverse past) ++ entry_line e
lines_more e past =
    ap (flat_map entry_line) (reverse-append (e ∷ []) past) ∙ flat_map-append entry_line (reverse past) (e ∷ [])
    ∙ ap (λ l. flat_map entry_line (reverse past) ++ l) (append-nil (entry_line e))

one_longer : (s : Setup) (before : List Happening) (this : Happening) → (text : List ℕ) × (entries_text s (this ∷ before) ≡ entries_text s before ++ text)
one_longer s before (Tries event) = by (entry_of s (past_after s before) event)
  where
    by : (o : Option Entry) → (text : List ℕ) × (flat_map entry_line (reverse (elim o as (λ _. Past) [ None ↦ past_after s before | Some e ↦ e ∷ past_after s before ])) ≡ entries_text s before ++ text)
    by None = ([], sym (append-nil (entries_text s before)))
    by (Some e) = (entry_line e, lines_more e (past_after s before))
one_longer s before (Lacks p) = ([], sym (append-nil (entries_text s before)))
one_longer s before (Tires p) = ([], sym (append-nil (entries_text s before)))
one_longer s before Looks = ([], sym (append-nil (entries_text s before)))

pub entries_longer : (s : Setup) (before more : List Happening) → (text : List ℕ) × (entries_text s (more ++ before) ≡ entries_text s before ++ text)
entries_longer s before [] = ([], sym (append-nil (entries_text s before)))
entries_longer s before (this ∷ more) =
    let u = entries_longer s before more in
    let v = one_longer s (more ++ before) this in
    (u.0 ++ v.0, v.1 ∙ ap (λ l. l ++ v.0) u.1 ∙ append_assoc (entries_text s before) u.0 v.0)
