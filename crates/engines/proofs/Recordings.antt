-- The record of a run as text, event by event, and as a whole.
use Rattle.std.proofs.Common.{◌≡◌, ℕ, List, [], ◌∷◌, ◌++◌, flat_map, reverse, Option, None, Some, Result, Ok, Err, IfErr, OnOk, refl, ap, sym, subst, ◌∙◌, append-nil}
use Rattle.std.proofs.lemmas.List.{reverse-reverse}
use Rattle.std.specs.Io.KnownBytes.{Appends}
use Rattle.scenario.specs.files.{Fault, WritesFront}
use Rattle.plain_store.specs.{Setup}
use Rattle.scenario_run.specs.model.declared.events.Event.TheVariants.{Step}
use Rattle.scenario_run.specs.model.{Entry, Past}
use Rattle.judge.specs.record_file.{entry_line, head_words, step_entry}
use Rattle.scenario.specs.{Script, printed_line}
use Rattle.scenario_run.specs.{Happening, Happens, Lacks, Looks, UnmarkedStep, StepsOn, ReportsOf, Tires, TurnReport, Tries, Writes, WritesPart, entry_made, happenings, past_after, run_record, reported_unmarked, tried}
use Rattle.engines.specs.{entries_text, entry_reported, lines_more, recorded}
use Rattle.scenario_run.specs.declared.reports.TurnReport.TheVariants as reported
use Rattle.scenario_run.proofs.Observers.{run_past}
use Rattle.scenario_run.proofs.Refusals.{past_kept}
use Rattle.scenario_run.proofs.Written.{all_written, appends_both, front_after, front_longer, part_written}

-- Turns.

-- the line of a turn is that of the entry that it adds
entry_is : (s : Setup) (before : List Happening) (this : Happening) (answer : TurnReport) → ReportsOf s (past_after s before) this answer → entries_text s (this ∷ before) ≡ entries_text s before ++ entry_reported answer
entry_is s before (Tries event) (reported.Accepted made) reports =
    ap (λ (o : Option Entry). flat_map entry_line (reverse (elim o as (λ _. Past) [ None ↦ past_after s before | Some e ↦ e ∷ past_after s before ]))) reports.1
    ∙ lines_more (entry_made made) (past_after s before)
entry_is s before (Tries event) (reported.Refused p r) reports = ap (λ (past : Past). flat_map entry_line (reverse past)) (past_kept s (tried before) event r reports.1) ∙ sym (append-nil (entries_text s before))
entry_is s before (Lacks p) (reported.Refused q r) reports = sym (append-nil (entries_text s before))
entry_is s before (Tires p) (reported.Tired q) reports = sym (append-nil (entries_text s before))
entry_is s before Looks (reported.Shown store) reports = sym (append-nil (entries_text s before))
entry_is s before this answer reports = absurd reports

-- the line of a Step without a mark is that of its entry
step_is : (s : Setup) (before : List Happening) (made : UnmarkedStep) → StepsOn s before made → entries_text s (Tries (Step made.process made.flick) ∷ before) ≡ entries_text s before ++ entry_line (step_entry made.process made.access)
step_is s before made on = entry_is s before (Tries (Step made.process made.flick)) (reported_unmarked made) (refl, on.adds, on.overlapped)

-- the line of a turn was written
pub entry_copied : (s : Setup) (before : List Happening) (this : Happening) (reported : TurnReport) (a b : Option (List ℕ)) → Happens s before this reported → Appends a b (entry_reported reported) → Writes (entries_text s before) (entries_text s (this ∷ before)) a b
entry_copied s before this reported a b h wrote = record { text = entry_reported reported; is = entry_is s before this reported h.reports; taken = wrote }

pub entry_cut : (s : Setup) (before : List Happening) (this : Happening) (reported : TurnReport) (a b : Option (List ℕ)) → Happens s before this reported → WritesFront a b (entry_reported reported) → WritesPart (entries_text s before) (entries_text s (this ∷ before)) a b
entry_cut s before this reported a b h front = record { text = entry_reported reported; is = entry_is s before this reported h.reports; front = front }

pub step_copied : (s : Setup) (before : List Happening) (made : UnmarkedStep) (a b : Option (List ℕ)) → StepsOn s before made → Appends a b (entry_line (step_entry made.process made.access)) → Writes (entries_text s before) (entries_text s (Tries (Step made.process made.flick) ∷ before)) a b
step_copied s before made a b on wrote = record { text = entry_line (step_entry made.process made.access); is = step_is s before made on; taken = wrote }

pub step_cut : (s : Setup) (before : List Happening) (made : UnmarkedStep) (a b : Option (List ℕ)) → StepsOn s before made → WritesFront a b (entry_line (step_entry made.process made.access)) → WritesPart (entries_text s before) (entries_text s (Tries (Step made.process made.flick) ∷ before)) a b
step_cut s before made a b on front = record { text = entry_line (step_entry made.process made.access); is = step_is s before made on; front = front }

-- The whole text.

-- the lines before the entries
abbrev pub head_text : Setup → List ℕ
head_text s = flat_map printed_line (head_words s)

whole_record : (said : Script) → recorded said ≡ head_text said.setup ++ entries_text said.setup (happenings said)
whole_record said = ap (λ l. head_text said.setup ++ flat_map entry_line l) (sym (reverse-reverse (run_record said)) ∙ ap reverse (run_past said))

-- the whole text was written
pub record_written : (said : Script) (a b c : Option (List ℕ)) → Appends a b (head_text said.setup) → Writes [] (entries_text said.setup (happenings said)) b c → Appends a c (recorded said)
record_written said a b c head w =
    let text : List ℕ = entries_text said.setup (happenings said) in
    subst (λ l. Appends a c l) (sym (whole_record said)) (appends_both a b c (head_text said.setup) text head (all_written text b c w))

-- a prefix of the text was written, which ends among the entries
pub record_cut : (said : Script) (a b c : Option (List ℕ)) → Appends a b (head_text said.setup) → WritesPart [] (entries_text said.setup (happenings said)) b c → WritesFront a c (recorded said)
record_cut said a b c head part =
    let text : List ℕ = entries_text said.setup (happenings said) in
    subst (λ l. WritesFront a c l) (sym (whole_record said)) (front_after a b c (head_text said.setup) text head (part_written text b c part))

-- a prefix of the text was written, which ends in the head
pub head_cut : (said : Script) (a b : Option (List ℕ)) → WritesFront a b (head_text said.setup) → WritesFront a b (recorded said)
head_cut said a b front = front_longer a b (head_text said.setup) (flat_map entry_line (run_record said)) front
