-- The report of a turn is drawn as the part that the turn adds.
use Rattle.std.proofs.Common.{◌≡◌, ◌+◌, ℕ, zero, suc, false, refl, List, [], ◌∷◌, ◌++◌, Option, None, Some, ap, sym, subst, ◌∙◌, arith, add-zero}
use Rattle.model.specs.plain_store.{Setup}
use Rattle.model.specs.{Access, Entry, Event, Past, Refusal, added, process_of, refused}
use Rattle.model.specs.declared.events.Event.TheVariants.{Step}
use Rattle.model.proofs.Width.{is_good}
use Rattle.judge.specs.safe_monitor.{entry_by}
use Rattle.picture.specs.declared.reads.Reads.{Reads as Mode}
use Rattle.scenario_run.specs.{Happening, Happens, IsQuiet, Lacks, Looks, PassQuietly, UnmarkedStep, StepsOn, ReportsOf, Tires, TurnReport, Tries, counted, entry_made, newest_words, past_after, tried}
use Rattle.scenario_run.specs.Writing.{Counts}
use Rattle.scenario_run.specs.declared.reports.TurnReport.TheVariants as reported
use Rattle.scenario_run.proofs.Counting.{counts_observed, counts_passed, counts_stepped}
use Rattle.draw.specs.{Drawing, DrawsPart, DrawsReported, HasDrawn, HasDrawnRun, Kept, Part, PartEntry, PartLine, Recalls, RunDrawing, SaysRefusal, SaysStore, SaysTired, ReportsEnd, ReportsReads, AccessView, entries_among, kept, observes, part_of_event, part_reported, parts_at, parts_of, tally}
use Rattle.draw.proofs.Drawings.{drawn_more, drawn_none, drawn_quiet, recalls_passed}
use Rattle.draw.proofs.OverlapsReported.{made_reports, stepped_reports}
use Rattle.draw.proofs.RunReported.{entries_of_run}

-- a turn reports the part that it adds
pub part_is : (s : Setup) (before : List Happening) (this : Happening) (answer : TurnReport) → Happens s before this answer → parts_of s (this ∷ before) ≡ part_reported answer ∷ parts_of s before
part_is s before this answer h = ap (λ l. l ++ parts_of s before) (by this answer h.reports)
  where
    past : Past
    past = past_after s before

    by : (this : Happening) (answer : TurnReport) → ReportsOf s past this answer → parts_at s past this ≡ part_reported answer ∷ []
    by (Tries event) (reported.Accepted made) reports = ap (λ (o : Option Entry). part_of_event (process_of event) (refused s past event) o) reports.1
    by (Tries event) (reported.Refused p refusal) reports =
        ap (λ (o : Option Refusal). part_of_event (process_of event) o (elim o as (λ _. Option Entry) [ Some r ↦ None | None ↦ added s past event ])) reports.1
        ∙ ap (λ (q : ℕ). PartLine (SaysRefusal q refusal) ∷ []) (sym reports.0)
    by (Lacks p) (reported.Refused q refusal) reports = λ i. PartLine (SaysRefusal (sym reports.0 i) (sym reports.1 i)) ∷ []
    by (Tires p) (reported.Tired q) reports = λ i. PartLine (SaysTired (sym reports i)) ∷ []
    by Looks (reported.Shown store) reports = λ i. PartLine (SaysStore (newest_words (sym reports i))) ∷ []
    by this answer reports = absurd reports

-- a turn reports whether an overlapped read ends
pub reports_reads : (mode : Mode) (s : Setup) (before : List Happening) (this : Happening) (answer : TurnReport) → Happens s before this answer → ReportsReads mode s (entries_among (parts_of s before)) answer
reports_reads mode s before this answer h = subst (λ (past : Past). ReportsReads mode s past answer) (sym (entries_of_run s before)) (by this answer h.reports)
  where
    by : (this : Happening) (answer : TurnReport) → ReportsOf s (past_after s before) this answer → ReportsReads mode s (past_after s before) answer
    by (Tries event) (reported.Accepted made) reports = made_reports mode s (is_good s h.good) (tried before) event (entry_made made) made.overlapped reports.1 reports.2
    by this (reported.Accepted made) reports = absurd reports
    by this (reported.Refused p refusal) reports = tt
    by this (reported.Tired p) reports = tt
    by this (reported.Shown store) reports = tt

-- From the present point of a run on, nothing is drawn yet.
pub run_none : (view : AccessView) (s : Setup) (now : List Happening) (run : RunDrawing) (taken : Option (List ℕ)) → Counts s now (tally run) → Recalls view s (parts_of s now) run.drawing →
    HasDrawnRun view s (parts_of s now) (kept run.drawing.canvas) taken now run taken
run_none view s now run taken counts recalls = record { counts = counts; drawn = drawn_none view s (parts_of s now) run.drawing taken recalls }

module _ (view : AccessView) (s : Setup) (start : List Part) (had : Kept) (old : Option (List ℕ)) where
  -- the report of a turn is drawn
  pub reported_drawn : (before : List Happening) (this : Happening) (answer : TurnReport) (run run' : RunDrawing) (mid new : Option (List ℕ)) → Happens s before this answer → DrawsReported run run' answer mid new →
      tally run' ≡ counted answer (tally run) → run'.drawing.source ≡ run.drawing.source → HasDrawnRun view s start had old before run mid → HasDrawnRun view s start had old (this ∷ before) run' new
  reported_drawn before this answer run run' mid new h drew count source d = record {
    counts = counts_observed s before this answer (tally run) (tally run') h count d.counts;
    drawn = subst (λ (parts : List Part). HasDrawn view s start had old parts run'.drawing new) (sym (part_is s before this answer h))
        (drawn_more view s start had old (parts_of s before) (part_reported answer) run.drawing run'.drawing mid new (drew view s (parts_of s before) (reports_reads view.reads s before this answer h) d.drawn.recalls) source d.drawn);
  }

  -- a Step without a mark, with its access
  pub step_drawn : (before : List Happening) (made : UnmarkedStep) (run : RunDrawing) (d' : Drawing) (mid new : Option (List ℕ)) → StepsOn s before made → d'.source ≡ run.drawing.source → d'.entries ≡ run.drawing.entries + 1 →
      ((view : AccessView) (s : Setup) (parts : List Part) → ReportsEnd view.reads s (entries_among parts) (Some made.access) made.overlapped → Recalls view s parts run.drawing →
      DrawsPart view s parts (PartEntry (entry_by made.process (Some made.access) [])) run.drawing d' mid new) →
      HasDrawnRun view s start had old before run mid → HasDrawnRun view s start had old (Tries (Step made.process made.flick) ∷ before) (record run { drawing = d' }) new
  step_drawn before made run d' mid new on source entries drew d =
      let event : Event = Step made.process made.flick in
      let past : Past = past_after s before in
      let parts : List Part = parts_of s before in
      let reports = subst (λ (past : Past). ReportsEnd view.reads s past (Some made.access) made.overlapped) (sym (entries_of_run s before)) (stepped_reports view.reads s before made on) in
      record {
        counts = subst (λ (n : ℕ). Counts s (Tries event ∷ before) (record { events = n; taken = 0; refused = run.refused })) (sym entries) (counts_stepped s before made (tally run) on d.counts);
        drawn = subst (λ (l : List Part). HasDrawn view s start had old l d' new) (sym (ap (λ (o : Option Entry). part_of_event (process_of event) (refused s past event) o ++ parts) on.adds))
            (drawn_more view s start had old parts (PartEntry (entry_by made.process (Some made.access) [])) run.drawing d' mid new (drew view s parts reports d.drawn.recalls) source d.drawn);
      }

  -- events without a mark, where no access is observed
  quiet_part : (before : List Happening) (this : Happening) → IsQuiet s (past_after s before) (Some this) → (p : ℕ) × (access : Option Access) × (parts_of s (this ∷ before) ≡ PartEntry (entry_by p access []) ∷ parts_of s before)
  quiet_part before (Tries event) adds = (process_of event, adds.0, ap (λ (o : Option Entry). part_of_event (process_of event) (refused s (past_after s before) event) o ++ parts_of s before) adds.1)
  quiet_part before this adds = absurd adds

  passed_drawn : (n : ℕ) (before after : List Happening) (d : Drawing) (new : Option (List ℕ)) → observes d ≡ false → PassQuietly s n before after →
      HasDrawn view s start had old (parts_of s before) d new → HasDrawn view s start had old (parts_of s after) (record d { entries = d.entries + n }) new
  passed_drawn zero before after d new none same h =
      subst (λ (n : ℕ). HasDrawn view s start had old (parts_of s after) (record d { entries = n }) new) (sym (add-zero d.entries)) (subst (λ (l : List Happening). HasDrawn view s start had old (parts_of s l) d new) (sym same) h)
  passed_drawn (suc n) before after d new none (this, quiet, more) h =
      let one = quiet_part before this quiet in
      let next : Drawing = record d { entries = d.entries + 1 } in
      let sum : d.entries + 1 + n ≡ d.entries + suc n = omega arith in
      subst (λ (k : ℕ). HasDrawn view s start had old (parts_of s after) (record d { entries = k }) new) sum
      (passed_drawn n (this ∷ before) after next new none more (subst (λ (l : List Part). HasDrawn view s start had old l next new) (sym one.2)
      (drawn_quiet view s start had old (parts_of s before) one.0 one.1 d next new none refl refl (recalls_passed view s (parts_of s before) one.0 one.1 d none h.recalls) h)))

  pub run_passed : (n : ℕ) (before after : List Happening) (run : RunDrawing) (d' : Drawing) (new : Option (List ℕ)) → observes run.drawing ≡ false → PassQuietly s n before after → (let d : Drawing = record run.drawing { entries = run.drawing.entries + n } in d' ≡ d) →
      HasDrawnRun view s start had old before run new → HasDrawnRun view s start had old after (record run { drawing = d' }) new
  run_passed n before after run d' new none passes is h = subst (λ (d : Drawing). HasDrawnRun view s start had old after (record run { drawing = d }) new) (sym is)
      (record { counts = counts_passed s n before after (tally run) passes h.counts; drawn = passed_drawn n before after run.drawing new none passes h.drawn })
