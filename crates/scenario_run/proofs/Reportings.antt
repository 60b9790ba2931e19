-- The text of a report is the text of what happens.
use Rattle.std.proofs.Common.{◌≡◌, ℕ, ◌+◌, List, [], ◌∷◌, length, Option, None, Some, ap, sym, ◌∙◌, arith, add-zero}
use Rattle.plain_store.specs.{Setup}
use Rattle.model.specs.{Entry, Event, Past, Refusal, added, entry_of, past_of, process_of, refused}
use Rattle.scenario_run.specs.{Happening, IsQuiet, Lacks, Looks, Summary, ReportsOf, Tires, TurnReport, Tries, counted, entry_made, entry_text, past_after, refusals, refusals_at, refused_line, store_text, text_at, reported_text, tried}
use Rattle.scenario_run.specs.declared.reports.TurnReport.TheVariants as reported
use Rattle.scenario_run.proofs.Refusals.{entry_added, entry_by, none_added, not_refused}

-- an event that is accepted
accepted_text : (s : Setup) (past : Past) (event : Event) (e : Entry) → entry_of s past event ≡ Some e → entry_text (length past) e ≡ text_at s past (Tries event)
accepted_text s past event e is =
    sym (ap (λ (o : Option Refusal). elim o as (λ _. List ℕ) [ Some refusal ↦ refused_line (process_of event) refusal | None ↦ elim (added s past event) [ None ↦ [] | Some e ↦ entry_text (length past) e ] ]) (not_refused s past event e is)
    ∙ ap (λ (o : Option Entry). elim o as (λ _. List ℕ) [ None ↦ [] | Some e ↦ entry_text (length past) e ]) (entry_added s past event e is))

-- an event that is refused
refused_text : (s : Setup) (past : Past) (event : Event) (p : ℕ) (r : Refusal) → p ≡ process_of event → refused s past event ≡ Some r → refused_line p r ≡ text_at s past (Tries event)
refused_text s past event p r whose is =
    ap (λ p. refused_line p r) whose
    ∙ sym (ap (λ (o : Option Refusal). elim o as (λ _. List ℕ) [ Some refusal ↦ refused_line (process_of event) refusal | None ↦ elim (added s past event) [ None ↦ [] | Some e ↦ entry_text (length past) e ] ]) is)

-- any report
pub reported_is : (s : Setup) (past : Past) (this : Happening) (answer : TurnReport) → ReportsOf s past this answer → reported_text (length past) answer ≡ text_at s past this
reported_is s past (Tries event) (reported.Accepted made) reports =
    accepted_text s past event (entry_made made) reports.1
reported_is s past (Tries event) (reported.Refused p r) reports = refused_text s past event p r reports.0 reports.1
reported_is s past (Tries event) (reported.Tired p) reports = absurd reports
reported_is s past (Tries event) (reported.Shown store) reports = absurd reports
reported_is s past (Lacks p) (reported.Refused q r) reports = λ i. refused_line (reports.0 i) (reports.1 i)
reported_is s past (Lacks p) (reported.Accepted made) reports = absurd reports
reported_is s past (Lacks p) (reported.Tired q) reports = absurd reports
reported_is s past (Lacks p) (reported.Shown store) reports = absurd reports
reported_is s past (Tires p) (reported.Tired q) reports = ap (λ p. text_at s past (Tires p)) reports
reported_is s past (Tires p) (reported.Accepted made) reports = absurd reports
reported_is s past (Tires p) (reported.Refused q r) reports = absurd reports
reported_is s past (Tires p) (reported.Shown store) reports = absurd reports
reported_is s past Looks (reported.Shown store) reports = ap store_text reports
reported_is s past Looks (reported.Accepted made) reports = absurd reports
reported_is s past Looks (reported.Refused q r) reports = absurd reports
reported_is s past Looks (reported.Tired q) reports = absurd reports

-- an accepted event makes the record longer by one
longer : (s : Setup) (events : List Event) (event : Event) (e : Entry) → entry_of s (past_of s events) event ≡ Some e → length (past_of s (event ∷ events)) ≡ length (past_of s events) + 1
longer s events event e is =
    ap (λ (o : Option Entry). length (elim o as (λ _. Past) [ None ↦ past_of s events | Some e ↦ e ∷ past_of s events ])) is ∙ omega arith

-- a refused event leaves the record as long as it is
as_long : (s : Setup) (events : List Event) (event : Event) (r : Refusal) → refused s (past_of s events) event ≡ Some r → length (past_of s (event ∷ events)) ≡ length (past_of s events)
as_long s events event r is =
    ap (λ (o : Option Entry). length (elim o as (λ _. Past) [ None ↦ past_of s events | Some e ↦ e ∷ past_of s events ])) (none_added s (past_of s events) event r is)

-- a refused event counts as 1 refusal, and one that is made as 0
refused_counts : (s : Setup) (past : Past) (event : Event) (r : Refusal) → refused s past event ≡ Some r → refusals_at s past (Tries event) ≡ 1
refused_counts s past event r is = ap (λ (o : Option Refusal). elim o as (λ _. ℕ) [ None ↦ 0 | Some r ↦ 1 ]) is

made_counts : (s : Setup) (past : Past) (event : Event) (e : Entry) → entry_of s past event ≡ Some e → refusals_at s past (Tries event) ≡ 0
made_counts s past event e is = ap (λ (o : Option Refusal). elim o as (λ _. ℕ) [ None ↦ 0 | Some r ↦ 1 ]) (not_refused s past event e is)

-- the counts after a report are those of what has happened
pub counts_more : (s : Setup) (before : List Happening) (this : Happening) (answer : TurnReport) (summary : Summary) → ReportsOf s (past_after s before) this answer →
    summary.events ≡ length (past_after s before) → summary.refused ≡ refusals s before →
    ((counted answer summary).events ≡ length (past_after s (this ∷ before))) × ((counted answer summary).refused ≡ refusals s (this ∷ before))
counts_more s before (Tries event) (reported.Accepted made) summary reports events refused =
    let e : Entry = entry_made made in
    (ap (λ n. n + 1) events ∙ sym (longer s (tried before) event e reports.1), omega (arith, refused, made_counts s (past_after s before) event e reports.1))
counts_more s before (Tries event) (reported.Refused p r) summary reports events refused =
    (events ∙ sym (as_long s (tried before) event r reports.1), omega (arith, refused, refused_counts s (past_after s before) event r reports.1))
counts_more s before (Tries event) (reported.Tired p) summary reports events refused = absurd reports
counts_more s before (Tries event) (reported.Shown store) summary reports events refused = absurd reports
counts_more s before (Lacks p) (reported.Refused q r) summary reports events refused = (events, ap (λ n. n + 1) refused)
counts_more s before (Lacks p) (reported.Accepted made) summary reports events refused = absurd reports
counts_more s before (Lacks p) (reported.Tired q) summary reports events refused = absurd reports
counts_more s before (Lacks p) (reported.Shown store) summary reports events refused = absurd reports
counts_more s before (Tires p) (reported.Tired q) summary reports events refused = (events, refused ∙ sym (add-zero (refusals s before)))
counts_more s before (Tires p) (reported.Accepted made) summary reports events refused = absurd reports
counts_more s before (Tires p) (reported.Refused q r) summary reports events refused = absurd reports
counts_more s before (Tires p) (reported.Shown store) summary reports events refused = absurd reports
counts_more s before Looks (reported.Shown store) summary reports events refused = (events, refused ∙ sym (add-zero (refusals s before)))
counts_more s before Looks (reported.Accepted made) summary reports events refused = absurd reports
counts_more s before Looks (reported.Refused q r) summary reports events refused = absurd reports
counts_more s before Looks (reported.Tired q) summary reports events refused = absurd reports

-- a happening without a mark has no text, and counts as one event
pub record Quietly (s : Setup) (before : List Happening) (this : Happening) : Type 0 where
  pub text : text_at s (past_after s before) this ≡ []
  pub events : length (past_after s (this ∷ before)) ≡ length (past_after s before) + 1
  pub refused : refusals s (this ∷ before) ≡ refusals s before

pub quiet_counts : (s : Setup) (before : List Happening) (this : Happening) → IsQuiet s (past_after s before) (Some this) → Quietly s before this
quiet_counts s before (Tries event) adds =
    let e : Entry = entry_by event adds.0 [] in
    record {
      text = sym (accepted_text s (past_after s before) event e adds.1);
      events = longer s (tried before) event e adds.1;
      refused = omega (arith, made_counts s (past_after s before) event e adds.1);
    }
quiet_counts s before (Lacks p) adds = absurd adds
quiet_counts s before (Tires p) adds = absurd adds
quiet_counts s before Looks adds = absurd adds
