-- The accepted events, one by one.
use Rattle.std.proofs.Common.{◌≡◌, List, [], ◌∷◌, ◌++◌, reverse, Option, None, Some, refl, ap, sym, ◌∙◌, append-nil}
use Rattle.std.proofs.lemmas.List.{reverse-append}
use Rattle.plain_store.specs.{Setup}
use Rattle.scenario_run.specs.model.{Event, Refusal}
use Rattle.scenario_run.specs.model.declared.events.Event.TheVariants.{Step}
use Rattle.scenario_run.specs.{Happening, Happens, Lacks, Looks, UnmarkedStep, StepsOn, ReportsOf, Tires, TurnReport, Tries, accepted, entry_made, listed, past_after, reported_unmarked, tried}
use Rattle.engines.specs.{event_reported}
use Rattle.scenario_run.specs.declared.reports.TurnReport.TheVariants as reported
use Rattle.scenario_run.proofs.Refusals.{not_refused}

-- the reverse of a list with one more item at the start
pub reverse-front : {X : Type 0} (x : X) (xs : List X) → reverse (x ∷ xs) ≡ reverse xs ++ x ∷ []
reverse-front x xs = reverse-append (x ∷ []) xs

-- the events listed after a turn are those before it, and its own if it has one
pub listed_more : (s : Setup) (before : List Happening) (this : Happening) (answer : TurnReport) → ReportsOf s (past_after s before) this answer → listed s before ++ event_reported answer ≡ listed s (this ∷ before)
listed_more s before (Tries event) (reported.Accepted made) reports =
    ap (λ (m : Event). listed s before ++ m ∷ []) reports.0 ∙ sym (reverse-front event (accepted s (tried before)))
    ∙ ap reverse (sym (ap (λ (o : Option Refusal). elim o as (λ _. List Event) [ None ↦ event ∷ accepted s (tried before) | Some r ↦ accepted s (tried before) ]) (not_refused s (past_after s before) event (entry_made made) reports.1)))
listed_more s before (Tries event) (reported.Refused p r) reports =
    append-nil (listed s before) ∙ ap reverse (sym (ap (λ (o : Option Refusal). elim o as (λ _. List Event) [ None ↦ event ∷ accepted s (tried before) | Some r ↦ accepted s (tried before) ]) reports.1))
listed_more s before (Lacks p) (reported.Refused q r) reports = append-nil (listed s before)
listed_more s before (Tires p) (reported.Tired q) reports = append-nil (listed s before)
listed_more s before Looks (reported.Shown store) reports = append-nil (listed s before)
listed_more s before this answer reports = absurd reports

-- a list to which the event of each turn is added is that of the run
pub reported_listed : (s : Setup) (before : List Happening) (this : Happening) (reported : TurnReport) (events events' : List Event) → Happens s before this reported → events' ≡ events ++ event_reported reported → events ≡ listed s before → events' ≡ listed s (this ∷ before)
reported_listed s before this reported events events' h more are = more ∙ ap (λ l. l ++ event_reported reported) are ∙ listed_more s before this reported h.reports

pub step_listed : (s : Setup) (before : List Happening) (made : UnmarkedStep) (events events' : List Event) → StepsOn s before made → events' ≡ events ++ Step made.process made.flick ∷ [] → events ≡ listed s before → events' ≡ listed s (Tries (Step made.process made.flick) ∷ before)
step_listed s before made events events' on more are = more ∙ ap (λ l. l ++ Step made.process made.flick ∷ []) are ∙ listed_more s before (Tries (Step made.process made.flick)) (reported_unmarked made) (refl, on.adds, on.overlapped)
