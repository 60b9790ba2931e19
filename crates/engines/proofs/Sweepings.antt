-- The calls of a run, and the sweep along it.
use Rattle.std.proofs.Common.{◌≡◌, ℕ, zero, suc, Bool, List, [], ◌∷◌, ◌++◌, reverse, Option, None, Some, refl, ap, subst, sym, ◌∙◌, append-nil}
use Rattle.std.proofs.lemmas.Grind.{flat_map-append}
use Rattle.std.proofs.lemmas.List.{reverse-append}
use Rattle.plain_store.specs.{Command, Setup}
use Rattle.scenario_run.specs.model.{Event, Refusal, past_of, refused}
use Rattle.scenario_run.specs.model.declared.events.Event.TheVariants.{Step}
use Rattle.sweeper.specs.{Sweeper, SweepsOn, SweptBy}
use Rattle.engines.specs.{SweepsRun, call_of, calls_in, event_reported}
use Rattle.engines.proofs.Listed.{listed_more, reverse-front}
use Rattle.scenario_run.specs.declared.reports.Accepted.{Accepted as Made}
use Rattle.scenario_run.specs.declared.reports.TurnReport.TheVariants.{Accepted, Refused, Shown, Tired}
use Rattle.scenario_run.specs.{Happening, Happens, PassWithin, TurnReport, Tries, accepted, listed, tried}

-- a turn adds its call, if it is one
pub reported_calls : (s : Setup) (before : List Happening) (this : Happening) (reported : TurnReport) (calls calls' : List (ℕ × Command)) → Happens s before this reported →
    calls' ≡ calls ++ calls_in (event_reported reported) → calls ≡ calls_in (listed s before) → calls' ≡ calls_in (listed s (this ∷ before))
reported_calls s before this reported calls calls' h more are =
    more ∙ ap (λ l. l ++ calls_in (event_reported reported)) are
    ∙ sym (flat_map-append call_of (listed s before) (event_reported reported)) ∙ ap calls_in (listed_more s before this reported h.reports)

-- a Step is not a call, whether it is made or refused
pub calls_same : (s : Setup) (before : List Happening) (p : ℕ) (flick : Bool) → calls_in (listed s (Tries (Step p flick) ∷ before)) ≡ calls_in (listed s before)
calls_same s before p flick = by (refused s (past_of s (tried before)) (Step p flick))
  where
    by : (r : Option Refusal) → calls_in (reverse (elim r as (λ _. List Event) [ None ↦ Step p flick ∷ accepted s (tried before) | Some r ↦ accepted s (tried before) ])) ≡ calls_in (listed s before)
    by None =
        ap calls_in (reverse-front (Step p flick) (accepted s (tried before)))
        ∙ flat_map-append call_of (listed s before) (Step p flick ∷ []) ∙ append-nil (calls_in (listed s before))
    by (Some r) = refl

-- many Steps are not calls either
pub calls_passed : (s : Setup) (p n : ℕ) (before after : List Happening) → PassWithin s p n before after → calls_in (listed s after) ≡ calls_in (listed s before)
calls_passed s p zero before after same = ap (λ l. calls_in (listed s l)) same
calls_passed s p (suc n) before after (flick, within, more) = calls_passed s p n (Tries (Step p flick) ∷ before) after more ∙ calls_same s before p flick

-- a sweeper goes on by an event that is listed
pub swept_on : (s : Setup) (calls : List (ℕ × Command)) (before : List Happening) (this : Happening) (event : Event) (given given' : List (ℕ × Command)) (old new : Sweeper) → listed s before ++ event ∷ [] ≡ listed s (this ∷ before) → given' ≡ given →
    SweepsOn given event old new → SweepsRun s calls before given old → SweepsRun s calls (this ∷ before) given' new
swept_on s calls before this event given given' old new more same on swept = record {
  given_are = same ∙ swept.given_are;
  swept = subst (λ l. SweptBy s calls (reverse l) new) more (subst (λ l. SweptBy s calls l new) (sym (reverse-append (listed s before) (event ∷ []))) (subst (λ g. SweepsOn g event old new) swept.given_are on s (reverse (listed s before)) swept.swept));
}

-- a turn without an event changes nothing
pub swept_same : (s : Setup) (calls : List (ℕ × Command)) (before : List Happening) (this : Happening) (given : List (ℕ × Command)) (sweeper : Sweeper) → listed s before ++ [] ≡ listed s (this ∷ before) → SweepsRun s calls before given sweeper → SweepsRun s calls (this ∷ before) given sweeper
swept_same s calls before this given sweeper same swept = record {
  given_are = swept.given_are;
  swept = subst (λ l. SweptBy s calls (reverse l) sweeper) (sym (append-nil (listed s before)) ∙ same) swept.swept;
}

-- the event of a turn, if it has one
pub reported_event : (s : Setup) (before : List Happening) (this : Happening) (reported : TurnReport) (made : Made) → reported ≡ Accepted made → Happens s before this reported → listed s before ++ made.event ∷ [] ≡ listed s (this ∷ before)
reported_event s before this reported made is h = subst (λ t. listed s before ++ event_reported t ≡ listed s (this ∷ before)) is (listed_more s before this reported h.reports)

none_reported : (reported : TurnReport) → ((made : Made) → reported ≡ Accepted made → ⊥) → event_reported reported ≡ []
none_reported (Accepted made) none = absurd (none made refl)
none_reported (Refused p refusal) none = refl
none_reported (Tired p) none = refl
none_reported (Shown store) none = refl

pub reported_nothing : (s : Setup) (before : List Happening) (this : Happening) (reported : TurnReport) → ((made : Made) → reported ≡ Accepted made → ⊥) → Happens s before this reported → listed s before ++ [] ≡ listed s (this ∷ before)
reported_nothing s before this reported none h = ap (λ l. listed s before ++ l) (sym (none_reported reported none)) ∙ listed_more s before this reported h.reports
