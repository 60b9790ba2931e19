-- Runs of one past: they accept the same events, and continue to runs of one past. A runner that shows a run shows each run of its past.
use Rattle.std.proofs.Common.{◌≡◌, ℕ, suc, ◌||◌, Bool, true, false, cond, List, [], ◌∷◌, Option, None, Some, fold, length, refl, ap, sym, subst, ◌∙◌}
use Rattle.std.specs.Prelude.{is_none}
use Rattle.std.specs.List.{list_any}
use Rattle.plain_store.specs.{Setup}
use Rattle.model.specs.{AreGiven, Event, Past, Refusal, history, past_of, processes, refused, with_event}
use Rattle.model.specs.declared.events.Event.TheVariants.{Step}
use Rattle.world.specs.{with_history}
use Rattle.world.specs.Shows.{world_of}
use Rattle.auditor.specs.{HasObserved}
use Rattle.sweeper.specs.{Follows, RunnerState, goes, is_accepted, round, rounds}
use Rattle.sweeper.proofs.Accepted.{past_kept}
use Rattle.sweeper.proofs.Going.{ended, related_repeated}

-- the runs of these events have one past
abbrev pub HaveOnePast : Setup → List Event → List Event → Type 0
HaveOnePast s x y = past_of s x ≡ past_of s y

pub past_accepted : (s : Setup) (x y : List Event) (what : Event) → HaveOnePast s x y → is_accepted s x what ≡ is_accepted s y what
past_accepted s x y what same = ap (λ (past : Past). is_none (refused s past what)) same

pub past_then : (s : Setup) (x y : List Event) (what : Event) → HaveOnePast s x y → HaveOnePast s (what ∷ x) (what ∷ y)
past_then s x y what same = ap (with_event s what) same

-- an event that is not accepted
pub past_refused : (s : Setup) (x : List Event) (what : Event) → is_accepted s x what ≡ false → HaveOnePast s (what ∷ x) x
past_refused s x what away = by (refused s (past_of s x) what) refl
  where
    by : (o : Option Refusal) → refused s (past_of s x) what ≡ o → HaveOnePast s (what ∷ x) x
    by None is = let no : true ≡ false = sym (ap is_none is) ∙ away in absurd (cc)
    by (Some r) is = past_kept s x what r is

-- Rounds.

past_goes : (s : Setup) (v : Bool) (x y : List Event) → HaveOnePast s x y → goes s v x ≡ goes s v y
past_goes s v x y same = ap (λ (past : Past). list_any (λ p. is_none (refused s past (Step p v))) (processes s)) same

past_round : (s : Setup) (v : Bool) (ps : List ℕ) (x y : List Event) → HaveOnePast s x y → HaveOnePast s (fold (λ events p. Step p v ∷ events) x ps) (fold (λ events p. Step p v ∷ events) y ps)
past_round s v [] x y same = same
past_round s v (p ∷ ps) x y same = past_round s v ps (Step p v ∷ x) (Step p v ∷ y) (past_then s x y (Step p v) same)

pub past_rounds : (s : Setup) (v : Bool) (n : ℕ) (x y : List Event) → HaveOnePast s x y → HaveOnePast s (rounds s v n x) (rounds s v n y)
past_rounds s v n x y same =
    related_repeated (HaveOnePast s) (goes s v) (round s v) (λ x y same. past_goes s v x y same) (λ x y same. past_round s v (processes s) x y same) n x y same

-- a round in which no process has a step to make
past_idle : (s : Setup) (v : Bool) (ps : List ℕ) (x : List Event) → list_any (λ p. is_accepted s x (Step p v)) ps ≡ false → HaveOnePast s (fold (λ events p. Step p v ∷ events) x ps) x
past_idle s v [] x none = refl
past_idle s v (p ∷ ps) x none = by (past_idle s v ps x) (is_accepted s x (Step p v)) refl
  where
    by : (list_any (λ p. is_accepted s x (Step p v)) ps ≡ false → HaveOnePast s (fold (λ events p. Step p v ∷ events) x ps) x) → (b : Bool) → is_accepted s x (Step p v) ≡ b →
        HaveOnePast s (fold (λ events p. Step p v ∷ events) (Step p v ∷ x) ps) x
    by rest true is = let no : true ≡ false = sym (ap (λ b. b || list_any (λ p. is_accepted s x (Step p v)) ps) is) ∙ none in absurd (cc)
    by rest false is =
        let others : list_any (λ p. is_accepted s x (Step p v)) ps ≡ false = sym (ap (λ b. b || list_any (λ p. is_accepted s x (Step p v)) ps) is) ∙ none in
        past_round s v ps (Step p v ∷ x) x (past_refused s x (Step p v) is) ∙ rest others

-- a round is made, whether or not a process has a step to make
pub past_more : (s : Setup) (v : Bool) (n : ℕ) (x : List Event) → HaveOnePast s (rounds s v n (round s v x)) (rounds s v (suc n) x)
past_more s v n x = by (goes s v x) refl
  where
    by : (b : Bool) → goes s v x ≡ b → HaveOnePast s (rounds s v n (round s v x)) (cond b (rounds s v n (round s v x)) x)
    by true is = refl
    by false is =
        past_rounds s v n (round s v x) x (past_idle s v (processes s) x is)
        ∙ ap (past_of s) (ended (goes s v) (round s v) n x is)

-- A runner.

pub follows_past : (r : RunnerState) (x y : List Event) → Follows r x → AreGiven r.core.setup y → HaveOnePast r.core.setup x y → Follows r y
follows_past r x y follows given same =
    let s : Setup = r.core.setup in
    record {
      shows = record {
        good = follows.shows.good;
        given = given;
        shown = subst (λ (past : Past). with_history r.core (history s past) ≡ world_of s past) same follows.shows.shown;
      };
      observed = subst (HasObserved r.auditor) same follows.observed;
      alike = follows.alike;
      taken = follows.taken ∙ ap (λ (past : Past). length (history s past)) same;
    }
