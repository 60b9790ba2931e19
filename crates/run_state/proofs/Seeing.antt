-- An observer observes each report of a run.
use Rattle.std.proofs.Common.{◌≡◌, ◌<◌, Bool, true, List, [], ◌∷◌, ℕ, zero, suc, Option, None, Some, refl, ap, sym, subst, ◌∙◌, arith}
use Rattle.plain_store.specs.{Setup}
use Rattle.model.specs.{Access, Entry, Past, entry_of, width}
use Rattle.model.specs.declared.events.Event.TheVariants.{Step}
use Rattle.model.proofs.Width.{is_good}
use Rattle.calls.proofs.scenario_run_proofs.laws.Steps.{step_is}
use Rattle.calls.specs.scenario_run.world.laws.{doing}
use Rattle.calls.specs.scenario_run.world.process.{number_read}
use Rattle.calls.specs.{ends_number}
use Rattle.run_state.specs.{HasSeen, ObservesReported, IsNewestWithin, Passes, StateObserver, ReportsNumber, newest, newest_line, unmarked_entry}
use Rattle.run_state.proofs.FirstAccesses.{has-first}
use Rattle.calls.proofs.world_proofs.WorldShows.{past-after}
use Rattle.calls.proofs.UnmarkedSteps.{inside_never, not_so}
use Rattle.calls.specs.scenario_run.{Happening, Happens, PassWithin, UnmarkedStep, StepsOn, StepsWithin, TurnReport, Tries, past_after, reported_unmarked, tried}
use Rattle.calls.proofs.Tabling.{in_turn, past_reported}

-- the report of a turn
pub reported_seen : (s : Setup) (before : List Happening) (this : Happening) (answer : TurnReport) (old new : StateObserver) → Happens s before this answer → ObservesReported answer old new → HasSeen s (past_after s before) old → HasSeen s (past_after s (this ∷ before)) new
reported_seen s before this answer old new h observed seen =
    subst (λ past. HasSeen s past new) (sym (past_reported s before this answer h.reports)) (observed s (past_after s before) (in_turn s before this answer h.reports h.marked) h.marked seen)

-- A Step without a mark.

-- a Step within a register access is reported without a number, and ends no access
pub reports_number : (s : Setup) (before : List Happening) (made : UnmarkedStep) (n : ℕ) → ((m : ℕ) → made.number ≡ Some m → n ≡ m) → StepsOn s before made → ReportsNumber s (past_after s before) made.process made.access n
reports_number s before made n same on = λ ends. by made.number refl ends
  where
    by : (o : Option ℕ) → made.number ≡ o → ends_number (width s made.access.field) made.access.bit made.access.how ≡ true → n ≡ number_read (doing s made.process (past_after s before))
    by None is ends = absurd (inside_never s on.good (tried before) made.process made.flick made.access on.adds (on.within is) ends)
    by (Some m) is ends = same m is ∙ on.number m is

pub step_past : (s : Setup) (before : List Happening) (made : UnmarkedStep) → StepsOn s before made → past_after s (Tries (Step made.process made.flick) ∷ before) ≡ record { process = made.process; access = Some made.access; marks = [] } ∷ past_after s before
step_past s before made on = past_reported s before (Tries (Step made.process made.flick)) (reported_unmarked made) (refl, on.adds, on.overlapped)

-- Steps within a register access.

pass_one : (s : Setup) (p n : ℕ) (flick : Bool) (before after : List Happening) → StepsWithin s before p flick → Passes s p n (past_after s (Tries (Step p flick) ∷ before)) (past_after s after) → Passes s p (suc n) (past_after s before) (past_after s after)
pass_one s p n flick before after w more = by w.quiet.0 w.quiet.1
  where
    by : (o : Option Access) → entry_of s (past_after s before) (Step p flick) ≡ Some (record { process = p; access = o; marks = [] }) → Passes s p (suc n) (past_after s before) (past_after s after)
    by None adds = absurd (let is = (step_is s (is_good s w.good) (tried before) p flick (record { process = p; access = None; marks = [] }) adds).access in cc)
    by (Some a) adds = (
      a,
      not_so (ends_number (width s a.field) a.bit a.how) (inside_never s w.good (tried before) p flick a adds w.within),
      has-first s (is_good s w.good) (tried before) p w.within,
      subst (λ q. Passes s p n q (past_after s after)) (past-after s (tried before) (Step p flick) (record { process = p; access = Some a; marks = [] }) adds) more,
    )

pub passes_of : (s : Setup) (p n : ℕ) (before after : List Happening) → PassWithin s p n before after → Passes s p n (past_after s before) (past_after s after)
passes_of s p zero before after same = ap (past_after s) same
passes_of s p (suc n) before after (flick, w, more) = pass_one s p n flick before after w (passes_of s p n (Tries (Step p flick) ∷ before) after more)

-- the newest of them is one of p
pub newest_within : (s : Setup) (p n : ℕ) (before after : List Happening) → 0 < n → PassWithin s p n before after → IsNewestWithin s p (past_after s after)
newest_within s p zero before after some all = absurd (omega (arith, some))
newest_within s p (suc zero) before after some (flick, w, same) = by w.quiet.0 w.quiet.1
  where
    by : (o : Option Access) → entry_of s (past_after s before) (Step p flick) ≡ Some (unmarked_entry p o) → IsNewestWithin s p (past_after s after)
    by None adds = absurd (let is = (step_is s (is_good s w.good) (tried before) p flick (unmarked_entry p None) adds).access in cc)
    by (Some a) adds = record { access = a; before = past_after s before; is = ap (past_after s) same ∙ past-after s (tried before) (Step p flick) (unmarked_entry p (Some a)) adds; within = w.within }
newest_within s p (suc (suc n)) before after some (flick, w, more) = newest_within s p (suc n) (Tries (Step p flick) ∷ before) after (omega arith) more

-- the newest entry, and its line
pub newest_none : (past : Past) → newest past ≡ None → newest_line past ≡ []
newest_none [] is = refl
newest_none (e ∷ past) is = absurd (cc)

pub newest_some : (past : Past) (e : Entry) → newest past ≡ Some e → newest_line (e ∷ []) ≡ newest_line past
newest_some [] e is = absurd (cc)
newest_some (d ∷ past) e is = ap (λ (o : Option Entry). elim o as (λ _. List ℕ) [ None ↦ [] | Some e ↦ newest_line (e ∷ []) ]) (sym is)
