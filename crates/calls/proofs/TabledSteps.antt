-- A table of calls observes Steps without a mark, one by one or many at once.
use Rattle.std.proofs.Common.{◌≡◌, ◌+◌, ◌<◌, ℕ, zero, suc, Bool, true, false, if◌then◌else◌, List, [], ◌∷◌, ◌++◌, length, Option, None, Some, refl, ap, sym, subst, ◌∙◌, append-nil, arith}
use Rattle.plain_store.specs.{Setup}
use Rattle.model.specs.{Access, Entry, Past, entry_of, width}
use Rattle.model.specs.declared.events.Event.TheVariants.{Step}
use Rattle.model.proofs.Width.{is_good}
use Rattle.calls.specs.{ComesInTurn, HasObserved, HasNotFailed, HasTabled, Passes, TableState, ReportsRead, ended_lines, ends_number, follows, known_step, line_of, lines_after, more_if, quiet_entry}
use Rattle.world.specs.choices.{FlickState}
use Rattle.world.proofs.WorldTurns.{takes-turns}
use Rattle.scenario_run.specs.world.{ends_overlapped_read}
use Rattle.scenario_run.specs.{Happening, PassBy, PassWithin, UnmarkedStep, StepsOn, StepsWithin, Tries, overlapped_in, past_after, tried}
use Rattle.scenario_run.proofs.Within.{last_step}
use Rattle.scenario_run.proofs.laws.FrameEvents.{accepted}
use Rattle.scenario_run.proofs.laws.Steps.{step_is}
use Rattle.calls.proofs.UnmarkedSteps.{inside_never, not_so, steps_below}
use Rattle.calls.proofs.Tabling.{event_added, unmarked_ends}
use Rattle.calls.proofs.Unfailed.{within_unfailed}

-- no call ends with it
unmarked_lines : (s : Setup) (before : List Happening) (p : ℕ) (flick : Bool) (access : Option Access) → entry_of s (past_after s before) (Step p flick) ≡ Some (record { process = p; access = access; marks = [] }) →
    lines_after s (Tries (Step p flick) ∷ before) ≡ lines_after s before
unmarked_lines s before p flick access adds =
    let past : Past = past_after s before in
    ap (ended_lines s) (event_added s before (Step p flick) (record { process = p; access = access; marks = [] }) adds)
    ∙ ap (λ c. ended_lines s past ++ line_of (length past) c) (unmarked_ends s past p access) ∙ append-nil (ended_lines s past)

-- One Step.

reports_read : (s : Setup) (before : List Happening) (made : UnmarkedStep) → StepsOn s before made → (o : Option ℕ) → made.number ≡ o → ReportsRead s (past_after s before) (quiet_entry made.process made.access) made.access o
reports_read s before made on None is = not_so (ends_number (width s made.access.field) made.access.bit made.access.how) (inside_never s on.good (tried before) made.process made.flick made.access on.adds (on.within is))
reports_read s before made on (Some n) is = (refl, λ ends. on.number n is)

step_turn : (s : Setup) (before : List Happening) (made : UnmarkedStep) → StepsOn s before made → ComesInTurn s (past_after s before) (quiet_entry made.process made.access) (known_step made)
step_turn s before made on = record {
  process = steps_below s before made on;
  reports = record {
    overlapped = on.overlapped;
    read = λ a some. subst (λ (a : Access). ReportsRead s (past_after s before) (quiet_entry made.process made.access) a made.number) (let same : made.access ≡ a = cc in same) (reports_read s before made on made.number refl);
  };
}

pub step_tabled : (s : Setup) (before : List Happening) (made : UnmarkedStep) (old new : TableState) → StepsOn s before made →
    ((past : Past) (e : Entry) → e.process ≡ made.process → e.access ≡ Some made.access → e.marks ≡ [] → HasObserved old past → ComesInTurn old.setup past e (known_step made) → HasObserved new (e ∷ past)) →
    new.setup ≡ old.setup → HasTabled s before old → HasTabled s (Tries (Step made.process made.flick) ∷ before) new
step_tabled s before made old new on observes kept t =
    let e : Entry = quiet_entry made.process made.access in
    let past : Past = past_after s before in
    record {
      setup = kept ∙ t.setup;
      observed = subst (HasObserved new) (sym (event_added s before (Step made.process made.flick) e on.adds)) (observes past e refl refl refl t.observed (subst (λ (s : Setup). ComesInTurn s past e (known_step made)) (sym t.setup) (step_turn s before made on)));
    }

pub step_lines : (s : Setup) (before : List Happening) (made : UnmarkedStep) → StepsOn s before made → lines_after s (Tries (Step made.process made.flick) ∷ before) ≡ lines_after s before
step_lines s before made on = unmarked_lines s before made.process made.flick (Some made.access) on.adds

-- Many Steps within a register access.

pub pass_lines : (s : Setup) (p n : ℕ) (before after : List Happening) → PassWithin s p n before after → lines_after s after ≡ lines_after s before
pass_lines s p zero before after same = ap (lines_after s) same
pass_lines s p (suc n) before after (flick, w, more) = pass_lines s p n (Tries (Step p flick) ∷ before) after more ∙ unmarked_lines s before p flick w.quiet.0 w.quiet.1

access_made : (s : Setup) (before : List Happening) (p : ℕ) (flick : Bool) → StepsWithin s before p flick → (a : Access) × (entry_of s (past_after s before) (Step p flick) ≡ Some (quiet_entry p a))
access_made s before p flick w = by w.quiet.0 w.quiet.1
  where
    by : (o : Option Access) → entry_of s (past_after s before) (Step p flick) ≡ Some (record { process = p; access = o; marks = [] }) → (a : Access) × (entry_of s (past_after s before) (Step p flick) ≡ Some (quiet_entry p a))
    by None adds = absurd (let is = (step_is s (is_good s w.good) (tried before) p flick (record { process = p; access = None; marks = [] }) adds).access in cc)
    by (Some a) adds = (a, adds)

-- how a table sees them, and the newest of them
record Passed (s : Setup) (p n : ℕ) (x y : List Happening) : Type 0 where
  newest : Access
  before : List Happening
  flick : Bool
  step : StepsWithin s before p flick
  adds : entry_of s (past_after s before) (Step p flick) ≡ Some (quiet_entry p newest)
  is : y ≡ Tries (Step p flick) ∷ before
  at : past_after s y ≡ quiet_entry p newest ∷ past_after s before
  passes : Passes s p (suc n) newest (overlapped_in (suc n) (past_after s y)) (past_after s x) (past_after s y)

counted : (b : Bool) (n : ℕ) → n + (if b then 1 else 0) ≡ more_if b n
counted true n = refl
counted false n = omega arith

passed : (s : Setup) (p n : ℕ) (x y : List Happening) → PassWithin s p (suc n) x y → Passed s p n x y
passed s p zero x y within =
    let (mid, flick, same, w, is) = last_step s p zero x y within in
    let (a, adds) = access_made s mid p flick w in
    let at : past_after s y ≡ quiet_entry p a ∷ past_after s mid = ap (past_after s) is ∙ event_added s mid (Step p flick) (quiet_entry p a) adds in
    record {
      newest = a;
      before = mid;
      flick = flick;
      step = w;
      adds = adds;
      is = is;
      at = at;
      passes = (
        past_after s mid,
        a,
        0,
        (ap (past_after s) same, refl),
        (λ some. absurd (omega (arith, some))),
        not_so (ends_number (width s a.field) a.bit a.how) (inside_never s w.good (tried mid) p flick a adds w.within),
        at,
        ap (overlapped_in 1) at ∙ counted (ends_overlapped_read (past_after s mid) (quiet_entry p a)) 0,
      );
    }
passed s p (suc m) x y within =
    let (mid, flick, part, w, is) = last_step s p (suc m) x y within in
    let h : Passed s p m x mid = passed s p m x mid part in
    let (a, adds) = access_made s mid p flick w in
    let at : past_after s y ≡ quiet_entry p a ∷ past_after s mid = ap (past_after s) is ∙ event_added s mid (Step p flick) (quiet_entry p a) adds in
    let next : entry_of s (past_after s (Tries (Step p h.flick) ∷ h.before)) (Step p flick) ≡ Some (quiet_entry p a) = subst (λ l. entry_of s (past_after s l) (Step p flick) ≡ Some (quiet_entry p a)) h.is adds in
    record {
      newest = a;
      before = mid;
      flick = flick;
      step = w;
      adds = adds;
      is = is;
      at = at;
      passes = (
        past_after s mid,
        h.newest,
        overlapped_in (suc m) (past_after s mid),
        h.passes,
        (λ some. takes-turns (λ a b. follows a b ≡ true) (λ v. refl) (λ v. refl) (λ v. refl) (λ v. refl) s (is_good s w.good) (tried h.before) p h.flick flick (quiet_entry p h.newest) (quiet_entry p a) h.newest a h.step.within h.adds refl next refl),
        not_so (ends_number (width s a.field) a.bit a.how) (inside_never s w.good (tried mid) p flick a adds w.within),
        at,
        ap (overlapped_in (suc (suc m))) at ∙ counted (ends_overlapped_read (past_after s mid) (quiet_entry p a)) (overlapped_in (suc m) (past_after s mid)),
      );
    }

-- the access of the newest entry
abbrev newest_access : Past → Option Access
newest_access [] = None
newest_access (e ∷ past) = e.access

passes_by : (s : Setup) (p : ℕ) (f : FlickState) (n : ℕ) (newest : Access) (overlapped : ℕ) (x y : List Happening) → PassBy s p f (suc n) newest overlapped x y → Passes s p (suc n) newest overlapped (past_after s x) (past_after s y)
passes_by s p f n newest overlapped x y pass =
    let h : Passed s p n x y = passed s p n x y pass.within in
    let both : Some h.newest ≡ Some newest = sym (ap newest_access h.at) ∙ ap newest_access pass.newest_is.1 in
    let same : h.newest ≡ newest = cc in
    subst (λ (a : Access). Passes s p (suc n) a overlapped (past_after s x) (past_after s y)) same
    (subst (λ k. Passes s p (suc n) h.newest k (past_after s x) (past_after s y)) (sym pass.overlapped_are) h.passes)

pass_unfailed : (s : Setup) (p n : ℕ) (before after : List Happening) → PassWithin s p (suc n) before after → HasNotFailed p (past_after s before)
pass_unfailed s p n before after (flick, w, more) = within_unfailed s p (past_after s before) w.within

pass_below : (s : Setup) (p n : ℕ) (before after : List Happening) → PassWithin s p (suc n) before after → p < s.processes
pass_below s p n before after (flick, w, more) = (accepted s (is_good s w.good) (tried before) (Step p flick) _ w.quiet.1).below

pub pass_tabled : (s : Setup) (p : ℕ) (f : FlickState) (n : ℕ) (newest : Access) (overlapped : ℕ) (before after : List Happening) (old new : TableState) → 0 < n → PassBy s p f n newest overlapped before after →
    ((past later : Past) → Passes old.setup p n newest overlapped past later → p < old.setup.processes → HasNotFailed p past → HasObserved old past → HasObserved new later) → new.setup ≡ old.setup → HasTabled s before old → HasTabled s after new
pass_tabled s p f zero newest overlapped before after old new some pass observes kept t = absurd (omega (arith, some))
pass_tabled s p f (suc n) newest overlapped before after old new some pass observes kept t = record {
  setup = kept ∙ t.setup;
  observed = observes (past_after s before) (past_after s after)
      (subst (λ (s' : Setup). Passes s' p (suc n) newest overlapped (past_after s before) (past_after s after)) (sym t.setup) (passes_by s p f n newest overlapped before after pass))
      (subst (λ (s' : Setup). p < s'.processes) (sym t.setup) (pass_below s p n before after pass.within)) (pass_unfailed s p n before after pass.within)
      t.observed;
}
