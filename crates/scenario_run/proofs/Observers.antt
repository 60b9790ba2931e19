-- The auditor of a run has observed no entry that breaks a law.
use Rattle.std.proofs.Common.{◌≡◌, ℕ, zero, suc, ◌-◌, ◌<◌, ◌≤◌, List, [], ◌∷◌, length, reverse, Option, None, Some, Ok, refl, ap, sym, subst, ◌∙◌, arith}
use Rattle.std.proofs.lemmas.List.{length-reverse, reverse-reverse}
use Rattle.plain_store.specs.{Setup, checked}
use Rattle.model.specs.{Access, AreGiven, Entry, Event, Past, Refusal, entry_of, past_of, refused, with_event}
use Rattle.model.specs.declared.events.Event.TheVariants.{Step}
use Rattle.world.specs.choices.{FlickState, flick_of, flicks_after}
use Rattle.world.specs.{remaining_in}
use Rattle.world.specs.Shows.{WorldState, world_of}
use Rattle.world.proofs.WorldShows.{past-after}
use Rattle.auditor.specs.{AllKeep, AuditorState, HasObserved, IsObserved, IsVerdict, KeepsAll, Law, ObservesRun, steps_on}
use Rattle.auditor.specs.safe_monitor.{entry_by}
use Rattle.auditor.specs.safe_monitor.declared.verdicts.Verdict.TheVariants.{Good}
use Rattle.auditor.proofs.Obeys.{obeys}
use Rattle.auditor.proofs.Whole.{good_of}
use Rattle.scenario.specs.{Script}
use Rattle.scenario_run.specs.{Accepted, RunAudit, Audits, Happening, Happens, Lacks, Looks, PassBy, UnmarkedStep, StepsOn, ReportsOf, Tires, TurnReport, Tries, accepted, entry_made, happenings, past_after, run_record, tried}
use Rattle.scenario_run.specs.declared.reports.TurnReport.TheVariants as reported
use Rattle.scenario_run.proofs.Refusals.{past_kept}
use Rattle.scenario_run.proofs.Within.{last_step}

-- the accepted events have the record of all that were tried
pub past_accepted : (s : Setup) (events : List Event) → past_of s (accepted s events) ≡ past_of s events
past_accepted s [] = refl
past_accepted s (event ∷ before) = by (refused s (past_of s before) event) refl (past_accepted s before)
  where
    by : (o : Option Refusal) → refused s (past_of s before) event ≡ o → past_of s (accepted s before) ≡ past_of s before → past_of s (accepted s (event ∷ before)) ≡ past_of s (event ∷ before)
    by None is same =
        ap (λ (o : Option Refusal). past_of s (elim o as (λ _. List Event) [ None ↦ event ∷ accepted s before | Some r ↦ accepted s before ])) is
        ∙ ap (with_event s event) same
    by (Some r) is same =
        ap (λ (o : Option Refusal). past_of s (elim o as (λ _. List Event) [ None ↦ event ∷ accepted s before | Some r ↦ accepted s before ])) is
        ∙ same ∙ sym (past_kept s before event r is)

-- the record of a scenario's run, the newest entry first
pub run_past : (said : Script) → reverse (run_record said) ≡ past_after said.setup (happenings said)
run_past said =
    let events : List Event = accepted said.setup (tried (happenings said)) in
    reverse-reverse (past_of said.setup (reverse (reverse events)))
    ∙ ap (past_of said.setup) (reverse-reverse events)
    ∙ past_accepted said.setup (tried (happenings said))

pub run_length : (said : Script) → length (run_record said) ≡ length (past_after said.setup (happenings said))
run_length said = sym (length-reverse (run_record said)) ∙ ap length (run_past said)

-- the verdict on the record of a scenario's run is `Good`
pub run_is_good : (said : Script) → checked said.setup ≡ Ok tt → AreGiven said.setup (tried (happenings said)) → IsVerdict said.setup (run_record said) Good
run_is_good said good given = subst (AllKeep said.setup) (sym (run_past said)) (good_of said.setup good (tried (happenings said)) given)

-- if an entry keeps all laws, the auditor reports no law and has observed it
kept_observed : (s : Setup) (past : Past) (e : Entry) (then : AuditorState) (law : Option Law) → KeepsAll s past e → IsObserved s past e then law → (law ≡ None) × HasObserved then (e ∷ past)
kept_observed s past e then None keeps is = (refl, is.1)
kept_observed s past e then (Some l) keeps is = absurd (is.broken (keeps l))

-- one more entry is observed, which breaks no law
pub audits_more : (s : Setup) (past : Past) (e : Entry) (old new : RunAudit) (a : AuditorState) (law : Option Law) → KeepsAll s past e → Audits s past old → ((past : Past) → HasObserved old.auditor past → IsObserved old.auditor.core.setup past e a law) →
    (law ≡ None → a.core.setup ≡ old.auditor.core.setup) → new.auditor ≡ a → (law ≡ None → new.verdict ≡ old.verdict) → Audits s (e ∷ past) new
audits_more s past e old new a law keeps audits observes setup is kept =
    let answer : IsObserved s past e a law = subst (λ (s : Setup). IsObserved s past e a law) audits.setup (observes past audits.observed) in
    let both : (law ≡ None) × HasObserved a (e ∷ past) = kept_observed s past e a law keeps answer in
    record {
      setup = ap (λ (a : AuditorState). a.core.setup) is ∙ setup both.0 ∙ audits.setup;
      observed = subst (λ (a : AuditorState). HasObserved a (e ∷ past)) (sym is) both.1;
      kept = kept both.0 ∙ audits.kept;
    }

-- the entry of an event keeps all laws, and is added to the past
pub keeps_more : (s : Setup) (before : List Happening) (event : Event) (e : Entry) → checked s ≡ Ok tt → AreGiven s (event ∷ tried before) → entry_of s (past_after s before) event ≡ Some e → KeepsAll s (past_after s before) e × (past_after s (Tries event ∷ before) ≡ e ∷ past_after s before)
keeps_more s before event e good given adds = (obeys s good (tried before) event e given adds, past-after s (tried before) event e adds)

-- a report of an entry is observed
pub reported_audited : (s : Setup) (before : List Happening) (this : Happening) (made : Accepted) (answer : TurnReport) (old new : RunAudit) → answer ≡ reported.Accepted made → Happens s before this answer →
    ((s : Setup) (past : Past) → KeepsAll s past (entry_made made) → Audits s past old → Audits s (entry_made made ∷ past) new) → Audits s (past_after s before) old → Audits s (past_after s (this ∷ before)) new
reported_audited s before this made answer old new is h observed audits = by this (subst (λ answer. ReportsOf s (past_after s before) this answer) is h.reports) h.given
  where
    by : (this : Happening) → ReportsOf s (past_after s before) this (reported.Accepted made) → AreGiven s (tried (this ∷ before)) → Audits s (past_after s (this ∷ before)) new
    by (Tries event) reports given =
        let more = keeps_more s before event (entry_made made) h.good given reports.1 in
        subst (λ past. Audits s past new) (sym more.1) (observed s (past_after s before) more.0 audits)
    by (Lacks p) reports given = absurd reports
    by (Tires p) reports given = absurd reports
    by Looks reports given = absurd reports

-- a report of anything else adds nothing to the past
pub other_audited : (s : Setup) (before : List Happening) (this : Happening) (answer : TurnReport) (old : RunAudit) → ((made : Accepted) → answer ≡ reported.Accepted made → ⊥) → Happens s before this answer → Audits s (past_after s before) old → Audits s (past_after s (this ∷ before)) old
other_audited s before this answer old other h audits = by this answer other h.reports
  where
    by : (this : Happening) (answer : TurnReport) → ((made : Accepted) → answer ≡ reported.Accepted made → ⊥) → ReportsOf s (past_after s before) this answer → Audits s (past_after s (this ∷ before)) old
    by (Tries event) (reported.Accepted made) other reports = absurd (other made refl)
    by (Tries event) (reported.Refused p refusal) other reports = subst (λ past. Audits s past old) (sym (past_kept s (tried before) event refusal reports.1)) audits
    by (Tries event) (reported.Tired p) other reports = absurd reports
    by (Tries event) (reported.Shown store) other reports = absurd reports
    by (Lacks p) answer other reports = audits
    by (Tires p) answer other reports = audits
    by Looks answer other reports = audits

-- a Step without a mark is observed
pub stepped_audited : (s : Setup) (before : List Happening) (made : UnmarkedStep) (old new : RunAudit) → StepsOn s before made →
    ((s : Setup) (past : Past) → KeepsAll s past (record { process = made.process; access = Some made.access; marks = [] }) → Audits s past old → Audits s (record { process = made.process; access = Some made.access; marks = [] } ∷ past) new) →
    Audits s (past_after s before) old → Audits s (past_after s (Tries (Step made.process made.flick) ∷ before)) new
stepped_audited s before made old new on observed audits =
    let more = keeps_more s before (Step made.process made.flick) (record { process = made.process; access = Some made.access; marks = [] }) on.good on.given on.adds in
    subst (λ past. Audits s past new) (sym more.1) (observed s (past_after s before) more.0 audits)

-- the newest Step of a stretch adds its entry after the others, and keeps all laws
record IsLast (s : Setup) (p : ℕ) (f : FlickState) (k : ℕ) (newest : Access) (before after : List Happening) : Type 0 where
  mid : List Happening
  tried_are : tried mid ≡ steps_on p f k (tried before)
  keeps : KeepsAll s (past_after s mid) (entry_by p (Some newest) [])
  at : past_after s after ≡ entry_by p (Some newest) [] ∷ past_after s mid

is_last : (s : Setup) (p : ℕ) (f : FlickState) (k : ℕ) (newest : Access) (overlapped : ℕ) (before after : List Happening) → PassBy s p f (suc k) newest overlapped before after → IsLast s p f k newest before after
is_last s p f k newest overlapped before after by =
    let (mid, flick, part, step, is) = last_step s p k before after by.within in
    let e : Entry = record { process = p; access = step.quiet.0; marks = [] } in
    let events : Step p flick ∷ tried mid ≡ Step p (flick_of (flicks_after k f)) ∷ steps_on p f k (tried before) = sym (ap tried is) ∙ by.tried_are in
    let at : past_after s after ≡ e ∷ past_after s mid = ap (past_after s) is ∙ past-after s (tried mid) (Step p flick) e step.quiet.1 in
    let both : e ∷ past_after s mid ≡ entry_by p (Some newest) [] ∷ by.newest_is.0 = sym at ∙ by.newest_is.1 in
    let same : e ≡ entry_by p (Some newest) [] = cc in
    record {
      mid = mid;
      tried_are = cc;
      keeps = subst (KeepsAll s (past_after s mid)) same (obeys s step.good (tried mid) (Step p flick) e (subst (λ (happened : List Happening). AreGiven s (tried happened)) is by.given) step.quiet.1);
      at = at ∙ ap (λ e. e ∷ past_after s mid) same;
    }

-- as many Steps are left in the register access on the auditor's core
remaining_audited : (s : Setup) (past : Past) (p n : ℕ) (audit : RunAudit) → Audits s past audit → n ≤ remaining_in (world_of s past).seats p → n ≤ remaining_in audit.auditor.core.seats p
remaining_audited s past p n audit audits few =
    let h = audits.observed in
    subst (λ (w : WorldState). n ≤ remaining_in w.seats p) (sym (h.shows.shown ∙ (λ i. world_of (audits.setup i) (h.past_is i)))) few

-- a stretch of Steps is observed
pub stretch_audited : (s : Setup) (p : ℕ) (f : FlickState) (n : ℕ) (newest : Access) (overlapped : ℕ) (before after : List Happening) (old new : RunAudit) (a : AuditorState) (law : Option Law) → 0 < n → PassBy s p f n newest overlapped before after → Audits s (past_after s before) old →
    ObservesRun old.auditor f p n newest a law → a.core.setup ≡ old.auditor.core.setup → new.auditor ≡ a → (law ≡ None → new.verdict ≡ old.verdict) → Audits s (past_after s after) new
stretch_audited s p f zero newest overlapped before after old new a law some by audits observes setup is kept = absurd (omega (arith, some))
stretch_audited s p f (suc k) newest overlapped before after old new a law some by audits observes setup is kept =
    let last : IsLast s p f k newest before after = is_last s p f k newest overlapped before after by in
    let e : Entry = entry_by p (Some newest) [] in
    let its : Setup = old.auditor.core.setup in
    let here : HasObserved old.auditor (past_of its (tried before)) = subst (λ (s : Setup). HasObserved old.auditor (past_of s (tried before))) (sym audits.setup) audits.observed in
    let less : suc k - 1 ≡ k = omega arith in
    let answer : IsObserved s (past_after s last.mid) e a law =
    subst (λ (s : Setup). IsObserved s (past_of s (tried last.mid)) e a law) audits.setup
    (subst (λ (events : List Event). IsObserved its (past_of its events) e a law) (sym last.tried_are)
    (subst (λ (n : ℕ). IsObserved its (past_of its (steps_on p f n (tried before))) e a law) less (observes (remaining_audited s (past_after s before) p (suc k) old audits by.remaining) (tried before) here))) in
    let both = kept_observed s (past_after s last.mid) e a law last.keeps answer in
    record {
      setup = ap (λ (a : AuditorState). a.core.setup) is ∙ setup ∙ audits.setup;
      observed = subst (λ (a : AuditorState). HasObserved a (past_after s after)) (sym is) (subst (HasObserved a) (sym last.at) both.1);
      kept = kept both.0 ∙ audits.kept;
    }

-- a stretch of one Step is observed by its entry
pub single_audited : (s : Setup) (p : ℕ) (f : FlickState) (n : ℕ) (newest : Access) (overlapped : ℕ) (before after : List Happening) (old new : RunAudit) → n ≡ 1 → PassBy s p f n newest overlapped before after →
    ((s : Setup) (past : Past) → KeepsAll s past (entry_by p (Some newest) []) → Audits s past old → Audits s (entry_by p (Some newest) [] ∷ past) new) →
    Audits s (past_after s before) old → Audits s (past_after s after) new
single_audited s p f n newest overlapped before after old new one by observed audits =
    let last : IsLast s p f 0 newest before after = is_last s p f 0 newest overlapped before after (subst (λ n. PassBy s p f n newest overlapped before after) one by) in
    let same : past_after s last.mid ≡ past_after s before = ap (past_of s) last.tried_are in
    subst (λ past. Audits s past new) (sym last.at) (observed s (past_after s last.mid) last.keeps (subst (λ past. Audits s past old) (sym same) audits))
