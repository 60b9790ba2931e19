-- The verdict of any lock's judge on a record that is good for this project's lock.
use Rattle.std.proofs.Common.{◌≡◌, true, false, List, [], ◌∷◌, Some, None, Ok, length, reverse, refl, sym, ap, subst, ◌∙◌, true≢false}
use Rattle.std.specs.Prelude.{if◌then◌else◌}
use Rattle.plain_store.specs.{Setup, checked}
use Rattle.model.specs.{Entry, Event, Past, Withdraws, doorway_begin, entry_of, is_running, number_in_call, past_of, stage}
use Rattle.model.proofs.Width.{IsGood, is_good}
use Rattle.any_lock.specs.safe_monitor.laws.{Doing, Runs, Closes, doing}
use Rattle.any_lock.proofs.safe_monitor.laws.Doings as laws
use Rattle.any_lock.proofs.safe_monitor.laws.FrameInside.{stage-is}
use Rattle.judge.specs.auditor.{IsOfEvent, KeepsAll}
use Rattle.judge.specs.auditor.Verdicts as own
use Rattle.judge.specs.safe_monitor.declared.verdicts.Law.TheVariants as law
use Rattle.judge.proofs.auditor.Recovers.{recovers}
use Rattle.judge.proofs.auditor.Whole.{of_events}
use Rattle.any_lock.specs.declared.any_lock_law.AnyLockLaw.TheVariants as any
use Rattle.any_lock.specs.{AnyLockLaw, Verdict, breaks_overtaken, breaks_safe, broken_later, first_broken, has_access, refusal_of_access, refusal_of_marks, verdict_after, verdict_with}
use Rattle.judge.specs.safe_monitor.declared.verdicts.Verdict.TheVariants.{Good, Bad}
use Rattle.any_lock.proofs.Alone.{AllKeep, Keeps}
use Rattle.any_lock.proofs.Breaks.{at_inside, broken_by, inside_is}
use Rattle.any_lock.proofs.Took.{CallTakes, all_take}
use Rattle.judge.specs.{DoorwaysAreOne, GoodIsGood}
use Rattle.judge.proofs.Accesses.{keeps_access}
use Rattle.judge.proofs.Good.{keeps_history, keeps_together}
use Rattle.judge.proofs.MarksKept.{keeps_marks}
use Rattle.judge.proofs.OneDoorway.{DoorwayOf, doorways, keeps_overtaken}

-- An entry keeps all laws of any lock.
entry_keeps : (s : Setup) → checked s ≡ Ok tt → (past : Past) (e : Entry) → own.KeepsAll s past e → own.AllKeep s past → AllKeep s past → Keeps s past e
entry_keeps s good past e kept all before = record {
  access = subst (λ l. refusal_of_access s l e ≡ None) from.1 (keeps_access s g from.0 here.0 e added);
  marks = subst (λ l. refusal_of_marks s l e ≡ None) from.1 (keeps_marks s g from.0 here.0 e added (subst (CallTakes e.process) (sym from.1) (all_take s past before e.process)));
  together = keeps_together s past e (kept law.Together);
  overtaken = subst (λ l. breaks_overtaken s l e ≡ false) from.1 (keeps_overtaken s g from.0 here.0 e added (subst (λ l. own.Keeps law.Overtaken s l e) (sym from.1) (kept law.Overtaken)));
  history = keeps_history s past e (kept law.History);
}
  where
    g : IsGood s
    g = is_good s good

    from : (events : List Event) × (past_of s events ≡ past)
    from = of_events s past all

    here : IsOfEvent s past e
    here = recovers s past e kept

    added : entry_of s (past_of s from.0) here.0 ≡ Some e
    added = ap (λ l. entry_of s l here.0) from.1 ∙ here.1

all_keep : (s : Setup) → checked s ≡ Ok tt → (past : Past) → own.AllKeep s past → AllKeep s past
all_keep s good [] all = tt
all_keep s good (e ∷ past) all = let before : AllKeep s past = all_keep s good past all.1 in (entry_keeps s good past e all.0 all.1 before, before)

-- the entry breaks no law of any lock
breaks_none : (s : Setup) (past : Past) (e : Entry) → breaks_safe s past e ≡ false → Keeps s past e → first_broken s past e ≡ None
breaks_none s past e safe kept =
    ap (λ b. if b then Some any.Safe else broken_later s past e) safe ∙ at_inside s past e kept.access kept.marks ∙ inside_is s past e false false false kept.together kept.overtaken kept.history

good_past : (s : Setup) → checked s ≡ Ok tt → (past : Past) → own.AllKeep s past → verdict_after s past ≡ Good
good_past s good [] all = refl
good_past s good (e ∷ past) all =
    let kept : AllKeep s (e ∷ past) = all_keep s good (e ∷ past) all in
    ap (λ v. elim v as (λ _. Verdict AnyLockLaw) [ Good ↦ verdict_with (length past) (first_broken s past e) | Bad k l ↦ Bad k l ]) (good_past s good past all.1)
    ∙ ap (verdict_with (length past)) (breaks_none s past e (broken_by s past e (all.0 law.Safe)) kept.0)

pub good_is_good : GoodIsGood
good_is_good s good entries kept = good_past s good (reverse entries) kept

pub doorways_are_one : DoorwaysAreOne
doorways_are_one s good past all p runs = subst (λ l. number_in_call p has_access l ≡ doorway_begin p l) from.1 (by (doing s p (past_of s from.0)) (doorways s g from.0 p) is_running_now)
  where
    g : IsGood s
    g = is_good s good

    from : (events : List Event) × (past_of s events ≡ past)
    from = of_events s past all

    is_running_now : is_running (laws.stage_of (doing s p (past_of s from.0))) ≡ true
    is_running_now = ap is_running (sym (stage-is s g from.0 p)) ∙ ap (λ l. is_running (stage p l)) from.1 ∙ runs

    by : (d : Doing) → DoorwayOf (past_of s from.0) p d → is_running (laws.stage_of d) ≡ true → number_in_call p has_access (past_of s from.0) ≡ doorway_begin p (past_of s from.0)
    by (Runs command number at) h run = h.same
    by (Closes command number (Withdraws w)) h run = h.same
    by _ h run = absurd (true≢false (sym run))
