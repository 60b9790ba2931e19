-- The state of a record as text, and how it is that of a run.
use Rattle.std.proofs.Common.{◌≡◌, ℕ, zero, suc, ◌-◌, List, [], ◌∷◌, ◌++◌, length, reverse, take, drop, refl, ap, sym, subst, ◌∙◌, arith, append-nil, append_assoc, inl, inr}
use Rattle.std.proofs.lemmas.Bool.{cases_lt}
use Rattle.std.proofs.lemmas.List.{length-drop, length-reverse, reverse-append, reverse-reverse, take-append-drop, take_all, take_at}
use Rattle.plain_store.specs.{Setup}
use Rattle.model.specs.{Entry, Past, Taken, history, past_of}
use Rattle.calls.specs.world.{CoreState, with_history}
use Rattle.calls.specs.world.Shows.{Shows}
use Rattle.judge.specs.Judgements.{status_of_verdict}
use Rattle.judge.specs.{HasAudited}
use Rattle.judge.specs.auditor.{AllKeep, Law, Verdict}
use Rattle.judge.specs.safe_monitor.declared.verdicts.Verdict.TheVariants.{Good}
use Rattle.judge.proofs.auditor.Unique.{one_verdict}
use Rattle.judge.proofs.auditor.Whole.{good_of}
use Rattle.run_state.specs.{HasObservedRecord, RecordStateObserver, RecordsHaveStatesOfRuns, HasObservedWorld, IsStored, ReportsState, bad_line, count_line, first_of, good_ones, line_of_newest, newest_line, newest_lines, newest_stored, recorded_state, state_after, state_lines}
use Rattle.run_state.proofs.Observed.{audited, good_length}

-- What is written.

-- the newest entry and the number of its line
newest_written : (numbers : List ℕ) (past : Past) → length numbers ≡ length past → newest_lines (newest_stored numbers past) ≡ newest_line past ++ line_of_newest numbers
newest_written [] [] same = refl
newest_written (n ∷ numbers) (e ∷ past) same = refl
newest_written [] (e ∷ past) same = absurd (omega (arith, same))
newest_written (n ∷ numbers) [] same = absurd (omega (arith, same))

-- the parts in their order
in_order : (count newest made rest : List ℕ) → (count ++ (newest ++ made)) ++ rest ≡ (count ++ newest) ++ (made ++ rest)
in_order count newest made rest = ap (λ l. l ++ rest) (sym (append_assoc count newest made)) ∙ append_assoc (count ++ newest) made rest

-- the observed run has observed the past of the judge's core
corresponds : (o : RecordStateObserver) (s : Setup) (entries : List Entry) (numbers : List ℕ) → HasAudited o.judge.auditor s (reverse entries) → IsStored o.good s entries numbers → HasObservedWorld o.good.observed_run o.judge.auditor.core o.good.taken.items (reverse entries)
corresponds o s entries numbers observed stores =
    let core : CoreState = o.judge.auditor.core in
    let past : Past = reverse entries in
    let taken : o.good.taken.items ≡ history core.setup past = stores.taken ∙ ap (λ (t : Setup). history t past) (sym observed.setup) in
    record {
      observed = stores.observed;
      setup = observed.setup ∙ sym stores.observed_run;
      events = observed.observed.events;
      shows = subst (λ (l : List Taken). Shows (with_history core l) observed.observed.events) (sym taken) observed.observed.shows;
      is_past = sym observed.observed.past_is;
    }

-- the text of an observer, from its parts
pub reported_is : (o : RecordStateObserver) (s : Setup) (entries : List Entry) (numbers : List ℕ) (counted newest lined reported : List ℕ) (status : ℕ) → HasObservedRecord o s entries numbers →
    counted ≡ count_line o.good.observed_run.entries → newest ≡ counted ++ newest_lines o.good.newest → ((past : Past) → HasObservedWorld o.good.observed_run o.judge.auditor.core o.good.taken.items past → lined ≡ newest ++ state_lines o.good.observed_run.setup past) →
    reported ≡ lined ++ bad_line o.judge.verdict → status ≡ status_of_verdict o.judge.verdict → ReportsState s entries numbers reported status
reported_is o s entries numbers counted newest lined reported status h first second third fourth answer = record {
  verdict = v;
  is = h.judged.verdict;
  state = fourth ∙ ap (λ l. l ++ bad_line v) (third past here ∙ (λ i. written i ++ state_lines (h.stores.observed_run i) past) ∙ in_order (count_line (length past)) (newest_line past) made (state_lines s past));
  answer = answer;
}
  where
    v : Verdict Law
    v = o.judge.verdict

    good : List Entry
    good = good_ones v entries

    lines : List ℕ
    lines = good_ones v numbers

    past : Past
    past = reverse good

    made : List ℕ
    made = line_of_newest (reverse lines)

    here : HasObservedWorld o.good.observed_run o.judge.auditor.core o.good.taken.items past
    here = corresponds o s good lines (audited o.judge s entries h.judged) h.stores

    same : length (reverse lines) ≡ length past
    same = length-reverse lines ∙ good_length v numbers entries h.counted ∙ sym (length-reverse good)

    written : newest ≡ count_line (length past) ++ (newest_line past ++ made)
    written = second ∙ (λ i. (first ∙ ap count_line h.stores.observed.entries) i ++ (ap newest_lines h.stores.newest ∙ newest_written (reverse lines) past same) i)

-- The record of a run.

-- its first entries
first_entries : (n : ℕ) (past : Past) → reverse (take n (reverse past)) ≡ first_of n past
first_entries n past = elim (cases_lt n (length past)) [
  | inl less ↦
      let rest : length (reverse (drop i past)) ≡ n = length-reverse (drop i past) ∙ length-drop i past ∙ (let is : i ≡ length past - n = refl in omega (arith, is, less)) in
      ap (λ l. reverse (take n l)) split ∙ ap reverse (take_at (reverse (drop i past)) (reverse (take i past)) n rest) ∙ reverse-reverse (drop i past)
  | inr all ↦
      let none : length past - n ≡ 0 = omega arith in
      ap reverse (take_all n (reverse past) (omega (arith, all, length-reverse past))) ∙ reverse-reverse past ∙ ap (λ k. drop k past) (sym none)
]
  where
    i : ℕ
    i = length past - n

    split : reverse past ≡ reverse (drop i past) ++ reverse (take i past)
    split = ap reverse (sym (take-append-drop i past)) ∙ reverse-append (take i past) (drop i past)

-- each of them keeps all laws
keep_from : (s : Setup) (i : ℕ) (past : Past) → AllKeep s past → AllKeep s (drop i past)
keep_from s zero past all = all
keep_from s (suc i) [] all = all
keep_from s (suc i) (e ∷ past) all = keep_from s i past all.1

pub as_runs : RecordsHaveStatesOfRuns
as_runs s good events given n numbers reported status reports = (
  reports.state ∙ ap (λ (v : Verdict Law). recorded_state s (good_ones v first) (good_ones v (take n numbers)) ++ bad_line v) is_good ∙ append-nil (recorded_state s first (take n numbers))
      ∙ ap (state_after (line_of_newest (reverse (take n numbers))) s) (first_entries n past),
  reports.answer ∙ ap status_of_verdict is_good,
)
  where
    past : Past
    past = past_of s events

    first : List Entry
    first = take n (reverse past)

    kept : AllKeep s (reverse first)
    kept = subst (AllKeep s) (sym (first_entries n past)) (keep_from s (length past - n) past (good_of s good events given))

    is_good : reports.verdict ≡ Good
    is_good = one_verdict s first reports.verdict Good reports.is kept
