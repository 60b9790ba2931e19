-- The record of each run is that of a list of events, and so it is good.
use Rattle.std.proofs.Common.{◌≡◌, suc, List, [], ◌∷◌, filter, length, map, reverse, None, Ok, refl, ap, sym, subst, ◌∙◌}
use Rattle.std.proofs.lemmas.List.{reverse-reverse}
use Rattle.std.proofs.lemmas.List.Elements.{All-head, All-tail}
use Rattle.std.specs.List.{All, AllZip}
use Rattle.plain_store.specs.{Setup, checked}
use Rattle.model.specs.{AreGiven, past_of}
use Rattle.auditor.specs.{AllKeep, IsVerdict, Law, Verdict}
use Rattle.auditor.specs.safe_monitor.declared.verdicts.Verdict.TheVariants.{Good, Bad}
use Rattle.auditor.proofs.Unique.{not_bad}
use Rattle.auditor.proofs.Whole.{good_of}
use Rattle.sweeper.specs.{AreAllGood, Counts, Cut, IsFound, Swept, SweptRunsAreGood, all_good, cuts, first_bad_of, is_good, record_of_cut}
use Rattle.sweeper.proofs.Soundness.{given_cuts}

-- each entry of the run keeps all laws
abbrev pub IsGoodRun : Setup → Cut → Type 0
IsGoodRun s c = AllKeep s (past_of s c.run.events)

-- the verdict of the run is then `Good`
is_verdict : (s : Setup) (c : Cut) → IsGoodRun s c → IsVerdict s (record_of_cut s c) Good
is_verdict s c keeps = subst (AllKeep s) (sym (reverse-reverse (past_of s c.run.events))) keeps

-- the verdicts of all runs
all_kept : (s : Setup) (cs : List Cut) (vs : List (Verdict Law)) → All (IsGoodRun s) cs → AllZip (λ c v. IsVerdict s (record_of_cut s c) v) cs vs → (length (filter is_good vs) ≡ length cs) × (first_bad_of cs vs ≡ None)
all_kept s [] [] keeps each = (refl, refl)
all_kept s [] (v ∷ vs) keeps each = absurd each
all_kept s (c ∷ cs) [] keeps each = absurd each
all_kept s (c ∷ cs) (Bad k l ∷ vs) keeps each = absurd (not_bad s (record_of_cut s c) k l (is_verdict s c (All-head (IsGoodRun s) c cs keeps)) each.0)
all_kept s (c ∷ cs) (Good ∷ vs) keeps each =
    let more = all_kept s cs vs (All-tail (IsGoodRun s) c cs keeps) each.1 in
    (ap suc more.0, more.1)

-- events that are given make good runs
good_runs : (s : Setup) → checked s ≡ Ok tt → (cs : List Cut) → All (λ (c : Cut). AreGiven s c.run.events) cs → All (IsGoodRun s) cs
good_runs s good cs given k d l = good_of s good _ (given k d l)

pub swept_good : SweptRunsAreGood
swept_good s good events calls given commands found is =
    let runs : List Cut = cuts s calls (reverse events) in
    let keeps : All (IsGoodRun s) runs = good_runs s good runs (given_cuts s calls commands (reverse events) given) in
    let all = all_kept s runs is.verdicts keeps is.each in
    (is.good ∙ all.0 ∙ sym is.runs, is.first_bad ∙ all.1)

-- The counts of good runs are the result of the sweep.

all_verdicts : (s : Setup) (cs : List Cut) → All (IsGoodRun s) cs → AllZip (λ c v. IsVerdict s (record_of_cut s c) v) cs (map (λ (c : Cut). Good) cs)
all_verdicts s [] keeps = tt
all_verdicts s (c ∷ cs) keeps = (is_verdict s c (All-head (IsGoodRun s) c cs keeps), all_verdicts s cs (All-tail (IsGoodRun s) c cs keeps))

pub is_found : (s : Setup) (cs : List Cut) (found : Swept) → Counts s cs found → IsFound s cs found
is_found s cs found counts =
    let verdicts : List (Verdict Law) = map (λ (c : Cut). Good) cs in
    let each = all_verdicts s cs counts.good in
    let all = all_kept s cs verdicts counts.good each in
    record {
      verdicts = verdicts;
      each = each;
      runs = counts.runs;
      good = counts.all ∙ sym all.0;
      stuck = counts.stuck;
      first_bad = counts.none_bad ∙ sym all.1;
    }

-- so its counts are these
pub found_is : (s : Setup) (cs : List Cut) (found : Swept) → IsFound s cs found → AreAllGood found → found ≡ all_good cs
found_is s cs found is good = λ i. record { runs = is.runs i; good = (good.0 ∙ is.runs) i; stuck = is.stuck i; first_bad = good.1 i }
