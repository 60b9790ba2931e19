-- A record that is good for any lock has the table of a run, without the processes that calls waited for.
use Rattle.std.proofs.Common.{◌≡◌, ℕ, ◌-◌, ◌==◌, Bool, true, false, not, ◌&&◌, cond, [], ◌∷◌, ◌++◌, Option, None, Some, flat_map, length, reverse, refl, sym, ap, subst, ◌∙◌}
use Rattle.std.specs.Prelude.{option_map}
use Rattle.std.proofs.lemmas.List.{reverse-reverse}
use Rattle.plain_store.specs.{Setup}
use Rattle.model.specs.{Entry, Past, has, is_called, past_of, processes}
use Rattle.calls.specs.Lines.{header, line_of}
use Rattle.world.specs.{ends_overlapped_read}
use Rattle.calls.specs.{Called, called, count_in_call, ended_call, ended_of_process, ended_recorded, is_calling, more_if, open_call, open_recorded, overlaps_in, recorded, recorded_lines}
use Rattle.judge.specs.any_lock.{verdict_after}
use Rattle.judge.specs.auditor.Verdicts as own_lock
use Rattle.judge.proofs.GoodIsGood.{good_is_good}
use Rattle.judge.proofs.any_lock.Alone.{AllKeep, all_keep}
use Rattle.judge.proofs.auditor.Whole.{good_of}
use Rattle.calls.specs.{GoodRecordsListAsRuns, RecordsOfRunsListAsRuns, lines_without_waits, without_wait}
use Rattle.calls.proofs.Ends.{calls_at_rest, exists, overlaps_same}

-- as many overlapped reads are counted
counts_same : (s : Setup) (p : ℕ) (past : Past) → AllKeep s past → count_in_call p (overlaps_in s) past ≡ count_in_call p ends_overlapped_read past
counts_same s p [] all = refl
counts_same s p (e ∷ past) all = λ i. elim (e.process == p) as (λ _. ℕ) [
  | false ↦ counts_same s p past all.1 i
  | true ↦ elim (has is_called e) as (λ _. ℕ) [ true ↦ 0 | false ↦ more_if (overlaps_same s past e all.0 i) (counts_same s p past all.1 i) ]
]

-- a call
recorded_same : (s : Setup) (p : ℕ) (past : Past) → AllKeep s past → recorded s p past ≡ without_wait (called s p past)
recorded_same s p past all = λ i. record (recorded s p past) { accesses = record (recorded s p past).accesses { overlapped = counts_same s p past all i } }

-- a call that goes on
open_same : (s : Setup) (p : ℕ) (past : Past) → AllKeep s past → open_recorded s p past ≡ option_map without_wait (open_call s p past)
open_same s p past all = by (is_calling p past)
  where
    by : (b : Bool) → cond b (Some (recorded s p past)) None ≡ option_map without_wait (cond b (Some (called s p past)) None)
    by true = ap Some (recorded_same s p past all)
    by false = refl

-- one that ends
ended_same : (s : Setup) (past : Past) (e : Entry) → AllKeep s (e ∷ past) → ended_recorded s past e ≡ option_map without_wait (ended_call s past e)
ended_same s past e all = ap (λ b. cond b (ended_of_process s past e) None) (exists s past e all.0) ∙ by (has is_called e) refl
  where
    p : ℕ
    p = e.process

    ends : Bool
    ends = is_calling p past && not (is_calling p (e ∷ past))

    by : (called_now : Bool) → has is_called e ≡ called_now →
        elim called_now as (λ _. Option Called) [ true ↦ open_recorded s p past | false ↦ cond ends (Some (recorded s p (e ∷ past))) None ] ≡ option_map without_wait (cond ends (Some (called s p (e ∷ past))) None)
    by true some =
        let none = calls_at_rest s past e all.1 all.0 some in
        ap (λ b. cond b (Some (recorded s p past)) None) none ∙ ap (λ b. option_map without_wait (cond (b && not (is_calling p (e ∷ past))) (Some (called s p (e ∷ past))) None)) (sym none)
    by false none = go ends
      where
        go : (b : Bool) → cond b (Some (recorded s p (e ∷ past))) None ≡ option_map without_wait (cond b (Some (called s p (e ∷ past))) None)
        go true = ap Some (recorded_same s p (e ∷ past) all)
        go false = refl

lines_same : (s : Setup) (past : Past) → AllKeep s past → recorded_lines s past ≡ lines_without_waits s past
lines_same s [] all = refl
lines_same s (e ∷ past) all = λ i. lines_same s past all.1 i ++ line_of (length past) (ended_same s past e all i)

pub good_list : GoodRecordsListAsRuns
good_list s past good = λ i. header ++ (lines_same s past all i ++ flat_map (λ p. line_of (length past - 1) (open_same s p past all i)) (processes s))
  where
    all : AllKeep s past
    all = all_keep s past good

pub runs_list : RecordsOfRunsListAsRuns
runs_list s good events given =
    let past : Past = past_of s events in
    let kept : own_lock.AllKeep s past = good_of s good events given in
    let twice : reverse (reverse past) ≡ past = reverse-reverse past in
    good_list s past (ap (verdict_after s) (sym twice) ∙ good_is_good s good (reverse past) (subst (λ (l : Past). own_lock.AllKeep s l) (sym twice) kept))
