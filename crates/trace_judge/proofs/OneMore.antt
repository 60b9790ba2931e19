-- The verdict with one more entry.
use Rattle.std.proofs.Common.{◌≡◌, ℕ, ◌+◌, ◌++◌, [], ◌∷◌, List, length, reverse, Some, None, refl, ap, sym, subst, ◌∙◌}
use Rattle.std.proofs.lemmas.List.{length-append, length-reverse, reverse-append}
use Rattle.trace.specs.{TraceEntry, TracePast, TraceSetup}
use Rattle.trace_judge.specs.{AreReasonsAt, AreReasonsOf, HasJudged, Explains, HasSeen, JudgeState, TraceLaw, TraceState, TraceVerdict, first_broken, verdict_after, verdict_of, verdict_with}
use Rattle.trace_judge.specs.declared.verdicts.TraceVerdict.TheVariants.{Good, Bad}

-- some entries and one more, the newest first
pub newest_first : (entries : List TraceEntry) (e : TraceEntry) → reverse (entries ++ e ∷ []) ≡ e ∷ reverse entries
newest_first entries e = reverse-append entries (e ∷ [])

-- the verdict with one more entry, behind those that have a good one
pub verdict_good : (s : TraceSetup) (entries : List TraceEntry) (e : TraceEntry) → verdict_of s entries ≡ Good →
    verdict_of s (entries ++ e ∷ []) ≡ verdict_with (length entries) (first_broken s (reverse entries) e)
verdict_good s entries e good =
    ap (verdict_after s) (newest_first entries e)
    ∙ ap (λ v. elim v as (λ _. TraceVerdict) [ Good ↦ verdict_with (length (reverse entries)) (first_broken s (reverse entries) e) | Bad k l ↦ Bad k l ]) good
    ∙ ap (λ n. verdict_with n (first_broken s (reverse entries) e)) (length-reverse entries)

-- a bad one stays
pub verdict_bad : (s : TraceSetup) (entries : List TraceEntry) (e : TraceEntry) (k : ℕ) (l : TraceLaw) → verdict_of s entries ≡ Bad k l → verdict_of s (entries ++ e ∷ []) ≡ Bad k l
verdict_bad s entries e k l bad =
    ap (verdict_after s) (newest_first entries e)
    ∙ ap (λ v. elim v as (λ _. TraceVerdict) [ Good ↦ verdict_with (length (reverse entries)) (first_broken s (reverse entries) e) | Bad k l ↦ Bad k l ]) bad

more : (entries : List TraceEntry) (e : TraceEntry) (n : ℕ) → n ≡ length entries → n + 1 ≡ length (entries ++ e ∷ [])
more entries e n count = ap (λ n. n + 1) count ∙ sym (length-append entries (e ∷ []))

-- a judge with a good verdict, and an entry that breaks no law
pub goes_on : (old : JudgeState) (state : TraceState) (e : TraceEntry) (s : TraceSetup) (entries : List TraceEntry) → HasJudged old s entries → old.verdict ≡ Good →
    first_broken s (reverse entries) e ≡ None → state.memory.setup ≡ old.state.memory.setup → HasSeen state (e ∷ reverse entries) →
    HasJudged (record { state = state; verdict = old.verdict; entries = old.entries + 1; reasons = old.reasons }) s (entries ++ e ∷ [])
goes_on old state e s entries judged good unbroken same seen = record {
  good = judged.good;
  count = more entries e old.entries judged.count;
  verdict = good ∙ sym (verdict_good s entries e (sym judged.verdict ∙ good) ∙ ap (verdict_with (length entries)) unbroken);
  reasons = subst (λ v. AreReasonsOf s (entries ++ e ∷ []) v old.reasons) (sym good) (let none : AreReasonsOf s entries Good old.reasons = subst (λ v. AreReasonsOf s entries v old.reasons) good judged.reasons in none);
  setup = same ∙ judged.setup;
  seen = λ _. subst (λ (l : TracePast). HasSeen state l) (sym (newest_first entries e)) seen;
}

-- a judge with a good verdict, and an entry that breaks a law, with its reasons
pub finds : (old new : JudgeState) (e : TraceEntry) (l : TraceLaw) (s : TraceSetup) (entries : List TraceEntry) → HasJudged old s entries → old.verdict ≡ Good →
    first_broken s (reverse entries) e ≡ Some l → Explains s (reverse entries) e l new.reasons →
    new.state ≡ old.state → new.entries ≡ old.entries + 1 →
    HasJudged (record { state = new.state; verdict = Bad old.entries l; entries = new.entries; reasons = new.reasons }) s (entries ++ e ∷ [])
finds old new e l s entries judged good broken explains state count = record {
  good = judged.good;
  count = count ∙ more entries e old.entries judged.count;
  verdict = (λ i. Bad (judged.count i) l) ∙ sym (verdict_good s entries e (sym judged.verdict ∙ good) ∙ ap (verdict_with (length entries)) broken);
  reasons = record {
    entry = e;
    past = reverse entries;
    later = [];
    splits = newest_first entries e;
    number = length-reverse entries ∙ sym judged.count;
    broken = broken;
    given = explains.given;
    is = explains.is;
    are = explains.are;
  };
  setup = ap (λ (k : TraceState). k.memory.setup) state ∙ judged.setup;
  seen = λ h. absurd (let bad : Bad old.entries l ≡ Good = h in cc);
}

-- a judge with a bad verdict
pub stays_bad : (old : JudgeState) (e : TraceEntry) (s : TraceSetup) (entries : List TraceEntry) → HasJudged old s entries → (old.verdict ≡ Good → ⊥) →
    HasJudged (record { state = old.state; verdict = old.verdict; entries = old.entries + 1; reasons = old.reasons }) s (entries ++ e ∷ [])
stays_bad old e s entries judged bad = by old.verdict refl judged.reasons
  where
    by : (v : TraceVerdict) → old.verdict ≡ v → AreReasonsOf s entries old.verdict old.reasons →
        HasJudged (record { state = old.state; verdict = old.verdict; entries = old.entries + 1; reasons = old.reasons }) s (entries ++ e ∷ [])
    by Good is reasons = absurd (bad is)
    by (Bad k l) is reasons =
        let at : AreReasonsAt s entries k l old.reasons = subst (λ v. AreReasonsOf s entries v old.reasons) is reasons in
        record {
          good = judged.good;
          count = more entries e old.entries judged.count;
          verdict = is ∙ sym (verdict_bad s entries e k l (sym judged.verdict ∙ is));
          reasons = subst (λ v. AreReasonsOf s (entries ++ e ∷ []) v old.reasons) (sym is) (record {
            entry = at.entry;
            past = at.past;
            later = e ∷ at.later;
            splits = newest_first entries e ∙ ap (λ (l : TracePast). e ∷ l) at.splits;
            number = at.number;
            broken = at.broken;
            given = at.given;
            is = at.is;
            are = at.are;
          });
          setup = judged.setup;
          seen = λ good. absurd (bad good);
        }
