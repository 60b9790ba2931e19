-- The lines of the reasons of a bad verdict on a record of any lock.
use Rattle.std.proofs.Common.{◌≡◌, ℕ, List, Option, Some, sym, subst, ◌∙◌}
use Rattle.plain_store.specs.{Setup}
use Rattle.model.specs.{Entry, Past}
use Rattle.any_lock.specs.{AnyLockLaw, AreReasons, AreReasonsAt, AreReasonsOf, HasJudged, JudgeState, Verdict, verdict_of}
use Rattle.any_lock.specs.declared.reasons.Reasons.{Reasons}
use Rattle.judge.specs.{AreAnyLockReasons, GivesReasons, any_reason_lines}
use Rattle.judge.proofs.Splits.{one_place}

-- the lines of the reasons that the judge has looked up
pub gives_written : (j : JudgeState) (n : ℕ) (e : Entry) (lines : List ℕ) (reported : Option Reasons) → ((s : Setup) (entries : List Entry) → HasJudged j s entries → AreReasonsOf s entries (verdict_of s entries) reported) → ((r : Reasons) → reported ≡ Some r → lines ≡ any_reason_lines n e r) →
    GivesReasons HasJudged (λ (j : JudgeState). j.verdict) AreAnyLockReasons j n e lines
gives_written j n e lines reported reasons written s entries past k l judged bad at few =
    let here : AreReasonsAt s entries k l reported = subst (λ (v : Verdict AnyLockLaw). AreReasonsOf s entries v reported) (sym judged.verdict ∙ bad) (reasons s entries judged) in
    let same = one_place entries k here.entry e here.past past (record { later = here.later; splits = here.splits; number = here.number }) at in
    (here.reported, subst (λ (x : Entry). AreReasons s past x l here.reported) same.0 (subst (λ (xs : Past). AreReasons s xs here.entry l here.reported) same.1 here.are), written here.reported here.is)
