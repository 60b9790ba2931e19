-- The verdict on a record decides whether its entries keep all laws.
use Rattle.std.specs.Prelude.{◌≡◌, true, false, List}
use Rattle.std.proofs.Common.{ap, sym, true≢false, ◌∙◌}
use Rattle.plain_store.specs.{Setup}
use Rattle.model.specs.{Entry}
use Rattle.auditor.specs.safe_monitor.{Verdict, is_good}
use Rattle.auditor.specs.safe_monitor.declared.verdicts.Verdict.TheVariants.{Good, Bad}

-- if the verdict is good, each entry keeps all laws
pub found_good : {L : Type 0} (IsVerdict : Setup → List Entry → Verdict L → Type 0) (s : Setup) (entries : List Entry) (v : Verdict L) → IsVerdict s entries v → is_good v ≡ true → IsVerdict s entries Good
found_good IsVerdict s entries Good is good = is
found_good IsVerdict s entries (Bad k l) is good = absurd (true≢false (sym good))

-- if the verdict is bad, not every entry keeps all laws
pub found_bad : {L : Type 0} (IsVerdict : Setup → List Entry → Verdict L → Type 0) → ((s : Setup) (entries : List Entry) (v w : Verdict L) → IsVerdict s entries v → IsVerdict s entries w → v ≡ w) →
    (s : Setup) (entries : List Entry) (v : Verdict L) → IsVerdict s entries v → is_good v ≡ false → IsVerdict s entries Good → ⊥
found_bad IsVerdict one s entries v is bad keeps = true≢false (sym (ap is_good (one s entries v Good is keeps)) ∙ bad)
