-- Which verdicts are good.
use Rattle.std.proofs.Common.{◌≡◌, true, false, refl, ap, sym, ◌∙◌, true≢false}
use Rattle.safe_monitor.specs.{Verdict, is_good}
use Rattle.safe_monitor.specs.declared.verdicts.Verdict.TheVariants.{Good, Bad}

pub good_is : {L : Type 0} (v : Verdict L) → is_good v ≡ true → v ≡ Good
good_is Good is = refl
good_is (Bad k l) is = absurd (true≢false (sym is))

pub bad_is : {L : Type 0} (v : Verdict L) → is_good v ≡ false → v ≡ Good → ⊥
bad_is v is good = true≢false (sym (ap is_good good) ∙ is)
