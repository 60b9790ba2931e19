use Rattle.std.proofs.Common.{◌≡◌, ◌<◌, length, ◌∙◌, sym, ap, arith, inl, inr}
use Rattle.model.specs.{newest_stamp}
use Rattle.process.specs.declared.newest_version.NewestVersion.{NewestVersion}
use Rattle.process.proofs.NewestSteps.{newest-new, newest-old}
use Rattle.process.proofs.newest_version.NewestVersion.with.Goals as goal

pub returns-then-self-stamp-clause-newest : goal.returns-then-self-stamp-clause-newest
returns-then-self-stamp-clause-newest c = λ versions many kept.
    let stamp : c.args.self.stamp ≡ newest_stamp versions = ap (λ (n : NewestVersion). n.stamp) kept in
    newest-new versions c.args.version.0 c.args.version.1 c.args.process (sym many) (elim c.if-self-stamp.either [
      | inl first ↦ inl first
      | inr above ↦ inr (omega (arith, above.1, stamp))
    ])

pub returns-else-self-stamp-clause-newest : goal.returns-else-self-stamp-clause-newest
returns-else-self-stamp-clause-newest c = λ versions many kept.
    let stamp : c.args.self.stamp ≡ newest_stamp versions = ap (λ (n : NewestVersion). n.stamp) kept in
    let some : 0 < length versions = omega (arith, many, c.if-self-stamp.false.0) in
    kept ∙ newest-old versions c.args.version.0 c.args.version.1 some (omega (arith, stamp, c.if-self-stamp.false.1))
