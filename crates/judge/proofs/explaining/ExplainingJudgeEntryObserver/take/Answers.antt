use Rattle.std.proofs.Common.{◌<◌, ◌^◌, length, sym, ◌∙◌, arith}
use Rattle.model.specs.{Entry}
use Rattle.auditor.specs.safe_monitor.{entry_by}
use Rattle.judge.proofs.Explained.{gets_bad, still_bad, still_good}
use Rattle.judge.proofs.explaining.ExplainingJudgeEntryObserver.take.Goals as goal
use Rattle.judge.proofs.explaining.ExplainingJudgeEntryObserver.take.Goals.{then-not-was_good-via-then-not-was_good, then-not-was_good-via-else-not-was_good+then-is_good}

pub returns-then-not-was_good : goal.returns-then-not-was_good
returns-then-not-was_good g c =
    let J = g.J.RecordJudge in
    let laws = g.met.J.RecordJudge in
    let e : Entry = entry_by c.args.process c.args.access.now c.args.marks.now in
    λ s entries numbers had. elim c.then-not-was_good.branch [
      | then-not-was_good-via-then-not-was_good w ↦
          still_bad J.HasJudged J.verdict J.AreReasons J.IsVerdict laws.finds laws.one laws.stays laws.newest c.args.self.now.judge c.observe.new.self c.args.number e s entries numbers c.args.self.now.reasons.items had (c.observe.ensures.observed s entries had.judged)
          (sym c.is_good-was_good.ensures ∙ w.if-not-was_good.true)
      | then-not-was_good-via-else-not-was_good+then-is_good w ↦
          still_good J.HasJudged J.verdict J.AreReasons J.IsVerdict laws.finds laws.one laws.stays laws.newest c.args.self.now.judge c.observe.new.self c.args.number e s entries numbers c.args.self.now.reasons.items had (c.observe.ensures.observed s entries had.judged)
          (sym c.is_good-was_good.ensures ∙ w.if-not-was_good.false) (sym w.is_good.ensures ∙ w.if-is_good.true)
    ]

pub returns : goal.returns
returns g c =
    let J = g.J.RecordJudge in
    let laws = g.met.J.RecordJudge in
    let e : Entry = entry_by c.args.process c.args.access.now c.args.marks.now in
    let lines = c.in_ok-self.field-0.items in
    λ s entries numbers had.
    let few : length entries < 2 ^ 64 = let count = laws.counts c.args.self.now.judge s entries had.judged in omega (arith, count, c.requires) in
    gets_bad J.HasJudged J.verdict J.AreReasons J.IsVerdict laws.finds laws.one laws.stays laws.newest c.args.self.now.judge c.observe.new.self c.args.number e s entries numbers c.args.self.now.reasons.items had (c.observe.ensures.observed s entries had.judged)
    lines few (sym c.is_good-was_good.ensures ∙ c.if-not-was_good.false) (sym c.is_good.ensures ∙ c.if-is_good.false) c.in_ok-self.ensures
