-- The judges of a record that is drawn.
use Rattle.std.specs.Prelude.{ℕ, Result}
use Rattle.scenario.specs.files.Engines.{Streams}
use Rattle.scenario.specs.files.{Fault}
use Rattle.judge.specs.auditor.{IsVerdict}
use Rattle.judge.specs.any_lock.{IsVerdict as IsAnyLockVerdict, law_text as any_lock_law}
use Rattle.judge.specs.safe_monitor.declared.verdicts.Verdict.TheVariants.{Good}
use Rattle.judge.specs.safe_monitor.{law_text}
use Rattle.judge.specs.{AreAnyLockReasons, AreReasons, ReportsReasons}
use Rattle.picture.specs.{Form}
use Rattle.picture.specs.declared.reads.PictureOptions.{PictureOptions}
use Rattle.draw.specs.Sheets.{DrewJudged}
use Rattle.draw.specs.declared.records.engines.JudgedBy.{JudgedBy}
use Rattle.draw.specs.declared.records.engines.JudgedBy.TheVariants.{ThisLock, AnyLock}

-- How drawing a record ends if this judge observes it. Each judge has laws that entries keep, and reports a verdict with its reasons.
abbrev pub DrewJudgedBy : JudgedBy → PictureOptions → Form → Result ℕ Fault → Streams → Streams → Type 0
DrewJudgedBy ThisLock = DrewJudged (λ s entries. IsVerdict s entries Good) (ReportsReasons law_text IsVerdict AreReasons)
DrewJudgedBy AnyLock = DrewJudged (λ s entries. IsAnyLockVerdict s entries Good) (ReportsReasons any_lock_law IsAnyLockVerdict AreAnyLockReasons)
