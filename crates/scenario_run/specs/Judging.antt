-- The audit of the entries of a run.
use Rattle.std.specs.Prelude.{◌≡◌}
use Rattle.plain_store.specs.{Setup}
use Rattle.model.specs.{Past}
use Rattle.auditor.specs.{HasObserved}
use Rattle.auditor.specs.safe_monitor.declared.verdicts.Verdict.TheVariants.{Good}
use Rattle.scenario_run.specs.declared.audits.RunAudit.{RunAudit}

-- the auditor has observed the entries of this past, and none of them broke a law
pub record Audits (s : Setup) (past : Past) (audit : RunAudit) : Type 0 where
  pub setup : audit.auditor.core.setup ≡ s
  pub observed : HasObserved audit.auditor past
  pub kept : audit.verdict ≡ Good
