use Rattle.std.proofs.Common.{◌≡◌, List, ap}
use Rattle.plain_store.specs.{Setup}
use Rattle.model.specs.{Past, Taken}
use Rattle.world.specs.{stage_in}
use Rattle.auditor.specs.{AuditorState}
use Rattle.auditor.proofs.ObservedPast.{of_observed}
use Rattle.auditor.proofs.auditor.Auditor.stage.Goals as goal

pub returns : goal.returns
returns c = λ past h.
    of_observed c.args.self.now past (λ (taken : List Taken) (s : Setup) (past : Past). c.stage.result ≡ stage_in s past c.args.process) c.self.inside.core (ap (λ (a : AuditorState). a.core) c.self.view_is) h c.stage.ensures
