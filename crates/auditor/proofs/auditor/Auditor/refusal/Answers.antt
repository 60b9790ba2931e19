use Rattle.std.proofs.Common.{◌≡◌, List, sym, ap}
use Rattle.plain_store.specs.{Setup}
use Rattle.model.specs.{Past, Taken, refused}
use Rattle.auditor.specs.{AuditorState}
use Rattle.auditor.proofs.ObservedPast.{of_observed}
use Rattle.auditor.proofs.auditor.Auditor.refusal.Goals as goal

pub returns : goal.returns
returns c = λ past h.
    sym (of_observed c.args.self.now past (λ (taken : List Taken) (s : Setup) (past : Past). refused s past c.args.event.now ≡ c.refusal.result) c.self.inside.core (ap (λ (a : AuditorState). a.core) c.self.view_is) h c.refusal.ensures.refused)
