use Rattle.std.proofs.Common.{◌≡◌, List, length, None, Some, sym, ap, ◌∙◌}
use Rattle.plain_store.specs.{Setup}
use Rattle.model.specs.declared.events.Event.TheVariants.{Step}
use Rattle.model.specs.{Past, Taken, entry_of, history}
use Rattle.auditor.specs.{AuditorState}
use Rattle.auditor.proofs.ObservedPast.{of_observed, taken_is}
use Rattle.auditor.proofs.auditor.Auditor.stepped.Goals as goal

pub returns-in_err-taken : goal.returns-in_err-taken
returns-in_err-taken c = λ past h few.
    let no : None ≡ Some (length (history c.args.self.now.core.setup past)) = sym c.in_err-taken.was ∙ ap (λ (a : AuditorState). a.taken) c.self.view_is ∙ taken_is c.args.self.now past h few in
    absurd (cc)

pub returns : goal.returns
returns c = λ past h few.
    let count = length (history c.args.self.now.core.setup past) in
    let both : Some c.in_ok-taken.taken ≡ Some count = sym c.in_ok-taken.was ∙ ap (λ (a : AuditorState). a.taken) c.self.view_is ∙ taken_is c.args.self.now past h few in
    let place : count ≡ c.in_ok-taken.taken = cc in
    of_observed c.args.self.now past (λ (taken : List Taken) (s : Setup) (past : Past). length taken ≡ c.in_ok-taken.taken → c.next_entry.result ≡ entry_of s past (Step c.args.process c.args.flick))
    c.self.inside.core (ap (λ (a : AuditorState). a.core) c.self.view_is) h (λ taken events shows is. c.next_entry.ensures.entry taken events is shows) place
