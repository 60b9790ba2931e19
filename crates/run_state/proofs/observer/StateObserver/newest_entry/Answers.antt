use Rattle.std.proofs.Common.{◌≡◌, ◌<◌, Some, ap, arith, sym, ◌∙◌}
use Rattle.model.specs.{Past, past_of}
use Rattle.run_state.specs.{IsNewestWithin, newest, unmarked_entry}
use Rattle.run_state.proofs.observer.StateObserver.newest_entry.Goals as goal

pub returns-then-self-entries : goal.returns-then-self-entries
returns-then-self-entries c = λ taken events shows seen.
    c.reported_entry.ensures ∙ sym (seen.newest_is (c.if-self-entries.true ∙ c.entries.ensures))

pub returns : goal.returns
returns c = λ taken events shows seen.
    let s = c.args.core.now.setup in
    let past : Past = past_of s events in
    let p = c.args.self.now.process in
    let all = c.entries.ensures in
    let apart = c.if-self-entries.false in
    let most = seen.reported in
    let fewer : c.args.self.now.reported < c.args.self.now.observed_run.entries = omega (arith, all, apart, most) in
    let u : IsNewestWithin s p past = seen.passed fewer in
    let access : c.last_access-access.result ≡ Some u.access = c.last_access-access.ensures taken events shows u.access u.before u.is u.within in
    ap Some (c.unmarked_entry.ensures ∙ ap (unmarked_entry p) access) ∙ ap newest (sym u.is)
