use Rattle.std.proofs.Common.{List, sym, subst, ap, ◌∙◌}
use Rattle.any_lock.specs.{LockRunState, Knows, ProcessView, passage_in}
use Rattle.lock_stages.specs.{HavePassages, ahead_since}
use Rattle.any_lock.proofs.LookedUpViews.{passages_known}
use Rattle.any_lock.proofs.lock_run.LockRun.ahead_since.Goals as goal

pub returns : goal.returns
returns c = λ past knows q below.
    let i = c.self.inside in
    let old : LockRunState = record { setup = i.setup; process_views = i.process_views.items; store = i.store; taken = i.taken; entries = i.entries } in
    let have = passages_known old past c.self.invariant.processes (subst (λ (k : LockRunState). Knows k past) (sym c.self.view_is) knows) in
    c.ahead_since.ensures (passage_in past) (subst (λ (l : List ProcessView). HavePassages (λ (x : ProcessView). x.passage) l (passage_in past)) (sym c.deref.ensures.value) have) q below
    ∙ ap (λ n. ahead_since (passage_in past) n c.args.process q) c.processes.ensures
