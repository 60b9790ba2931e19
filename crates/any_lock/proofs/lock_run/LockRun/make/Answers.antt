use Rattle.std.proofs.Common.{◌≡◌, ℕ, ◌<◌, ◌+◌, ◌∷◌, Some, slice_get, slice_set, subst, sym, ap, ◌∙◌}
use Rattle.any_lock.specs.{LockRunState, Knows, ProcessView, accessed, process_view}
use Rattle.any_lock.proofs.Unmarked.{given_at, unmarked_on}
use Rattle.any_lock.proofs.lock_run.LockRun.make.Goals as goal

pub returns-clause-knows : goal.returns-clause-knows
returns-clause-knows c = λ past e p a m knows.
    let i = c.self.inside in
    let old : LockRunState = record { setup = i.setup; process_views = i.process_views.items; store = i.store; taken = i.taken; entries = i.entries } in
    let knew : Knows old past = subst (λ (k : LockRunState). Knows k past) (sym c.self.view_is) knows in
    let there : e.process < c.args.self.now.setup.processes = subst (λ n. n < c.args.self.now.setup.processes) (sym p) c.requires.process in
    let below : e.process < old.setup.processes = subst (λ (k : LockRunState). e.process < k.setup.processes) (sym c.self.view_is) there in
    let before : ProcessView = process_view old.setup e.process past in
    let was : slice_get old.process_views e.process ≡ Some before = knew.process_views e.process below in
    let q : c.from.result ≡ e.process = c.from.ensures ∙ sym p in
    let is : c.index_mut.result.now ≡ before = c.index_mut.ensures.value ∙ given_at old.process_views c.from.result _ before (ap (slice_get old.process_views) q ∙ was) in
    let w : c.make.new.self ≡ accessed i.entries before c.args.access = c.make.ensures ∙ ap (λ (k : ProcessView). accessed i.entries k c.args.access) is in
    let kept : ℕ → ProcessView → LockRunState = λ n k. record { setup = i.setup; process_views = slice_set i.process_views.items n k; store = i.store; taken = i.taken; entries = i.entries + 1 } in
    subst (λ n. Knows (kept n c.make.new.self) (e ∷ past)) (sym q)
    (subst (λ (k : ProcessView). Knows (kept e.process k) (e ∷ past)) (sym w) (unmarked_on old past e c.args.access before below a m was knew))
