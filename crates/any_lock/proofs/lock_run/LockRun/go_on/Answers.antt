use Rattle.std.proofs.Common.{◌≡◌, List, ◌∷◌, ◌<◌, ◌+◌, Some, cond, slice_get, slice_set, subst, sym, ap, ◌∙◌}
use Rattle.std.specs.List.{list_any}
use Rattle.plain_store.specs.{after}
use Rattle.any_lock.specs.{LockRunState, Knows, ProcessView, is_taken, process_view}
use Rattle.any_lock.proofs.Going.{kept_by_fields, kept_with, knows_on}
use Rattle.any_lock.proofs.lock_run.LockRun.go_on.Goals as goal

pub returns-clause-knows : goal.returns-clause-knows
returns-clause-knows c = λ past e p m same_view knows.
    let old : LockRunState = c.args.self.now in
    let before : ProcessView = process_view old.setup e.process past in
    let below : e.process < old.setup.processes = subst (λ n. n < old.setup.processes) (sym p) c.requires.process in
    let there : slice_get old.process_views e.process ≡ Some before = knows.process_views e.process below in
    let first = c.count.ensures.same in
    let last = c.set_view.ensures in
    let process_views = c.take.ensures.process_views ∙ ap (λ (k : LockRunState). k.process_views) first in
    let same : c.set_view.new.self ≡ kept_with old c.args.process before c.args.process_view.now c.takes.result =
    kept_by_fields c.set_view.new.self (kept_with old c.args.process before c.args.process_view.now c.takes.result)
    (ap (λ (k : LockRunState). k.setup) last ∙ c.take.ensures.setup ∙ ap (λ (k : LockRunState). k.setup) first)
    (ap (λ (k : LockRunState). k.process_views) last ∙ ap (λ (l : List ProcessView). slice_set l c.args.process c.args.process_view.now) process_views)
    (ap (λ (k : LockRunState). k.store) last
    ∙ c.take.ensures.store before (ap (λ (l : List ProcessView). slice_get l c.args.process) (ap (λ (k : LockRunState). k.process_views) first) ∙ ap (slice_get old.process_views) (sym p) ∙ there)
    ∙ ap (λ (k : LockRunState). cond c.takes.result (after k.store before.command (record { process = c.args.process; number = before.number })) k.store) first)
    (ap (λ (k : LockRunState). k.taken) last ∙ c.take.ensures.taken ∙ ap (λ (k : LockRunState). cond c.takes.result (k.taken + 1) k.taken) first)
    (ap (λ (k : LockRunState). k.entries) last ∙ c.take.ensures.entries ∙ ap (λ (k : LockRunState). k.entries) first) in
    subst (λ (k : LockRunState). Knows k (e ∷ past)) (sym (same ∙ ap (λ n. kept_with old n before c.args.process_view.now c.takes.result) (sym p)))
    (knows_on old past e before c.args.process_view.now c.takes.result below there (ap (list_any is_taken) m ∙ sym c.takes.ensures)
    (same_view ∙ ap (λ n. process_view old.setup n (e ∷ past)) (sym p)) knows)
