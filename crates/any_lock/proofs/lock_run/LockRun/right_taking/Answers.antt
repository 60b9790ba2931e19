use Rattle.std.proofs.Common.{◌≡◌, ap, ◌∙◌, arith}
use Rattle.std.proofs.lemmas.Result.{IfOk-at_ok}
use Rattle.plain_store.specs.{Reply, reply_to}
use Rattle.any_lock.specs.{LockRunState, ProcessView}
use Rattle.any_lock.proofs.LookedUpViews.{view_looked_up}
use Rattle.any_lock.proofs.lock_run.LockRun.right_taking.Goals as goal

pub index-process_view-requires : goal.index-process_view-requires
index-process_view-requires c = omega (arith, c.self.invariant.processes, ap (λ (k : LockRunState). k.setup.processes) c.self.view_is)

pub returns-clause-place : goal.returns-clause-place
returns-clause-place c = ap (λ (k : LockRunState). k.taken) c.self.view_is

pub returns-clause-reply : goal.returns-clause-reply
returns-clause-reply c = λ past knows.
    let at = view_looked_up _ c.args.self.now past c.from.result c.args.process c.index-process_view.result.now c.self.view_is c.from.ensures c.requires c.index-process_view.ensures knows in
    let store = ap (λ (k : LockRunState). k.store) c.self.view_is ∙ knows.store in
    let was : ProcessView = c.index-process_view.result.now in
    IfOk-at_ok (λ (r : Reply). r ≡ reply_to c.self.inside.store was.command (record { process = c.args.process; number = was.number })) c.unwrap-reply.ensures c.apply.ensures.reply
    ∙ (λ i. reply_to (store i) (at i).command (record { process = c.args.process; number = (at i).number }))
