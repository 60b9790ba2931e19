use Rattle.std.proofs.Common.{sym, ap, ◌∙◌, arith}
use Rattle.any_lock.specs.{LockRunState, accessed, accessed_by, process_view}
use Rattle.any_lock.proofs.LookedUpViews.{view_looked_up}
use Rattle.any_lock.proofs.lock_run.LockRun.accessed.Goals as goal

pub index-requires : goal.index-requires
index-requires c = omega (arith, c.self.invariant.processes, ap (λ (k : LockRunState). k.setup.processes) c.self.view_is)

pub returns-in-Some : goal.returns-in-Some
returns-in-Some c = λ past knows.
    let entry = ap (λ (k : LockRunState). k.entries) c.self.view_is in
    let before = view_looked_up _ c.args.self.now past c.from.result c.args.process c.index.result.now c.self.view_is c.from.ensures c.requires c.index.ensures knows in
    c.make.ensures ∙ (λ i. accessed (entry i) (before i) c.in-Some.access)
    ∙ ap (accessed_by c.args.self.now.entries (process_view c.args.self.now.setup c.args.process past)) (sym c.in-Some.is)

pub returns-in_default : goal.returns-in_default
returns-in_default c = λ past knows.
    let before = view_looked_up _ c.args.self.now past c.from.result c.args.process c.index.result.now c.self.view_is c.from.ensures c.requires c.index.ensures knows in
    before ∙ ap (accessed_by c.args.self.now.entries (process_view c.args.self.now.setup c.args.process past)) (sym c.in_default.is)
