use Rattle.std.proofs.Common.{Result, Ok, Err, cond, slice_get, sym, ap, ◌∙◌, arith, true≢false}
use Rattle.std.specs.Result.{IsOk, OnOk}
use Rattle.plain_store.specs.{after}
use Rattle.any_lock.specs.{LockRunState}
use Rattle.any_lock.proofs.Unmarked.{given_at}
use Rattle.any_lock.proofs.lock_run.LockRun.take.Goals as goal

-- a fact of an optional value, if there is a value
at_ok : {A E P : Type 0} (r : Result A E) → IsOk r → OnOk r P → P
at_ok (Ok a) is reported = reported
at_ok (Err e) is reported = absurd (true≢false (sym is))

pub index-process_view-requires : goal.index-process_view-requires
index-process_view-requires c = omega (arith, c.self.invariant.processes, c.requires.process, ap (λ (k : LockRunState). k.setup.processes) c.self.view_is)

pub invariant_of-self : goal.invariant_of-self
invariant_of-self c = record {
  good = c.self.invariant.good;
  processes = c.self.invariant.processes;
  few = omega (arith, c.requires.bounded, ap (λ (k : LockRunState). k.taken) c.self.view_is, ap (λ (k : LockRunState). k.entries) c.self.view_is);
}

pub returns-clause-setup : goal.returns-clause-setup
returns-clause-setup c = ap (λ (k : LockRunState). k.setup) c.self.view_is

pub returns-clause-process_views : goal.returns-clause-process_views
returns-clause-process_views c = ap (λ (k : LockRunState). k.process_views) c.self.view_is

pub returns-clause-store : goal.returns-clause-store
returns-clause-store c = λ at is.
    let same = c.index-process_view.ensures
    ∙ given_at c.self.inside.process_views.items c.from.result c.index-process_view.result.now at ((λ i. slice_get (c.self.view_is i).process_views (c.from.ensures i)) ∙ is) in
    let store = ap (λ (k : LockRunState). k.store) c.self.view_is in
    at_ok c.apply-reply.result c.apply-reply.ensures.never_fails c.apply-reply.ensures.contents
    ∙ (λ i. after (store i) (same i).command (record { process = c.args.process; number = (same i).number }))
    ∙ ap (λ b. cond b (after c.args.self.now.store at.command (record { process = c.args.process; number = at.number })) c.args.self.now.store) (sym c.if-not-takes.false)
