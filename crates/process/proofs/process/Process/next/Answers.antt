use Rattle.std.proofs.Common.{sym, ap, subst, ◌∙◌}
use Rattle.registers.specs.{next_access}
use Rattle.process.specs.{IsOfRegister, ProcessState, doing_at, may_step, next_at}
use Rattle.process.proofs.NextAt.{next-is}
use Rattle.process.proofs.OfRegister.{of-register}
use Rattle.process.proofs.Serves.{corresponds}
use Rattle.process.proofs.process.Process.next.Goals as goal

pub returns-clause-access : goal.returns-clause-access
returns-clause-access c =
    let q = c.self.inside in
    c.next.ensures
    ∙ ap (next_access q.cursor) c.value_for_next.ensures
    ∙ next-is q.called q.work q.cursor c.args.flick c.self.invariant (ap (λ (s : ProcessState). may_step s.doing) c.self.view_is ∙ c.requires.enabled)
    ∙ ap (λ (s : ProcessState). next_at s c.args.flick) c.self.view_is

pub returns-clause-register : goal.returns-clause-register
returns-clause-register c =
    let q = c.self.inside in
    subst (λ (s : ProcessState). IsOfRegister s.setup s.process s.doing c.next.result) c.self.view_is
    (subst (IsOfRegister q.called.call.setup q.called.call.process (doing_at q.called q.work q.cursor)) (sym c.next.ensures) (of-register q.called q.work q.cursor c.value_for_next.result c.self.invariant))

pub next-requires : goal.next-requires
next-requires c = (corresponds c.self.inside.called c.self.inside.work c.self.inside.cursor c.self.invariant (ap (λ (s : ProcessState). may_step s.doing) c.self.view_is ∙ c.requires.enabled)).going
