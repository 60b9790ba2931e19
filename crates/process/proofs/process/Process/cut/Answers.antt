use Rattle.std.proofs.Common.{sym, ap, ◌∙◌, subst}
use Rattle.laws.specs.{is_inside}
use Rattle.process.specs.declared.activity.Activity.TheVariants as work
use Rattle.process.specs.{KeepsPlace, ProcessState, failed, state_at}
use Rattle.process.proofs.CutsAt.{cut-keeps, cut-torn}
use Rattle.process.proofs.process.Process.cut.Goals as goal

pub invariant_of-self : goal.invariant_of-self
invariant_of-self c =
    let q = c.self.inside in
    let inside = c.is_inside-inside.result in
    let taken = c.takes-taken.result in
    subst (KeepsPlace q.called (work.Settles inside taken)) (sym c.settle.ensures) (cut-keeps q.called q.work q.cursor inside taken c.self.invariant (sym c.is_torn.ensures ∙ c.if-is_torn.true) c.takes-taken.ensures.commit)

pub returns-then-is_torn : goal.returns-then-is_torn
returns-then-is_torn c =
    let q = c.self.inside in
    let inside = c.is_inside-inside.result in
    let taken = c.takes-taken.result in
    let is = c.is_inside-inside.ensures ∙ sym (ap (λ (s : ProcessState). is_inside s.doing) c.self.view_is) in
    record {
      process =
          ap (state_at q.called (work.Settles inside taken)) c.settle.ensures
          ∙ cut-torn q.called q.work q.cursor inside taken c.self.invariant (sym c.is_torn.ensures ∙ c.if-is_torn.true) is c.takes-taken.ensures.reply
          ∙ ap failed c.self.view_is;
    }
