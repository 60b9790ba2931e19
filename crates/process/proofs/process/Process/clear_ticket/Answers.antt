use Rattle.std.proofs.Common.{true, sym, ap, ◌∙◌, subst}
use Rattle.process.specs.declared.activity.Activity.TheVariants as work
use Rattle.process.specs.{KeepsPlace, state_at, withdrawn}
use Rattle.process.proofs.ClosingsOn.{clears-ticket}
use Rattle.process.proofs.process.Process.clear_ticket.Goals as goal

pub invariant_of-self : goal.invariant_of-self
invariant_of-self c =
    let k = c.self.inside.called in
    let call = c.self.invariant.call in
    subst (KeepsPlace k work.Withdraws) (sym c.clear.ensures) (record { call = call; working = (clears-ticket k true call).working })

pub returns : goal.returns
returns c = ap (state_at c.self.inside.called work.Withdraws) c.clear.ensures ∙ ap withdrawn c.self.view_is
