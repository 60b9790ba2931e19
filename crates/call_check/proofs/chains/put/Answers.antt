use Rattle.std.proofs.Common.{OnOk, refl, sym, subst, ◌∙◌}
use Rattle.call_check.specs.{Puts}
use Rattle.call_check.proofs.CallNotes.{none_some}
use Rattle.call_check.proofs.Linking.{chain_without}
use Rattle.call_check.proofs.chains.put.Goals as goal

pub returns-in_ok-push-in-None : goal.returns-in_ok-push-in-None
returns-in_ok-push-in-None c = λ calls n call port index place chains.
    chain_without calls n c.args.heads.now.items c.args.links.now.items c.push.new.self.items call (record { port = c.args.port; index = c.args.index; earlier = 0 }) chains c.in_ok-push-in-None.ensures.items (sym port) (sym index) refl
    (λ k l there. none_some k (sym (place ∙ c.in-None.is) ∙ there))

pub returns-in-Some : goal.returns-in-Some
returns-in-Some c = subst (λ place. OnOk c.put_at.result (Puts c.args.port c.args.index place c.args.heads.now c.args.links.now c.put_at.new.heads c.put_at.new.links)) (sym c.in-Some.is) c.put_at.ensures
