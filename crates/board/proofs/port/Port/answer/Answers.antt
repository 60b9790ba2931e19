use Rattle.std.proofs.Common.{ap, sym, ◌∙◌}
use Rattle.process.specs.{refusal_of}
use Rattle.board.specs.{PortState, refusal_in}
use Rattle.board.proofs.Pendings.{answers_no}
use Rattle.board.proofs.port.Port.answer.Goals as goal

pub returns-in-Some : goal.returns-in-Some
returns-in-Some c = let event = c.args.event.now in
    sym (answers_no c.args.self.now event c.in-Some.refusal (ap (λ (p : PortState). refusal_in p.setup p.view.own event) (sym c.self.view_is) ∙ ap (λ q. refusal_of q event) (sym c.self.invariant.tied.same) ∙ sym c.refusal.ensures.refused ∙ c.in-Some.is)).0
