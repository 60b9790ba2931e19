use Rattle.std.proofs.Common.{◌≡◌, ◌+◌, ◌∙◌, List, suc, take, sym, ap, subst, arith}
use Rattle.std.proofs.lemmas.List.{take_all}
use Rattle.plain_store.specs.{Command}
use Rattle.board.proofs.PortLists.{item_at}
use Rattle.race.specs.{HasMade}
use Rattle.race.proofs.Lists.{take_more}
use Rattle.race.proofs.Makings.{made_none, made_then}
use Rattle.race.proofs.workers.Worker.run.Goals as goal

pub loop-command-init : goal.loop-command-init
loop-command-init g c = made_none c.args.self.now.board.now c.args.self.now.number c.args.port c.requires.board c.requires.new

pub loop-command-preserved : goal.loop-command-preserved
loop-command-preserved g c =
    let plan = c.args.plan.now in let at = c.loop-command.command-index in let command = c.command-item.result in let next : at + 1 ≡ suc at = omega arith in
    subst (λ (made : List Command). HasMade c.args.self.now.board.now c.args.self.now.number made c.call.new.port) (sym (ap (λ n. take n plan) next ∙ take_more plan at command (item_at plan at command c.loop-command-test.true c.command-item.is)))
    (made_then c.args.self.now.board.now c.args.self.now.number (take at plan) c.loop-command.port c.call.new.port command c.loop-command.invariant c.call.ensures.same c.in_ok-call.ensures.called)

pub returns-clause-made : goal.returns-clause-made
returns-clause-made g c = subst (λ (made : List Command). HasMade c.args.self.now.board.now c.args.self.now.number made c.loop-command.port) (take_all c.loop-command.command-index c.args.plan.now c.loop-command-test.false) c.loop-command.invariant
