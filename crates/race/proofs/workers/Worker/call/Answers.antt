use Rattle.std.proofs.Common.{◌∙◌, Some, sym, subst}
use Rattle.board.specs.{PortState}
use Rattle.race.specs.{ComesTo, IsCalling}
use Rattle.race.specs.declared.workers.CallReached.TheVariants.{Section}
use Rattle.race.proofs.Calling.{Begins, begins, has_called, has_called_inside, was_ok, where_ok}
use Rattle.race.proofs.workers.Worker.call.Goals as goal

pub come_inside-requires-clause-calling : goal.come_inside-requires-clause-calling
come_inside-requires-clause-calling g c =
    let old = c.args.port.now in let new = c.begin.new.self in
    let begun : Begins old new c.args.command = begins old new c.args.command c.begin.result c.begin.ensures.answer (was_ok c.begin.result c.if-is_err.ensures.value) (where_ok c.begin.result c.begin.ensures.port c.if-is_err.ensures.value) in
    subst (λ (port : PortState). IsCalling port.setup port.view.own) (sym c.in_ok-pass.ensures.passed) begun.calling

pub returns-in_ok-pass-in-Section-clause-called : goal.returns-in_ok-pass-in-Section-clause-called
returns-in_ok-pass-in-Section-clause-called g c =
    let old = c.args.port.now in let new = c.begin.new.self in let asked = c.pass.new.port in let inside = c.pass-in-Section.new.port in
    let begun : Begins old new c.args.command = begins old new c.args.command c.begin.result c.begin.ensures.answer (was_ok c.begin.result c.if-is_err.ensures.value) (where_ok c.begin.result c.begin.ensures.port c.if-is_err.ensures.value) in
    has_called_inside old asked inside c.finish.new.port c.args.command (subst (λ (port : PortState). Begins old port c.args.command) (sym c.in_ok-pass.ensures.passed) begun) (c.pass.ensures.same.2 ∙ c.begin.ensures.same.2)
    (c.pass-in-Section.ensures.same.2 ∙ c.come_inside.ensures.same.2) (subst (λ (port : PortState). ComesTo asked.setup (Some Section) asked.view port.view) (sym c.in_ok-pass-in-Section.ensures.passed) c.in-Section.ensures.comes) c.finish.ensures.answered

pub returns-in-Answer-clause-called : goal.returns-in-Answer-clause-called
returns-in-Answer-clause-called g c =
    let old = c.args.port.now in let new = c.begin.new.self in let asked = c.pass.new.port in
    let begun : Begins old new c.args.command = begins old new c.args.command c.begin.result c.begin.ensures.answer (was_ok c.begin.result c.if-is_err.ensures.value) (where_ok c.begin.result c.begin.ensures.port c.if-is_err.ensures.value) in
    has_called old asked c.come_inside.new.port c.args.command (subst (λ (port : PortState). Begins old port c.args.command) (sym c.in_ok-pass.ensures.passed) begun) (c.pass.ensures.same.2 ∙ c.begin.ensures.same.2) c.in-Answer.ensures.comes
