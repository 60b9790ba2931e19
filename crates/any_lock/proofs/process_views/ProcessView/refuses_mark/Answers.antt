use Rattle.std.proofs.Common.{ap, sym, ◌∙◌}
use Rattle.any_lock.specs.{mark_refusal}
use Rattle.any_lock.proofs.process_views.ProcessView.refuses_mark.Goals as goal

pub returns-in-Called : goal.returns-in-Called
returns-in-Called c = c.refuses_call.ensures c.in-Called._command ∙ ap (mark_refusal c.args.self.now) (sym c.in-Called.is)

pub returns-in-Taken : goal.returns-in-Taken
returns-in-Taken c = c.refuses_taking.ensures c.in-Taken._place c.in-Taken._reply ∙ ap (mark_refusal c.args.self.now) (sym c.in-Taken.is)

pub returns-in-Settled : goal.returns-in-Settled
returns-in-Settled c = c.refuses_settled.ensures c.in-Settled._value ∙ ap (mark_refusal c.args.self.now) (sym c.in-Settled.is)
