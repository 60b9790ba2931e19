use Rattle.std.proofs.Common.{None, ap, sym, ◌∙◌}
use Rattle.any_lock.specs.{ProcessView, marked, write_of}
use Rattle.any_lock.proofs.process_views.ProcessView.mark.Goals as goal

pub returns-in-Called : goal.returns-in-Called
returns-in-Called c = c.call.ensures c.args.entry ∙ ap (marked c.args.setup.now c.args.entry c.args.self.now) (sym c.in-Called.is)

pub returns-in-Left : goal.returns-in-Left
returns-in-Left c = c.leave.ensures c.args.setup.now c.args.entry ∙ ap (marked c.args.setup.now c.args.entry c.args.self.now) (sym c.in-Left.is)

pub returns-in-Failed : goal.returns-in-Failed
returns-in-Failed c =
    (λ i. record c.stop_at.new.self { torn = c.write_of-self.ensures i; opened = None })
    ∙ ap (λ (k : ProcessView). record k { torn = write_of k.opened; opened = None }) c.stop_at.ensures
    ∙ ap (marked c.args.setup.now c.args.entry c.args.self.now) (sym c.in-Failed.is)
