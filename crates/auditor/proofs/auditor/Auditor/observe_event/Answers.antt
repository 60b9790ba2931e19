use Rattle.std.proofs.Common.{None, Some, sym, subst}
use Rattle.safe_monitor.specs.declared.verdicts.Law.TheVariants as law
use Rattle.auditor.specs.{AuditorState, HasObserved, IsObserved}
use Rattle.auditor.proofs.Observing.{observed_event, observed_refused_event}
use Rattle.auditor.proofs.auditor.Auditor.observe_event.Goals as goal

pub returns-in_default-clause-observed : goal.returns-in_default-clause-observed
returns-in_default-clause-observed c = λ past e is h. subst (λ (x : AuditorState). IsObserved x.core.setup past e x (Some law.Program)) c.self.view_is
    (observed_refused_event (record { core = c.self.inside.core; taken = c.self.inside.taken }) past e c.args.event.now c.in_default.field-0 (subst (λ (x : AuditorState). HasObserved x past) (sym c.self.view_is) h) is c.in_default.ensures.refused)

pub returns-clause-observed : goal.returns-clause-observed
returns-clause-observed c = λ past e is h. subst (λ (x : AuditorState). IsObserved x.core.setup past e (record { core = c.event.new.self; taken = c.self.inside.taken }) None) c.self.view_is
    (observed_event (record { core = c.self.inside.core; taken = c.self.inside.taken }) past e c.args.event.now c.in-Ok._access c.event.new.effect c.event.new.self (record {
      observed = subst (λ (x : AuditorState). HasObserved x past) (sym c.self.view_is) h;
      is = is;
      adds = c.in-Ok.ensures.accepted;
      makes = c.in-Ok.ensures.shows;
      setup = c.in-Ok.ensures.setup;
    }))
