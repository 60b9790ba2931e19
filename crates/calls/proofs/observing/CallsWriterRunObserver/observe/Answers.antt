use Rattle.std.proofs.Common.{refl}
use Rattle.scenario_run.proofs.Endings.{ok_whole}
use Rattle.calls.proofs.Tabling.{err_all, reported_cut, reported_tabled, reported_written}
use Rattle.calls.proofs.observing.CallsWriterRunObserver.observe.Goals as goal

pub returns-clause-observed : goal.returns-clause-observed
returns-clause-observed g c =
    let old = c.args.self.now in
    ok_whole c.observe_reported.result (g.W.Sink.failures old.output.now) (g.W.Sink.failures c.observe_reported.new.output) (λ reports whole s before this happens. (
      refl,
      refl,
      (λ tabled. reported_tabled s before this c.args.reported.now old.table.now c.observe_reported.new.table _ _ happens reports c.observe_reported.ensures.setup tabled),
      record { writes = λ tabled. reported_written s before this c.args.reported.now old.table.now c.observe_reported.new.table _ _ happens reports tabled; whole = whole },
    )) c.observe_reported.ensures.observed c.observe_reported.ensures.fails.counted

pub returns-clause-cut : goal.returns-clause-cut
returns-clause-cut g c =
    let old = c.args.self.now in
    err_all c.observe_reported.result _ (g.W.Sink.failures old.output.now) (g.W.Sink.failures c.observe_reported.new.output) (λ fault cut is fails s before this happens. (
      refl,
      record { part = λ tabled. reported_cut s before this c.args.reported.now old.table.now _ _ happens cut tabled; is = is; fails_are = fails },
    )) c.observe_reported.ensures.cut c.observe_reported.ensures.fails.fault c.observe_reported.ensures.fails.counted
