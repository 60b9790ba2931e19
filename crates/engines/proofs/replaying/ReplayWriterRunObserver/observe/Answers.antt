use Rattle.std.proofs.Common.{refl}
use Rattle.scenario_run.proofs.Counting.{counts_observed}
use Rattle.scenario_run.proofs.Endings.{err_both, ok_both}
use Rattle.engines.proofs.Replayings.{reported_cut, reported_written}
use Rattle.engines.proofs.replaying.ReplayWriterRunObserver.observe.Goals as goal

pub returns-clause-observed : goal.returns-clause-observed
returns-clause-observed g c =
    let old = c.args.self.now in
    ok_both c.write_turn.result (g.W.Sink.failures old.output.now) (g.W.Sink.failures c.write_turn.new.output) (λ wrote counted whole s before this happens. (
      refl,
      counts_observed s before this c.args.reported.now old.summary c.write_turn.new.summary happens counted,
      record { writes = reported_written s before this c.args.reported.now old.summary _ _ happens wrote; whole = whole },
    )) c.write_turn.ensures.written c.write_turn.ensures.count c.write_turn.ensures.fails.counted

pub returns-clause-cut : goal.returns-clause-cut
returns-clause-cut g c =
    let old = c.args.self.now in
    err_both c.write_turn.result _ (g.W.Sink.failures old.output.now) (g.W.Sink.failures c.write_turn.new.output) (λ fault is fails s before this happens. (
      refl,
      record { part = reported_cut s before this c.args.reported.now old.summary _ _ happens c.write_turn.ensures.front; is = is; fails_are = fails },
    )) c.write_turn.ensures.fails.fault c.write_turn.ensures.fails.counted
