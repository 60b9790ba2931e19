use Rattle.std.proofs.Common.{◌∙◌, add-zero, refl}
use Rattle.scenario_run.proofs.Played.{on_fault}
use Rattle.engines.proofs.Recordings.{entry_copied, entry_cut}
use Rattle.engines.proofs.recording.RecordWriterRunObserver.observe.Goals as goal

pub returns-clause-observed : goal.returns-clause-observed
returns-clause-observed g c = λ s before this happens. (
  refl,
  record {
    writes = λ _. entry_copied s before this c.args.reported.now _ _ happens c.in_ok-write_entry.ensures.written;
    whole = c.in_ok-write_entry.ensures.fails.counted ∙ add-zero (g.W.Sink.failures c.args.self.now.output.now);
  },
)

pub returns-in_err-write_entry-clause-cut : goal.returns-in_err-write_entry-clause-cut
returns-in_err-write_entry-clause-cut g c =
    on_fault c.from_residual.result c.in_err-write_entry.field-0.0 _ c.from_residual.ensures.1
    (λ s before this happens. (
      refl,
      record {
        part = λ _. entry_cut s before this c.args.reported.now _ _ happens c.in_err-write_entry.ensures.front;
        is = c.in_err-write_entry.ensures.fails.fault;
        fails_are = c.in_err-write_entry.ensures.fails.counted;
      },
    ))
