use Rattle.std.proofs.Common.{◌∙◌, add-zero, refl}
use Rattle.scenario_run.proofs.Played.{on_fault}
use Rattle.engines.proofs.Recordings.{step_copied, step_cut}
use Rattle.engines.proofs.recording.RecordWriterRunObserver.step.Goals as goal

pub returns-clause-observed : goal.returns-clause-observed
returns-clause-observed g c = λ s before on. (
  refl,
  record {
    writes = λ _. step_copied s before c.args.made _ _ on c.in_ok-write_step.ensures.written;
    whole = c.in_ok-write_step.ensures.fails.counted ∙ add-zero (g.W.Sink.failures c.args.self.now.output.now);
  },
)

pub returns-in_err-write_step-clause-cut : goal.returns-in_err-write_step-clause-cut
returns-in_err-write_step-clause-cut g c =
    on_fault c.from_residual.result c.in_err-write_step.field-0.0 _ c.from_residual.ensures.1
    (λ s before on. (
      refl,
      record {
        part = λ _. step_cut s before c.args.made _ _ on c.in_err-write_step.ensures.front;
        is = c.in_err-write_step.ensures.fails.fault;
        fails_are = c.in_err-write_step.ensures.fails.counted;
      },
    ))
