use Rattle.std.proofs.Common.{◌≡◌, [], subst}
use Rattle.world.specs.{with_history}
use Rattle.auditor.specs.{AuditorState, ObservesSteps}
use Rattle.auditor.proofs.Stretches.{observed-steps, walks-setup}
use Rattle.auditor.proofs.auditor.Auditor.advance.Goals as goal

pub returns-clause-observed : goal.returns-clause-observed
returns-clause-observed c =
    let old : AuditorState = record { core = c.self.inside.core; taken = c.self.inside.taken } in
    let new : AuditorState = record { core = c.run-made.new.self; taken = c.self.inside.taken } in
    let run = c.run-made in
    subst (λ (a : AuditorState). ObservesSteps a c.args.flicks.now c.args.process c.args.steps new) c.self.view_is
    (subst (λ f. ObservesSteps old f c.args.process c.args.steps new) c.twin.ensures
    (λ events h. observed-steps old run.new.self c.twin.result run.new.flicks c.args.process c.args.steps run.result.newest run.result.overlapped run.ensures.runs events h))

pub returns-clause-setup : goal.returns-clause-setup
returns-clause-setup c =
    let core = c.self.inside.core in
    let run = c.run-made in
    subst (λ (a : AuditorState). run.new.self.setup ≡ a.core.setup) c.self.view_is
    (walks-setup c.args.steps run.result.newest run.result.overlapped (with_history core []) (with_history run.new.self []) c.twin.result run.new.flicks c.args.process (run.ensures.runs.walks []))
