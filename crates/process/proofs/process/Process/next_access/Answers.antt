use Rattle.std.proofs.Common.{ap, ◌∙◌}
use Rattle.process.specs.{ProcessState, may_step}
use Rattle.process.proofs.Serves.{corresponds}
use Rattle.process.proofs.Shown.{shown-answered, shown-fits}
use Rattle.process.proofs.process.Process.next_access.Goals as goal

pub next_access-requires-clause-going : goal.next_access-requires-clause-going
next_access-requires-clause-going c = (corresponds c.self.inside.called c.self.inside.work c.self.inside.cursor c.self.invariant (ap (λ (s : ProcessState). may_step s.doing) c.self.view_is ∙ c.requires.enabled)).going

pub next_access-requires-clause-fits : goal.next_access-requires-clause-fits
next_access-requires-clause-fits c = shown-fits c.self.inside.called c.self.inside.work c.self.inside.cursor c.args.self.now c.args.memory.now c.self.invariant c.self.view_is c.requires.enabled c.requires.memory

pub returns : goal.returns
returns c =
    c.next_access.ensures
    ∙ shown-answered c.self.inside.called c.self.inside.work c.self.inside.cursor c.args.self.now c.args.memory.now c.args.flick c.self.invariant c.self.view_is c.requires.enabled
