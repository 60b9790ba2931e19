use Rattle.std.proofs.Common.{◌≡◌, ap, ◌∙◌, arith}
use Rattle.model.specs.{value_of}
use Rattle.registers.specs.{applied, ends_overlapped, next_answered}
use Rattle.process.specs.{HasMoved, ProcessState, changes_reported, may_step}
use Rattle.process.proofs.NextAt.{then-changes, then-marks, then-stepped}
use Rattle.process.proofs.Serves.{corresponds, step-moved}
use Rattle.process.proofs.Shown.{shown-answered, shown-copies, shown-fits}
use Rattle.process.proofs.process.Process.step.Goals as goal
use Rattle.process.proofs.process.Process.step.Goals.{After-step-made}

pub step-made-requires-clause-fits : goal.step-made-requires-clause-fits
step-made-requires-clause-fits c = shown-fits c.self.inside.called c.self.inside.work c.self.inside.cursor c.args.self.now c.args.memory.now c.self.invariant c.self.view_is c.requires.enabled c.requires.memory

pub step-made-requires-clause-going : goal.step-made-requires-clause-going
step-made-requires-clause-going c = λ whole.
    let going = (corresponds c.self.inside.called c.self.inside.work c.self.inside.cursor c.self.invariant (ap (λ (s : ProcessState). may_step s.doing) c.self.view_is ∙ c.requires.enabled)).going in
    omega (arith, going, whole)

answered : (c : After-step-made) → c.step-made.result.access ≡ next_answered c.self.inside.cursor c.args.memory.now c.args.flick
answered c = c.step-made.ensures.access ∙ ap (next_answered c.self.inside.cursor c.args.memory.now) c.only.ensures

moved : (c : After-step-made) → HasMoved c.self.inside.called c.self.inside.work c.args.flick (value_of c.step-made.result.access.how) c.self.inside.cursor c.step-made.new.cursor c.is_fresh-fresh.result
moved c = step-moved c.args.memory.now c.args.flick c.self.invariant (ap (λ (s : ProcessState). may_step s.doing) c.self.view_is ∙ c.requires.enabled) (answered c) c.step-made.ensures.cursor c.is_fresh-fresh.ensures

pub go_on-requires : goal.go_on-requires
go_on-requires c = record { moved = (c.args.flick, _, _, moved (goal.at.go_on-requires c).After-step-made) }

pub invariant_of-self : goal.invariant_of-self
invariant_of-self c = c.go_on.ensures.keeps

pub returns : goal.returns
returns c =
    let at = (goal.at.returns c).After-step-made in
    let h = moved at in
    let copies = shown-copies c.self.inside.called c.self.inside.work c.self.inside.cursor c.args.self.now c.self.invariant c.self.view_is c.requires.enabled in
    record {
      access = answered at ∙ shown-answered c.self.inside.called c.self.inside.work c.self.inside.cursor c.args.self.now c.args.memory.now c.args.flick c.self.invariant c.self.view_is c.requires.enabled;
      overlapped = c.step-made.ensures.overlapped ∙ ap (λ n. ends_overlapped n c.args.memory.now c.step-made.result.access) copies;
      process = then-stepped h c.self.view_is c.go_on.ensures.doing;
      marks = then-marks h c.self.view_is c.go_on.ensures.marks;
      changes = then-changes c.self.inside.called c.self.inside.work c.self.inside.cursor c.args.self.now (changes_reported c.go_on.result) c.self.view_is c.go_on.ensures.changes;
      memory = c.step-made.ensures.memory ∙ ap (λ n. applied n c.args.memory.now c.step-made.result.access) copies;
    }
