use Rattle.std.proofs.Common.{ap, ◌∙◌}
use Rattle.process.specs.{HasMoved, ProcessState, changes_reported, may_step}
use Rattle.process.proofs.NextAt.{has-moved, then-changes, then-marks, then-stepped}
use Rattle.process.proofs.Serves.{corresponds}
use Rattle.process.proofs.process.Process.advance.Goals as goal
use Rattle.process.proofs.process.Process.advance.Goals.{After-advance}

pub next-how-requires : goal.next-how-requires
next-how-requires c = (corresponds c.self.inside.called c.self.inside.work c.self.inside.cursor c.self.invariant (ap (λ (s : ProcessState). may_step s.doing) c.self.view_is ∙ c.requires.enabled)).going

pub advance-requires : goal.advance-requires
advance-requires c = (corresponds c.self.inside.called c.self.inside.work c.self.inside.cursor c.self.invariant (ap (λ (s : ProcessState). may_step s.doing) c.self.view_is ∙ c.requires.enabled)).going

moved : (c : After-advance) → HasMoved c.self.inside.called c.self.inside.work c.args.flick c.args.value c.self.inside.cursor c.advance.new.self c.is_fresh-fresh.result
moved c = has-moved c.args.flick c.args.value c.self.invariant (ap (λ (s : ProcessState). may_step s.doing) c.self.view_is ∙ c.requires.enabled) c.value_for_next.ensures c.next-how.ensures c.advance.ensures c.is_fresh-fresh.ensures

pub go_on-requires : goal.go_on-requires
go_on-requires c = record { moved = (c.args.flick, c.args.value, _, moved (goal.at.go_on-requires c).After-advance) }

pub invariant_of-self : goal.invariant_of-self
invariant_of-self c = c.go_on.ensures.keeps

pub returns : goal.returns
returns c =
    let h = moved (goal.at.returns c).After-advance in
    record {
      process = then-stepped h c.self.view_is c.go_on.ensures.doing;
      marks = then-marks h c.self.view_is c.go_on.ensures.marks;
      changes = then-changes c.self.inside.called c.self.inside.work c.self.inside.cursor c.args.self.now (changes_reported c.go_on.result) c.self.view_is c.go_on.ensures.changes;
    }
