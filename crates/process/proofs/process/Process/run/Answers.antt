use Rattle.std.proofs.Common.{List, sym, ap, subst, ◌∙◌, arith, ◌<◌}
use Rattle.registers.specs.safe_bit.Cell.{Cell}
use Rattle.choices.specs.{FlickState}
use Rattle.registers.specs.{CursorState}
use Rattle.process.specs.{KeepsPlace, ProcessState, remaining_at, state_at}
use Rattle.process.proofs.Shown.{RunsShown, remaining-goes, shown-fits, shown-run}
use Rattle.process.proofs.process.Process.run.Goals as goal
use Rattle.process.proofs.process.Process.run.Goals.{After-run-arg-3-1}

-- by its cursor
shown : (c : After-run-arg-3-1) → RunsShown c.args.steps c.self.inside.called c.self.inside.work c.self.inside.cursor c.args.self.now c.args.memory.now c.args.flicks.now
shown c = shown-run c.args.steps c.self.inside.called c.self.inside.work c.self.inside.cursor c.args.self.now c.args.memory.now c.args.flicks.now c.self.invariant c.self.view_is c.requires.nonzero c.requires.remaining

pub run-requires-clause-kind : goal.run-requires-clause-kind
run-requires-clause-kind c = (shown c).kind

pub run-requires-clause-within : goal.run-requires-clause-within
run-requires-clause-within c = (shown c).within

pub run-requires-clause-fits : goal.run-requires-clause-fits
run-requires-clause-fits c =
    let more : 0 < remaining_at c.args.self.now = omega (arith, c.requires.nonzero, c.requires.remaining) in
    shown-fits c.self.inside.called c.self.inside.work c.self.inside.cursor c.args.self.now c.args.memory.now c.self.invariant c.self.view_is (remaining-goes c.args.self.now more) c.requires.memory

pub invariant_of-self : goal.invariant_of-self
invariant_of-self c =
    let s = shown (goal.at.invariant_of-self c).After-run-arg-3-1 in
    subst (λ (x : CursorState × List (List Cell) × FlickState). KeepsPlace c.self.inside.called c.self.inside.work x.0) (sym c.run.ensures.run) s.keeps

pub returns : goal.returns
returns c =
    let s = shown (goal.at.returns c).After-run-arg-3-1 in
    record {
      steps = ap (λ (x : CursorState × List (List Cell) × FlickState). let then : ProcessState × List (List Cell) × FlickState = (state_at c.self.inside.called c.self.inside.work x.0, x.1, x.2) in then) c.run.ensures.run ∙ s.now_is;
      newest = c.run.ensures.newest ∙ s.newest;
      overlapped = c.run.ensures.overlapped ∙ s.overlapped;
    }
