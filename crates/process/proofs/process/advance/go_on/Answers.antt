use Rattle.std.proofs.Common.{◌≡◌, Bool, List, subst, sym}
use Rattle.model.specs.{Mark}
use Rattle.registers.specs.{CursorState}
use Rattle.process.specs.{AreMarksOn, IsStepped, PartState, ProcessState, Activity}
use Rattle.process.proofs.NextAt.{idle-goes}
use Rattle.process.proofs.process.advance.go_on.Goals as goal

-- the clauses hold of work that is equal to this
module _ {k : PartState} {was w : Activity} {cur : CursorState} {fresh : Bool} (same : was ≡ w) where
  steps : {next : ProcessState} → IsStepped k w cur fresh next → IsStepped k was cur fresh next
  steps {next} on = subst (λ w. IsStepped k w cur fresh next) (sym same) on

  marks-on : {marks : List Mark} → AreMarksOn k w cur fresh marks → AreMarksOn k was cur fresh marks
  marks-on {marks} on = subst (λ w. AreMarksOn k w cur fresh marks) (sym same) on

pub returns-in-Runs-clause-marks : goal.returns-in-Runs-clause-marks
returns-in-Runs-clause-marks c = marks-on c.in-Runs.is c.run_on.ensures.marks

pub returns-in-Withdraws-clause-doing : goal.returns-in-Withdraws-clause-doing
returns-in-Withdraws-clause-doing c = steps c.in-Withdraws.is (c.withdraw_on.ensures.doing c.args.fresh)

pub returns-in-Withdraws-clause-marks : goal.returns-in-Withdraws-clause-marks
returns-in-Withdraws-clause-marks c = marks-on c.in-Withdraws.is (c.withdraw_on.ensures.marks c.args.fresh)

pub returns-in-Settles-clause-doing : goal.returns-in-Settles-clause-doing
returns-in-Settles-clause-doing c = steps c.in-Settles.is (c.settle_on.ensures.doing c.args.fresh)

pub returns-in-Settles-clause-marks : goal.returns-in-Settles-clause-marks
returns-in-Settles-clause-marks c = marks-on c.in-Settles.is (c.settle_on.ensures.marks c.args.fresh)

pub returns-in-Frees-clause-doing : goal.returns-in-Frees-clause-doing
returns-in-Frees-clause-doing c = steps c.in-Frees.is c.free_on.ensures.doing

pub returns-in-Frees-clause-marks : goal.returns-in-Frees-clause-marks
returns-in-Frees-clause-marks c = marks-on c.in-Frees.is c.free_on.ensures.marks

pub returns-in-Lowers-clause-doing : goal.returns-in-Lowers-clause-doing
returns-in-Lowers-clause-doing c = steps c.in-Lowers.is (c.lower_on.ensures.doing c.args.fresh)

pub returns-in-Lowers-clause-marks : goal.returns-in-Lowers-clause-marks
returns-in-Lowers-clause-marks c = marks-on c.in-Lowers.is (c.lower_on.ensures.marks c.args.fresh)

pub unreachable-requires : goal.unreachable-requires
unreachable-requires c = let (flick, value, before, moved) = c.requires.moved in idle-goes c.args.called.now c.args.work.now before moved.goes c.in-Rests.is
