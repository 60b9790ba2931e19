use Rattle.std.proofs.Common.{◌≡◌, sym, ◌∙◌, subst}
use Rattle.process.specs.{KeepsPlace, Activity, state_at, stepped}
use Rattle.process.specs.declared.activity.Activity.TheVariants as work
use Rattle.process.proofs.RunsOn.{first-reported, marks-past, marks-within, runs-next, runs-over, runs-within, still-runs}
use Rattle.process.proofs.process.advance.run_on.Goals as goal

pub returns-then-not-is_over-clause-doing : goal.returns-then-not-is_over-clause-doing
returns-then-not-is_over-clause-doing c = λ flick value before h.
    let k = c.args.called.now in
    let cur = c.args.cursor.now in
    let P : Activity → Type 0 = λ w. state_at k w cur ≡ stepped (state_at k work.Runs before) flick value in
    subst P (sym c.requires.runs) (runs-within k flick value before cur c.args.fresh h (sym c.is_over.ensures ∙ c.if-not-is_over.true))

pub returns-then-not-is_over-clause-marks : goal.returns-then-not-is_over-clause-marks
returns-then-not-is_over-clause-marks c = λ flick value before h.
    let k = c.args.called.now in
    c.outcome_of_first.ensures.marks
    ∙ first-reported k c.args.fresh c.leaves.result c.leaves.ensures
    ∙ sym (marks-within k flick value before c.args.cursor.now c.args.fresh h (sym c.is_over.ensures ∙ c.if-not-is_over.true))

pub returns-then-not-is_over-clause-keeps : goal.returns-then-not-is_over-clause-keeps
returns-then-not-is_over-clause-keeps c =
    let m = c.requires.moved in
    let k = c.args.called.now in
    subst (λ w. KeepsPlace k w c.args.cursor.now) (sym c.requires.runs) (still-runs k m.0 m.1 m.2 c.args.cursor.now c.args.fresh m.3 (sym c.is_over.ensures ∙ c.if-not-is_over.true))

pub returns-then-is_over-clause-doing : goal.returns-then-is_over-clause-doing
returns-then-is_over-clause-doing c = λ flick value before h.
    let cur = c.args.cursor.now in
    runs-over c.args.called.now c.part_over-reported.new.called flick value before cur cur c.args.fresh h (sym c.is_over.ensures ∙ c.if-not-is_over.false) c.part_over-reported.ensures.part (sym c.is_over-2.ensures ∙ c.if-is_over.true)

pub returns-then-is_over-clause-marks : goal.returns-then-is_over-clause-marks
returns-then-is_over-clause-marks c = λ flick value before h.
    c.part_over-reported.ensures.marks ∙ sym (marks-past c.args.called.now flick value before c.args.cursor.now c.args.fresh h (sym c.is_over.ensures ∙ c.if-not-is_over.false))

pub returns-else-is_over-clause-doing : goal.returns-else-is_over-clause-doing
returns-else-is_over-clause-doing c = λ flick value before h.
    let k = c.args.called.now in
    let next = c.part_over-reported.new.called in
    let then = c.begin_part.new.cursor in
    let P : Activity → Type 0 = λ w. state_at next w then ≡ stepped (state_at k work.Runs before) flick value in
    subst P (sym c.requires.runs) (runs-next k next flick value before c.args.cursor.now then c.args.fresh h (sym c.is_over.ensures ∙ c.if-not-is_over.false) c.part_over-reported.ensures.part (sym c.is_over-2.ensures ∙ c.if-is_over.false) c.begin_part.ensures.cursor)

pub returns-else-is_over-clause-marks : goal.returns-else-is_over-clause-marks
returns-else-is_over-clause-marks c = λ flick value before h.
    c.part_over-reported.ensures.marks ∙ sym (marks-past c.args.called.now flick value before c.args.cursor.now c.args.fresh h (sym c.is_over.ensures ∙ c.if-not-is_over.false))
