use Rattle.std.proofs.Common.{◌≡◌, ◌+◌, List, ap, ◌∙◌, subst, sym, arith}
use Rattle.safe_bit.specs.Cell.{Cell}
use Rattle.choices.specs.{FlickState, flicks_after}
use Rattle.registers.specs.{CursorState, Fits}
use Rattle.registers.proofs.Iterates.{overlapped-few}
use Rattle.registers.proofs.Runs.{HasRun, MayStep, leads-on, may-step, newest-last, run-fits, step-on}
use Rattle.registers.proofs.memory.BitMemory.run.Goals as goal
use Rattle.registers.proofs.memory.BitMemory.run.Goals.{After-from-overlapped, Else-word-gt0}

abbrev State : Type 0
State = CursorState × List (List Cell) × FlickState

abbrev AreFit : State → Type 0
AreFit (cursor, memory, flicks) = Fits memory cursor

pub run_word-word-requires : goal.run_word-word-requires
run_word-word-requires c = record { fits = subst AreFit (sym c.steps.invariant.1.now_is) (run-fits c.steps.made (c.args.cursor.now, c.args.self.now, c.args.flicks.now) c.requires.fits) }

pub steps-preserved-then-word-gt0 : goal.steps-preserved-then-word-gt0
steps-preserved-then-word-gt0 c =
    let word = c.run_word-word in (
      omega (arith, word.ensures.within, c.steps.invariant.0),
      leads-on word.result c.steps.made c.steps.overlapped (c.args.cursor.now, c.args.self.now, c.args.flicks.now) c.steps.cursor word.new.cursor c.steps.self word.new.self c.steps.flicks c.skip.new.self c.steps.invariant.1 word.ensures.leads c.skip.ensures,
    )

-- no word was accessed at once
stayed : (c : Else-word-gt0) → HasRun c.steps.made c.steps.overlapped (c.args.cursor.now, c.args.self.now, c.args.flicks.now) (c.run_word-word.new.cursor, c.run_word-word.new.self, c.steps.flicks)
stayed c =
    let word = c.run_word-word in
    let before : State = (c.args.cursor.now, c.args.self.now, c.args.flicks.now) in
    let none : 0 ≡ word.result = omega (arith, c.if-word-gt0.false) in
    subst (λ n. HasRun n c.steps.overlapped before (word.new.cursor, word.new.self, c.steps.flicks)) (let same : c.steps.made + word.result ≡ c.steps.made = omega (arith, none) in same)
    (leads-on word.result c.steps.made c.steps.overlapped before c.steps.cursor word.new.cursor c.steps.self word.new.self c.steps.flicks c.steps.flicks c.steps.invariant.1 word.ensures.leads (ap (λ n. flicks_after n c.steps.flicks) none))

may : (c : Else-word-gt0) → MayStep c.run_word-word.new.cursor c.run_word-word.new.self
may c = may-step c.steps.made c.steps.overlapped (c.args.cursor.now, c.args.self.now, c.args.flicks.now) c.run_word-word.new.cursor c.run_word-word.new.self c.steps.flicks c.requires.kind c.requires.fits (omega (arith, c.requires.within, c.steps.invariant.0)) (stayed c)

pub step_plain-one-requires : goal.step_plain-one-requires
step_plain-one-requires c = let it = may (goal.at.step_plain-one-requires c).Else-word-gt0 in record { kind = it.kind; going = it.going; fits = it.fits }

-- one access was then made
stepped : (c : After-from-overlapped) → HasRun (c.steps.made + 1) (c.steps.overlapped + c.from-overlapped.result) (c.args.cursor.now, c.args.self.now, c.args.flicks.now) (c.step_plain-one.new.cursor, c.step_plain-one.new.self, c.step_plain-one.new.flicks)
stepped c =
    let one = c.step_plain-one in
    step-on c.steps.made c.steps.overlapped (c.args.cursor.now, c.args.self.now, c.args.flicks.now) c.run_word-word.new.cursor one.new.cursor c.run_word-word.new.self one.new.self c.steps.flicks one.new.flicks one.result.overlapped one.result.access c.from-overlapped.result (stayed (goal.at.overflow_add-overlapped c).Else-word-gt0)
    one.ensures.access one.ensures.cursor one.ensures.memory one.ensures.flicks one.ensures.overlapped c.from-overlapped.ensures

pub overflow_add-overlapped : goal.overflow_add-overlapped
overflow_add-overlapped c = omega (arith, overlapped-few (c.steps.made + 1) (c.args.cursor.now, c.args.self.now, c.args.flicks.now), (stepped c).counts, c.steps.invariant.0)

pub steps-preserved : goal.steps-preserved
steps-preserved c = (omega (arith, c.steps.invariant.0, c.if-made-steps.false), stepped (goal.at.steps-preserved c).After-from-overlapped)

pub returns-then-made-steps : goal.returns-then-made-steps
returns-then-made-steps c =
    let before : State = (c.args.cursor.now, c.args.self.now, c.args.flicks.now) in
    let one = c.step_plain-one in
    let all : HasRun c.args.steps (c.steps.overlapped + c.from-overlapped.result) before (one.new.cursor, one.new.self, one.new.flicks) = subst (λ n. HasRun n (c.steps.overlapped + c.from-overlapped.result) before (one.new.cursor, one.new.self, one.new.flicks)) c.if-made-steps.true (stepped (goal.at.returns-then-made-steps c).After-from-overlapped) in
    record {
      run = all.now_is;
      fits = subst AreFit (sym all.now_is) (run-fits c.args.steps before c.requires.fits);
      newest = one.ensures.access ∙ newest-last c.steps.made c.args.steps before (c.run_word-word.new.cursor, c.run_word-word.new.self, c.steps.flicks) (stayed (goal.at.returns-then-made-steps c).Else-word-gt0).now_is (sym c.if-made-steps.true);
      overlapped = all.counts;
    }
