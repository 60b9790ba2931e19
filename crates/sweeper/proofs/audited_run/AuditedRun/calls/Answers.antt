use Rattle.std.proofs.Common.{◌||◌, ℕ, Bool, List, take, sym, subst, ◌∙◌, arith}
use Rattle.std.proofs.lemmas.List.{take_all}
use Rattle.plain_store.specs.{Command, Setup}
use Rattle.sweeper.specs.{IsRun, Run, with_call, with_calls}
use Rattle.sweeper.proofs.Onward.{calls_more}
use Rattle.sweeper.proofs.audited_run.AuditedRun.calls.Goals as goal

pub call-stuck-requires : goal.call-stuck-requires
call-stuck-requires c =
    let room = c.requires.room in let few = c.loop-process.invariant.few in let within = c.loop-process-test.true in omega (arith, room, few, within)

pub loop-process-preserved : goal.loop-process-preserved
loop-process-preserved c =
    let l = c.loop-process in
    let s : Setup = c.args.self.now.core.setup in
    let v = c.args.value in
    let calls = c.args.calls.now in
    let call = c.loop-process-item.result in
    let then = c.call-stuck.new.self in
    let met = c.call-stuck.result in
    record {
      run = λ run first.
          let before : Run = with_calls s (take l.process-index calls) v run in
          let so_far : IsRun l.self l.stuck before = l.invariant.run run first in
          subst (λ (run : Run). IsRun then (l.stuck || met) run) (calls_more s v calls l.process-index call run c.loop-process-test.true c.loop-process-item.is)
          (subst (λ (s : Setup). IsRun then (l.stuck || met) (with_call s v before call)) l.invariant.setup
          (subst (λ (stuck : Bool). IsRun then (stuck || met) (with_call l.self.core.setup v before call)) (sym so_far.stuck) (c.call-stuck.ensures.run before so_far.follows)));
      few = let had = l.invariant.few in let more = c.call-stuck.ensures.bounded in omega (arith, had, more);
      setup = c.call-stuck.ensures.setup ∙ l.invariant.setup;
    }

pub returns-clause-run : goal.returns-clause-run
returns-clause-run c = λ run first.
    let l = c.loop-process in
    subst (λ (calls : List (ℕ × Command)). IsRun l.self l.stuck (with_calls c.args.self.now.core.setup calls c.args.value run)) (take_all l.process-index c.args.calls.now c.loop-process-test.false) (l.invariant.run run first)
