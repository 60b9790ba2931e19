use Rattle.std.proofs.Common.{ap, sym, subst, ◌∙◌, arith}
use Rattle.plain_store.specs.{Setup}
use Rattle.sweeper.specs.{AreOfSetup, RunnerState, counted, due}
use Rattle.sweeper.proofs.Counting.{run_counts}
use Rattle.sweeper.proofs.sweeping.Sweeper.run.Goals as goal

pub end-stuck-requires : goal.end-stuck-requires
end-stuck-requires c = record {
  setup = subst (λ (s : Setup). AreOfSetup s c.args.self.now.known) (sym (c.come_to_rest.ensures.setup ∙ ap (λ (r : RunnerState). r.core.setup) c.copy_from.ensures)) c.requires.known;
  room = let room = c.requires.due in let less = c.come_to_rest.ensures.bounded in let same = ap due c.copy_from.ensures in omega (arith, room, less, same);
}

pub returns : goal.returns
returns c =
    let old = c.args.self.now in
    run_counts c.args.calls.now old c.copy_from.new.self c.come_to_rest.new.self c.end-stuck.new.run c.end-stuck.new.self c.with_run-self.result c.args.value c.args.process c.args.cut c.end-stuck.result
    c.copy_from.ensures c.come_to_rest.ensures.setup c.end-stuck.ensures.setup c.come_to_rest.ensures.follows c.end-stuck.ensures.run c.end-stuck.ensures.known
    (c.with_run-self.ensures ∙ ap (counted old.found c.args.cut c.args.value c.end-stuck.result) c.bad.ensures)
