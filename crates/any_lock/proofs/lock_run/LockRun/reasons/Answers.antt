use Rattle.std.proofs.Common.{sym, ap, ◌∙◌}
use Rattle.any_lock.specs.{inside_by, opened_by, stage_of, torn_by, wait_by}
use Rattle.any_lock.proofs.lock_run.LockRun.reasons.Goals as goal

pub returns : goal.returns
returns c = λ past e p a m knows. let s = c.args.self.now.setup in record {
  may = c.change.ensures past e p a m knows;
  refused = c.refusal.ensures past e p a m knows;
  stage = c.stage.ensures past knows ∙ ap (stage_of s past) (sym p);
  opened = c.opened.ensures past knows ∙ ap (opened_by s past) (sym p);
  torn = c.torn.ensures past knows ∙ ap (torn_by s past) (sym p);
  inside = c.inside.ensures past knows ∙ ap (inside_by c.args.law s past) (sym p);
  waits = λ q below. c.waits.ensures past knows q below ∙ ap (λ n. wait_by c.args.law s past n q) (sym p);
  doorway = c.doorway.ensures past e p a knows;
}
