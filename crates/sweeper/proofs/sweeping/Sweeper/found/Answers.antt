use Rattle.std.proofs.Common.{◌≡◌, Ok, sym, subst, ◌∙◌}
use Rattle.plain_store.specs.{Setup, checked}
use Rattle.sweeper.specs.{cuts}
use Rattle.sweeper.proofs.Goods.{is_found}
use Rattle.sweeper.proofs.Units.{all_down}
use Rattle.sweeper.proofs.sweeping.Sweeper.found.Goals as goal

pub returns : goal.returns
returns c = record {
  found = λ s calls before swept. is_found s (cuts s calls before) c.args.self.now.found swept.counts;
  good = λ s calls before swept. (swept.counts.all ∙ sym swept.counts.runs, swept.counts.none_bad);
  main_theorem = λ s calls before swept. swept.counts.main_theorem;
  down = λ s calls before swept. all_down s (subst (λ (s : Setup). checked s ≡ Ok tt) swept.walker_setup swept.follows.shows.good) before;
}
