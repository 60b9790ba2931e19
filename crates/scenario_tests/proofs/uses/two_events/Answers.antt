use Rattle.model.specs.{process_of}
use Rattle.scenario_tests.proofs.Using.{two_alone}
use Rattle.scenario_tests.proofs.uses.two_events.Goals as goal

pub returns : goal.returns
returns c = record {
  alone = two_alone c.args.world.now c.event.new.self c.args.first (process_of c.args.first) c.in_ok-one.one (process_of c.args.second) c.in_ok-two.two c.shown.ensures
      c.in_ok-one.ensures.accepted c.in_ok-one.ensures.shows c.in_ok-one.ensures.setup c.in_ok-one.ensures.main_theorem c.in_ok-two.ensures.main_theorem;
}
