use Rattle.std.proofs.Common.{[], None, arith, rules}
use Rattle.sweeper.specs.{Counts, SweepsNone}
use Rattle.sweeper.proofs.Outcomes.{known_first}
use Rattle.sweeper.proofs.sweeping.Sweeper.new.Goals as goal

pub returns : goal.returns
returns c =
    let s = c.args.setup.now in
    let counts : Counts s [] (record { runs = 0; good = 0; stuck = 0; first_bad = None }) = search rules in
    let none : SweepsNone s (record { walker = c.in_ok-new.field-0; runner = c.in_ok-new-2.field-0; known = c.in_ok-new-3.field-0; found = record { runs = 0; good = 0; stuck = 0; first_bad = None } }) =
    λ calls. record {
      follows = c.in_ok-new.ensures.follows;
      walker_setup = c.in_ok-new.ensures.setup;
      runner_setup = c.in_ok-new-2.ensures.setup;
      known = known_first s calls c.in_ok-new-3.field-0 c.in_ok-new-3.ensures;
      counts = counts;
    } in
    record { swept = none; room = λ calls few. record { setup = s; before = []; swept = none calls; few_events = omega arith; few_calls = few } }
