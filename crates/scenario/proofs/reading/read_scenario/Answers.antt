use Rattle.scenario.proofs.LineNumbers.{within_read}
use Rattle.scenario.proofs.reading.read_scenario.Goals as goal

pub into_scenario-requires : goal.into_scenario-requires
into_scenario-requires c =
    within_read c.args.text.now c.in_ok-reader.reader c.new-said.result.items c.read_file.new.numbers.items c.in_ok-reader.ensures.said c.new-said.ensures.items c.in_ok-reader.ensures.numbers
