use Rattle.std.proofs.Common.{rules}
use Rattle.std.proofs.lemmas.Str.{IsUtf8-from_ascii}
use Rattle.scenario.proofs.numbers.text.Goals as goal

pub unwrap-requires : goal.unwrap-requires
unwrap-requires c = search (rules, IsUtf8-from_ascii c.args.bytes.now c.requires, c.from_utf8.ensures.cases)
