use Rattle.picture.proofs.Sheetings.{adds_last}
use Rattle.picture.proofs.sheets.add_patterns.Goals as goal

pub returns-clause-draws : goal.returns-clause-draws
returns-clause-draws c = adds_last c.constant-2.result c.args.markup.now _ _ _ _ c.constant-2.ensures.draws c.in_ok-constant.ensures.draws
