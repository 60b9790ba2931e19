use Rattle.picture.proofs.Sheetings.{adds_last}
use Rattle.picture.proofs.sheets.list_line.Goals as goal

pub returns-clause-draws : goal.returns-clause-draws
returns-clause-draws c = adds_last c.constant.result c.args.markup.now _ _ _ _ c.constant.ensures.draws c.in_ok-add_text_element.ensures.draws
