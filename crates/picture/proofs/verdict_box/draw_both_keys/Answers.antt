use Rattle.std.proofs.Common.{List, codes}
use Rattle.markup.specs.{Shape}
use Rattle.picture.specs.{key_of}
use Rattle.picture.proofs.Drawn.{ends_drawn}
use Rattle.picture.proofs.verdict_box.draw_both_keys.Goals as goal

pub returns-clause-draws : goal.returns-clause-draws
returns-clause-draws c =
    let bad : List Shape = key_of (codes "bad") c.args.top 600 14 (codes "the bad entry") in
    let named : List Shape = key_of (codes "named") c.args.top 715 24 (codes "what the verdict names; an arrow leads to who breaks the law") in
    ends_drawn c.draw_key-2.result c.args.markup.now _ _ bad named c.in_ok-draw_key.ensures.draws c.draw_key-2.ensures.draws
