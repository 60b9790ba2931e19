use Rattle.std.proofs.Common.{ℕ, ◌∙◌, rules, tests}
use Rattle.std.proofs.lemmas.Iterator.{YieldsList-from_slice}
use Rattle.std.proofs.lemmas.Iterator.Search.{any_from_yields_List}
use Rattle.std.specs.Global.{Vec}
use Rattle.std.specs.Str.{bytes_eq}
use Rattle.run_state.proofs.CopyTexts.{any_in}
use Rattle.run_state.proofs.register_lines.is_among.Goals as goal

pub returns : goal.returns
returns c =
    any_from_yields_List (λ (t : Vec ℕ). bytes_eq t.items c.args.text.now) _ _ _ c.any.ensures.ran (YieldsList-from_slice c.args.texts.now cc) (λ x b q k. search (rules, tests))
    ∙ any_in c.args.text.now c.args.texts.now
