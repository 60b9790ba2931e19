use Rattle.std.proofs.Common.{ℕ, ◌∙◌, rules, tests}
use Rattle.std.proofs.lemmas.Iterator.{YieldsList-from_slice}
use Rattle.std.proofs.lemmas.Iterator.Search.{all_from_yields_List}
use Rattle.std.specs.Global.{Vec}
use Rattle.std.specs.Str.{bytes_eq}
use Rattle.run_state.proofs.CopyTexts.{all_in}
use Rattle.run_state.proofs.register_lines.are_all.Goals as goal

pub returns : goal.returns
returns c =
    all_from_yields_List (λ (t : Vec ℕ). bytes_eq t.items c.args.text.now) _ _ _ c.all.ensures.ran (YieldsList-from_slice c.args.texts.now cc) (λ x b q k. search (rules, tests))
    ∙ all_in c.args.text.now c.args.texts.now
