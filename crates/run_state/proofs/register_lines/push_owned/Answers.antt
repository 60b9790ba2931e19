use Rattle.std.proofs.Common.{◌++◌, ◌∙◌, List, ap, flat_map}
use Rattle.std.proofs.lemmas.List.{take_all}
use Rattle.model.specs.{Field, fields}
use Rattle.model.specs.declared.access.Field.TheVariants.{Image1}
use Rattle.run_state.specs.{lines_of_register}
use Rattle.run_state.proofs.Ranges.{list_more}
use Rattle.run_state.proofs.register_lines.push_owned.Goals as goal

pub loop-number-preserved : goal.loop-number-preserved
loop-number-preserved c = λ past observed.
    list_more (lines_of_register c.args.setup.now past c.args.owner) fields c.loop-number.number Image1 c.loop-number-test.true c.args.text.now.items c.loop-number.text.items c.push_register.new.text.items (c.loop-number.invariant past observed)
    (c.in_ok-push_register.ensures past observed ∙ ap (λ f. c.loop-number.text.items ++ lines_of_register c.args.setup.now past c.args.owner f) c.field_numbered-field.ensures.place)

pub returns : goal.returns
returns c = λ past observed. c.loop-number.invariant past observed ∙ ap (λ (l : List Field). c.args.text.now.items ++ flat_map (lines_of_register c.args.setup.now past c.args.owner) l) (take_all c.loop-number.number fields c.loop-number-test.false)
