use Rattle.std.proofs.Common.{◌≡◌, ◌++◌, ◌∙◌, ap, flat_map, arith}
use Rattle.std.specs.List.{range_with_len}
use Rattle.model.specs.{fields}
use Rattle.run_state.specs.{lines_of_register}
use Rattle.run_state.proofs.Ranges.{text_more}
use Rattle.run_state.proofs.register_lines.push_registers.Goals as goal

pub loop-owner-preserved : goal.loop-owner-preserved
loop-owner-preserved c = λ past observed.
    text_more (λ owner. flat_map (lines_of_register c.args.setup.now past owner) fields) c.loop-owner.owner c.args.text.now.items c.loop-owner.text.items c.push_owned.new.text.items (c.loop-owner.invariant past observed)
    (c.in_ok-push_owned.ensures past observed)

pub returns : goal.returns
returns c = λ past observed.
    let all : c.loop-owner.owner ≡ c.args.setup.now.processes = omega (arith, c.loop-owner-test.false, c.loop-owner.auto.owner-end) in
    c.loop-owner.invariant past observed ∙ ap (λ n. c.args.text.now.items ++ flat_map (λ owner. flat_map (lines_of_register c.args.setup.now past owner) fields) (range_with_len 0 n)) all
