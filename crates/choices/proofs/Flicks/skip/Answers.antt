use Rattle.std.proofs.Common.{◌≡◌, sym, ◌∙◌, ap}
use Rattle.rand_pcg.specs.Lcg.{Lcg}
use Rattle.choices.specs.{FlickState, Mode, flicks_after}
use Rattle.choices.specs.declared.Mode.TheVariants.{Constant, Generator}
use Rattle.choices.proofs.Skips.{constant, generated, state}
use Rattle.choices.proofs.Flicks.skip.Goals as goal

pub returns-in-Constant : goal.returns-in-Constant
returns-in-Constant c =
    let g = c.self.inside.generator in
    let is : state (Constant c.in-Constant.field-0) g.state g.increment ≡ c.args.self.now = ap (λ m. state m g.state g.increment) (sym c.in-Constant.is) ∙ c.self.view_is in
    sym is ∙ sym (constant c.args.steps c.in-Constant.field-0 g.state g.increment) ∙ ap (flicks_after c.args.steps) is

pub returns-in-Generator : goal.returns-in-Generator
returns-in-Generator c =
    let g = c.self.inside.generator in
    let is : state Generator g.state g.increment ≡ c.args.self.now = ap (λ m. state m g.state g.increment) (sym c.in-Generator.is) ∙ c.self.view_is in
    let made = λ (m : Mode) (x : Lcg). let f : FlickState = record { mode = m; generator = x } in f in
    ap (λ m. made m c.advance.new.self) c.in-Generator.is ∙ ap (made Generator) c.advance.ensures ∙ sym (generated c.args.steps g.state g.increment) ∙ ap (flicks_after c.args.steps) is
