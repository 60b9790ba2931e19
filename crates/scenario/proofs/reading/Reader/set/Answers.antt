use Rattle.std.proofs.Common.{◌≡◌, ◌∙◌, true, Ok, ap, subst, sym}
use Rattle.std.specs.Int.{is_in_range}
use Rattle.std.specs.List.{list_all}
use Rattle.plain_store.specs.{Setup, checked}
use Rattle.scenario.specs.{Progress, heading_set, is_line_of, most_of}
use Rattle.scenario.proofs.Good.{good_with_heading}
use Rattle.scenario.proofs.reading.Reader.set.Goals as goal

-- a heading in its range leaves the setup good, and there are no lines
pub invariant_of-self : goal.invariant_of-self
invariant_of-self c =
    let fits = subst (λ (p : Progress). is_in_range 1 (most_of c.args.heading p.setup.version) c.args.n ≡ true) (sym c.self.view_is) c.requires.fits in
    let none = ap (λ (p : Progress). p.setup.opening) c.self.view_is ∙ c.requires.none_open in
    let lines = ap (λ (p : Progress). p.lines) c.self.view_is ∙ c.requires.no_lines in
    (subst (λ (s : Setup). checked s ≡ Ok tt) (sym c.set.ensures) (good_with_heading c.args.heading c.args.n c.self.inside.setup c.self.invariant.0 none fits), c.self.invariant.1, ap (list_all (is_line_of c.set.new.setup.version)) lines)

pub returns : goal.returns
returns c =
    (λ i. record { given = c.add.ensures i; setup = c.set.ensures i; lines = c.self.inside.lines.items }) ∙ ap (heading_set c.args.heading c.args.n) c.self.view_is
