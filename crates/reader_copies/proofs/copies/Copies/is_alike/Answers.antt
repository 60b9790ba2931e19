use Rattle.std.proofs.Common.{◌≡◌, map, arith}
use Rattle.std.proofs.lemmas.Grind.{common_steps}
use Rattle.reader_copies.specs.{without_unused_flags}
use Rattle.reader_copies.proofs.Cells.{alike-cells}
use Rattle.reader_copies.proofs.copies.Copies.is_alike.Goals as goal

pub returns : goal.returns
returns c = λ same.
    let self = c.self.inside in
    let other = c.other.inside in
    let long : self.len ≡ other.len = grind (arith, common_steps) in
    let alike : map without_unused_flags self.flags.items ≡ map without_unused_flags other.flags.items = grind (arith, common_steps) in
    alike-cells self.flags.items other.flags.items self.len other.len _ _ c.self.view_is c.other.view_is c.self.invariant c.other.invariant long alike
