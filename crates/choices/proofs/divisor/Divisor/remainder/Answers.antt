use Rattle.std.proofs.Common.{rules, ◌^◌, ◌<◌, sym}
use Rattle.choices.proofs.Shares.{fair}
use Rattle.choices.proofs.divisor.Divisor.remainder.Goals as goal

pub returns : goal.returns
returns c =
    let few : c.self.inside.number < 2 ^ 32 = search rules in
    rw (c.from-2.ensures, c.from-3.ensures, c.from.ensures, c.self.invariant.1, sym c.self.view_is) (fair c.self.inside.number c.args.word c.self.invariant.0 few c.ranges.word.fits)
