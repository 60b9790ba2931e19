use Rattle.std.proofs.Common.{◌≡◌, ◌≤◌, ◌∙◌, length, sym, arith}
use Rattle.store_image.proofs.Puts.{place_found, place_passed, place_ended}
use Rattle.store_image.specs.{pair_in}
use Rattle.store_image.proofs.image.Image.place_of.Goals as goal

pub returns-then-has_name : goal.returns-then-has_name
returns-then-has_name c = place_found c.args.self.now.pairs c.args.name.now c.loop-place.place (pair_in c.slot.result.now) c.slot.ensures.pair (sym c.has_name.ensures ∙ c.if-has_name.true) c.loop-place.invariant

pub loop-place-preserved : goal.loop-place-preserved
loop-place-preserved c = place_passed c.args.self.now.pairs c.args.name.now c.loop-place.place (pair_in c.slot.result.now) c.slot.ensures.pair (sym c.has_name.ensures ∙ c.if-has_name.false) c.loop-place.invariant

pub returns : goal.returns
returns c =
    let end : length c.args.self.now.pairs ≤ c.loop-place.place = omega (arith, c.loop-place-test.false, c.len-place-end.ensures) in
    let at_end : c.len.result ≡ c.loop-place.place = omega (arith, c.len.ensures, c.len-place-end.ensures, c.loop-place.auto.place-end) in
    at_end ∙ place_ended c.args.self.now.pairs c.args.name.now c.loop-place.place end c.loop-place.invariant
