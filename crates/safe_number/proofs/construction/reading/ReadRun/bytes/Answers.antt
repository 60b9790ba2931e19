use Rattle.std.proofs.Common.{◌∙◌, ap, take, get_or, length, false, arith}
use Rattle.std.proofs.lemmas.List.{length-take-le}
use Rattle.safe_number.specs.{NumberRead, bit_in}
use Rattle.safe_number.proofs.Numbers.{bits-reported, length_bits}
use Rattle.safe_number.proofs.construction.reading.ReadRun.bytes.Goals as goal

pub returns-clause-len : goal.returns-clause-len
returns-clause-len c = omega (arith, length-take-le c.div_ceil.result c.deref.result.now (omega (arith, c.deref.ensures.len, ap length c.deref.ensures.value, c.div_ceil.ensures, c.self.invariant.bit_in_width, c.self.invariant.width_in_room, c.self.invariant.bytes_in_room)), c.div_ceil.ensures, length_bits c.self.inside.bytes.items c.self.inside.bit, ap (λ (r : NumberRead). length r.bits) c.self.view_is)

pub returns-clause-bits : goal.returns-clause-bits
returns-clause-bits c = λ k.
    ap (λ xs. bit_in (take c.div_ceil.result xs) k) c.deref.ensures.value
    ∙ bits-reported c.self.inside.bytes.items c.self.inside.bit c.div_ceil.result (omega (arith, c.div_ceil.ensures, c.self.invariant.bit_in_width)) (omega (arith, c.div_ceil.ensures, c.self.invariant.bit_in_width, c.self.invariant.width_in_room, c.self.invariant.bytes_in_room)) (λ j unread near. c.self.invariant.rest j unread (omega (arith, c.div_ceil.ensures))) k
    ∙ ap (λ (r : NumberRead). get_or r.bits k false) c.self.view_is
