use Rattle.std.proofs.Common.{◌≡◌, ℕ, ◌+◌, ◌-◌, Bool, List, take, drop, if◌then◌else◌, ap, ◌∙◌, pow_mono, arith}
use Rattle.model.specs.safe_number.{number_of_bits}
use Rattle.board.specs.{bits_shown}
use Rattle.board.proofs.ShownBits.{byte-is, byte-small, length-bits, number-below, number-more}
use Rattle.board.proofs.shown_image.number_shown.Goals as goal

pub overflow_mul-number : goal.overflow_mul-number
overflow_mul-number c =
    let l = c.loop-done in
    let below = number-below (drop (c.args.from + (c.args.count - l.done)) (bits_shown c.args.setup.now c.args.words.now.words.items c.args.register.owner c.args.register.field)) l.done in
    omega (arith, below, l.invariant, c.loop-done-test.true, c.requires.bounded, pow_mono {i = l.done} {j = 31} (omega (arith, c.loop-done-test.true, c.requires.bounded)))

pub overflow_add-number : goal.overflow_add-number
overflow_add-number c =
    let l = c.loop-done in
    let below = number-below (drop (c.args.from + (c.args.count - l.done)) (bits_shown c.args.setup.now c.args.words.now.words.items c.args.register.owner c.args.register.field)) l.done in
    omega (arith, below, l.invariant, c.from.ensures, byte-small c.bit_shown-bit.result, c.loop-done-test.true, c.requires.bounded, pow_mono {i = l.done} {j = 31} (omega (arith, c.loop-done-test.true, c.requires.bounded)))

pub loop-done-preserved : goal.loop-done-preserved
loop-done-preserved c =
    let l = c.loop-done in
    let k : ℕ = c.args.from + (c.args.count - 1 - l.done) in
    let values : List Bool = bits_shown c.args.setup.now c.args.words.now.words.items c.args.register.owner c.args.register.field in
    let more = number-more values k l.done (omega (arith, length-bits c.args.setup.now c.args.words.now.words.items c.args.register.owner c.args.register.field, c.loop-done-test.true, c.requires.bits)) in
    let at : c.args.from + (c.args.count - l.done) ≡ k + 1 = omega (arith, c.loop-done-test.true) in
    let next : c.args.from + (c.args.count - (l.done + 1)) ≡ k = omega (arith, c.loop-done-test.true) in
    let before : l.number ≡ number_of_bits (take l.done (drop (k + 1) values)) = l.invariant ∙ ap (λ j. number_of_bits (take l.done (drop j values))) at in
    let after : number_of_bits (take (l.done + 1) (drop (c.args.from + (c.args.count - (l.done + 1))) values)) ≡ number_of_bits (take (l.done + 1) (drop k values)) = ap (λ j. number_of_bits (take (l.done + 1) (drop j values))) next in
    let bit = c.from.ensures ∙ byte-is c.bit_shown-bit.result ∙ ap (λ b. if b then 1 else 0) c.bit_shown-bit.ensures in
    omega (arith, more, before, after, bit)

pub returns : goal.returns
returns c =
    let l = c.loop-done in
    let done : l.done ≡ c.args.count = omega (arith, c.loop-done-test.false, l.auto.done-end) in
    let from : c.args.from + (c.args.count - l.done) ≡ c.args.from = omega (arith, done) in
    l.invariant ∙ (λ i. number_of_bits (take (done i) (drop (from i) (bits_shown c.args.setup.now c.args.words.now.words.items c.args.register.owner c.args.register.field))))
