-- The value that a read of a part returned.
use Rattle.std.proofs.Common.{◌≡◌, ℕ, ◌^◌, ◌<◌, ◌≤◌, Bool, true, false, List, refl, subst, arith}
use Rattle.model.specs.safe_number.{number_of_bits}
use Rattle.model.proofs.safe_number.Bits.{number-fits}
use Rattle.model.specs.{Call, Part, is_read, max_of, read_at, stamp_field, width}
use Rattle.plain_store.specs.{Setup}
use Rattle.process.specs.{IsOutcome}

pub outcome-fits : (c : Call) (part : Part) (bits : List Bool) (number : ℕ) → IsOutcome c part bits number → is_read part ≡ true → number ≤ max_of (width c.setup (read_at c part).1)
outcome-fits c part bits number out reads =
    let fits : number_of_bits bits < 2 ^ width c.setup (read_at c part).1 = subst (λ w. number_of_bits bits < 2 ^ w) (out.whole reads) (number-fits bits) in
    omega (arith, fits, out.makes)

pub width-stamp : (s : Setup) (b : Bool) → width s (stamp_field b) ≡ s.stamp_bits
width-stamp s true = refl
width-stamp s false = refl
