-- The unit of a process begins with a torn bit.
use Rattle.std.proofs.Common.{◌≡◌, ◌<◌, ℕ, zero, suc, ◌/◌, ◌%◌, ◌==◌, Bool, true, false, cond, List, get_or, Option, None, Some, is_some, option_map, replicate, refl, sym, ap, ◌∙◌, subst}
use Rattle.std.proofs.lemmas.Nat.Bits.{bit_at-zero}
use Rattle.std.specs.Int.{bit_at}
use Rattle.registers.specs.reader_copies.{HasItsValue}
use Rattle.model.specs.{Change, Field, IsTornOf, Settles, TornBit, is_commit, taken_with, width}
use Rattle.model.specs.safe_number.{bits_in}
use Rattle.model.proofs.safe_number.Numbers.{get-bits, length_bits}
use Rattle.laws.specs.{Doing, Closes}
use Rattle.registers.specs.{settling_from}
use Rattle.process.specs.declared.activity.Activity.TheVariants as work
use Rattle.process.specs.{IsCall, KeepsPlace, PartState, settling_with, state_at, with_doing}

some-value : (value : Option Bool) → is_some value ≡ true → (v : Bool) × (value ≡ Some v)
some-value None some = absurd (cc)
some-value (Some v) some = (v, refl)

-- the cursor is at it
pub unit-keeps : (k : PartState) (t : TornBit) → IsCall k.call → IsTornOf k.call.setup t → HasItsValue t.torn.begun t.torn.value → KeepsPlace k (work.Settles false None) (settling_from k.call.setup k.call.process t)
unit-keeps k t is there valued = record {
  call = is;
  working = record {
    cut = t.torn.made;
    value = t.torn.value;
    run = refl;
    owner = refl;
    reader = refl;
    copies = refl;
    wide = refl;
    copy = there.1;
    going = there.0;
    known = subst (λ n. t.bit < n) (sym (length_bits (replicate 216 0) (width k.call.setup t.field))) there.0;
    settled = λ begun. some-value t.torn.value (valued begun);
    written = tt;
  };
}

-- the value that was written is 0 here
zeros : (n k : ℕ) → (let bytes : List ℕ = replicate n 0 in get_or bytes k 0 ≡ 0)
zeros zero k = refl
zeros (suc n) zero = refl
zeros (suc n) (suc k) = zeros n k

zero-bit : (w k : ℕ) → k < w → get_or (bits_in (replicate 216 0) w) k false ≡ false
zero-bit w k inside = get-bits (replicate 216 0) w k inside ∙ ap (λ byte. bit_at byte (k % 8) == 1) (zeros 216 (k / 8)) ∙ ap (λ b. b == 1) (bit_at-zero (k % 8))

none-taken : (field : Field) → taken_with field None ≡ None
none-taken field = by (is_commit field)
  where
    by : (b : Bool) → (let none : Option Change = None in cond b (option_map (λ (change : Change). change.0) none) None) ≡ None
    by true = refl
    by false = refl

-- the unit does the work that the specification gives
pub unit-settles : (k : PartState) (t : TornBit) (d : Doing) → IsTornOf k.call.setup t → state_at k (work.Settles false None) (settling_from k.call.setup k.call.process t) ≡ settling_with (with_doing k d) (Some t)
unit-settles k t d there =
    let takes = sym (none-taken t.field) in
    let zero = zero-bit (width k.call.setup t.field) t.bit there.0 in
    λ i. with_doing k (Closes k.call.command k.call.number (Settles t.field t.bit (zero i) (takes i) false t.torn))
