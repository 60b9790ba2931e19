-- Accesses to one bit.
use Rattle.std.proofs.Common.{◌≡◌, true, false, sym, ap, ◌∙◌, true≢false}
use Rattle.std.proofs.lemmas.Bool.{cases_Bool}
use Rattle.std.proofs.Common.{inl, inr}
use Rattle.laws.proofs.FrameCells.{OnCopy, itself, on-copy}
use Rattle.model.specs.{Access, copy, same_bit}

-- An access, as far as it names its bit.
abbrev pub bare : Access → Access
bare a = copy a.owner a.field a.reader a.bit

pub same-bare : (b a : Access) → same_bit b a ≡ true → bare b ≡ bare a
same-bare b a h =
    let on : OnCopy a b.owner b.field b.bit b.reader = on-copy a b.owner b.field b.bit b.reader h in
    λ i. copy (on.owner i) (on.field i) (on.reader i) (on.bit i)

pub same-refl : (a : Access) → same_bit a a ≡ true
same-refl a = itself a

-- Accesses that name one bit are of one bit.
pub bare-same : (b a : Access) → bare b ≡ bare a → same_bit b a ≡ true
bare-same b a h = ap (λ x. same_bit x (bare a)) h ∙ same-refl (bare a)

pub same-sym : (a b : Access) → same_bit a b ≡ true → same_bit b a ≡ true
same-sym a b h = bare-same b a (sym (same-bare a b h))

pub other-sym : (a b : Access) → same_bit a b ≡ false → same_bit b a ≡ false
other-sym a b h = elim (cases_Bool (same_bit b a)) [
  | inl same ↦ absurd (true≢false (sym (same-sym b a same) ∙ h))
  | inr other ↦ other
]
