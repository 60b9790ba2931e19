-- The bits of accesses as keys of a set: when two are equal, and what a hash is made of.
use Rattle.std.specs.Prelude.{◌≡◌, Bool, List, ◌++◌, ℕ, IsTrue}
use Rattle.std.proofs.Common.{sym}
use Rattle.std.proofs.lemmas.Bool.Decides.{Decides-eqb}
use Rattle.std.specs.Cmp.{IsEquivalence, and_equiv, back_equiv, nat_eq_equiv, on_equiv}
use Rattle.std.specs.Hash as fed
use Rattle.model.specs.{Access, field_number, same_bit}

-- Two accesses are of one bit.
abbrev pub is_one_bit : Access → Access → Bool
is_one_bit a b = same_bit b a

-- What is hashed of the bit of an access.
abbrev pub bit_fed : Access → List (List ℕ)
bit_fed a = ((fed.u16 a.bit ++ fed.u8 a.reader) ++ fed.u8 a.owner) ++ fed.usize (field_number a.field)

-- Accesses of one bit are equal as keys, and have one hash.

pub one_bit_equiv : IsEquivalence is_one_bit
one_bit_equiv = back_equiv
    (and_equiv (and_equiv (and_equiv
    (on_equiv (λ (a : Access). a.bit) nat_eq_equiv)
    (on_equiv (λ (a : Access). a.reader) nat_eq_equiv))
    (on_equiv (λ (a : Access). a.owner) nat_eq_equiv))
    (on_equiv (λ (a : Access). field_number a.field) nat_eq_equiv))

fed_alike : fed.Alike same_bit bit_fed
fed_alike =
    fed.and-Alike (fed.and-Alike (fed.and-Alike
    (fed.on_Alike (λ (a : Access). a.bit) (fed.same_Alike fed.u16 Decides-eqb))
    (fed.on_Alike (λ (a : Access). a.reader) (fed.same_Alike fed.u8 Decides-eqb)))
    (fed.on_Alike (λ (a : Access). a.owner) (fed.same_Alike fed.u8 Decides-eqb)))
    (fed.on_Alike (λ (a : Access). field_number a.field) (fed.same_Alike fed.usize Decides-eqb))

pub one_bit_fed : (a b : Access) → IsTrue (is_one_bit a b) → bit_fed a ≡ bit_fed b
one_bit_fed a b same = sym (fed_alike.fed b a same)
