-- Two replies are equal or differ.
use Rattle.std.proofs.Common.{◌≡◌, ◌≢◌, ◌==◌, Bool, true, false, refl, ap, subst, eqb-true, arith}
use Rattle.std.specs.Ordering.{int_eq}
use Rattle.std.proofs.lemmas.Bool.Decides.{Decides-int_eq, nat_tests}
use Rattle.plain_store.specs.{Reply, same_value}
use Rattle.plain_store.specs.declared.Reply.TheVariants.{Value, Done, Sum, Swapped, Kept, NoName, NotCounter, Overflow, StoreFull, Last}
use Rattle.plain_store.proofs.Changes.{same_value-Decides}

same_reply : Reply → Reply → Bool
same_reply (Value v) (Value w) = same_value v w
same_reply Done Done = true
same_reply (Sum m) (Sum n) = int_eq m n
same_reply Swapped Swapped = true
same_reply (Kept v) (Kept w) = same_value v w
same_reply NoName NoName = true
same_reply NotCounter NotCounter = true
same_reply Overflow Overflow = true
same_reply StoreFull StoreFull = true
same_reply (Last m) (Last n) = m == n
same_reply _ _ = false

same_is : (a b : Reply) → same_reply a b ≡ true → a ≡ b
unfolding same_reply
same_is (Value v) (Value w) h = ap Value ((same_value-Decides v w).0 h)
same_is Done Done h = refl
same_is (Sum m) (Sum n) h = ap Sum ((Decides-int_eq m n).0 h)
same_is Swapped Swapped h = refl
same_is (Kept v) (Kept w) h = ap Kept ((same_value-Decides v w).0 h)
same_is NoName NoName h = refl
same_is NotCounter NotCounter h = refl
same_is Overflow Overflow h = refl
same_is StoreFull StoreFull h = refl
same_is (Last m) (Last n) h = ap Last (eqb-true m n h)
same_is a b h = absurd (cc)

is_same : (a : Reply) → same_reply a a ≡ true
unfolding same_reply
is_same (Value v) = (same_value-Decides v v).1 refl
is_same (Sum m) = (Decides-int_eq m m).1 refl
is_same (Kept v) = (same_value-Decides v v).1 refl
is_same (Last m) = grind (arith, nat_tests)
is_same _ = refl

-- replies that don't differ are equal
pub not_other : (a b : Reply) → (a ≢ b → ⊥) → a ≡ b
not_other a b not = by (same_reply a b) refl
  where
    by : (t : Bool) → same_reply a b ≡ t → a ≡ b
    by true is = same_is a b is
    by false is = absurd (not (λ same. let h : same_reply a b ≡ true = subst (λ (x : Reply). same_reply a x ≡ true) same (is_same a) in cc))
