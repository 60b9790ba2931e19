-- An access that writes nothing overlaps nothing.
use Rattle.std.proofs.Common.{◌≡◌, Bool, true, false, cond, List, [], ◌∷◌, Option, None, Some, is_some, map, option_map, refl, ap, ◌∙◌}
use Rattle.trace.specs.{CellAccess, TraceMemory, value_written}
use Rattle.trace_memory.specs.{OpenAccess, allowed_after, same_cell, seen}

unseen : (m : TraceMemory) (a : CellAccess) (k : OpenAccess) → value_written a.how ≡ None → seen m a k ≡ k
unseen m a k none = λ i. record { entry = k.entry; cell = k.cell; allowed = same i }
  where
    by : (b : Bool) → cond b k.allowed k.allowed ≡ k.allowed
    by true = refl
    by false = refl

    same : cond (same_cell a.cell k.cell) (allowed_after m (value_written a.how) k.allowed) k.allowed ≡ k.allowed
    same = ap (λ w. cond (same_cell a.cell k.cell) (allowed_after m w k.allowed) k.allowed) none ∙ by (same_cell a.cell k.cell)

pub all_unseen : (m : TraceMemory) (a : CellAccess) (opened : List (Option OpenAccess)) → value_written a.how ≡ None → map (option_map (seen m a)) opened ≡ opened
all_unseen m a [] none = refl
all_unseen m a (None ∷ opened) none = ap (λ l. None ∷ l) (all_unseen m a opened none)
all_unseen m a (Some k ∷ opened) none = (λ i. Some (unseen m a k none i) ∷ all_unseen m a opened none i)

pub none_of : {A : Type 0} (o : Option A) → is_some o ≡ false → o ≡ None
none_of None h = refl
none_of (Some x) h = absurd (cc)
