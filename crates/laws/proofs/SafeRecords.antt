-- Each read of a record ends with the value of the safe rule, and otherwise with the flick of its event.
use Rattle.std.proofs.Common.{◌≡◌, Bool, if◌then◌else◌, List, Some, None, refl, sym, ap, subst, ◌∙◌, length, ℕ}
use Rattle.model.specs.safe_bit.{MayEndWith, Move, before_read, last_written, read_value}
use Rattle.model.specs.safe_bit.declared.Move.TheVariants.{EndRead}
use Rattle.model.specs.{Access, Entry, Event, Next, Past, ended, entry_made, entry_of, moves_of, nth, opening_bit, own, program, since, starts, stepped, valued}
use Rattle.plain_store.specs.{Setup}
use Rattle.model.specs.declared.events.Event.TheVariants.{Call, Step, Fail, Withdraw, Restart}
use Rattle.model.proofs.Local.{option_map-some}
use Rattle.model.proofs.World.{entry-accepted}

end-value : (u v : Bool) (m : Move) → ended u m ≡ EndRead v → v ≡ u
end-value u v (EndRead w) h = cc
end-value u v _ h = cc

-- a read that a step ends
step-ends : (s : Setup) (past : Past) (p : ℕ) (flick : Bool) (e : Entry) (a : Access) (v : Bool) → stepped s past p flick ≡ Some e → e.access ≡ Some a → a.how ≡ EndRead v →
    v ≡ read_value (opening_bit s a) (moves_of a past) flick
step-ends s past p flick e a v h acc how =
    let made : (n : Next) × (nth (length (since starts (own p past))) (program s p flick (own p past)) ≡ Some n) × (entry_made s past p flick n ≡ e) = option_map-some (entry_made s past p flick) _ e h in
    let x : Access = made.0.access in
    let k : Some (valued s past flick x) ≡ Some a = ap (λ (e : Entry). e.access) made.2 ∙ acc in
    let is : valued s past flick x ≡ a = cc in
    subst (λ (y : Access). v ≡ read_value (opening_bit s y) (moves_of y past) flick) is
    (end-value (read_value (opening_bit s x) (moves_of x past) flick) v x.how (ap (λ (y : Access). y.how) is ∙ how))

pub ends_by_its_flick : (s : Setup) (past : Past) (p : ℕ) (flick : Bool) (e : Entry) → entry_of s past (Step p flick) ≡ Some e → (a : Access) (v : Bool) → e.access ≡ Some a → a.how ≡ EndRead v →
    v ≡ read_value (opening_bit s a) (moves_of a past) flick
ends_by_its_flick s past p flick e is a v acc how = step-ends s past p flick e a v (entry-accepted s past (Step p flick) e is).2 acc how

-- the value of a read that no write overlaps does not depend on the flick
may-end : (opening v flick : Bool) (moves : List Move) → v ≡ read_value opening moves flick → MayEndWith opening moves v
may-end opening v flick moves h calm = h ∙ ap (λ b. if b then flick else last_written opening (before_read moves)) calm

-- an entry that only marks ends no read
marks-only : (e x : Entry) (a : Access) → Some x ≡ Some e → x.access ≡ None → e.access ≡ Some a → ⊥
marks-only e x a h none some = let is : x ≡ e = cc in let f : None ≡ Some a = sym none ∙ ap (λ (y : Entry). y.access) is ∙ some in cc

pub ends_as_it_may : (s : Setup) (past : Past) (event : Event) (e : Entry) → entry_of s past event ≡ Some e → (a : Access) (v : Bool) → e.access ≡ Some a → a.how ≡ EndRead v →
    MayEndWith (opening_bit s a) (moves_of a past) v
ends_as_it_may s past (Step p flick) e is a v acc how = may-end (opening_bit s a) v flick (moves_of a past) (ends_by_its_flick s past p flick e is a v acc how)
ends_as_it_may s past (Call p c) e is a v acc how = absurd (marks-only e _ a (entry-accepted s past (Call p c) e is).2 refl acc)
ends_as_it_may s past (Fail p) e is a v acc how = absurd (marks-only e _ a (entry-accepted s past (Fail p) e is).2 refl acc)
ends_as_it_may s past (Withdraw p) e is a v acc how = absurd (marks-only e _ a (entry-accepted s past (Withdraw p) e is).2 refl acc)
ends_as_it_may s past (Restart p) e is a v acc how = absurd (marks-only e _ a (entry-accepted s past (Restart p) e is).2 refl acc)
