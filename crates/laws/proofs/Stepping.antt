-- Each step that is not part of a read keeps the invariant.
use Rattle.std.proofs.Common.{◌≡◌, ℕ, ◌<◌, Bool, false, List, ◌∷◌, Option, None, Some, refl, subst, ◌∙◌}
use Rattle.model.specs.{Access, Call, Closing, Entry, Next, Part, Past, Raises, Reading, Run, Wait, Waits, Writing, access_at, closing_after, closing_next, enter, is_over, is_read, place_after, value_of, valued, withdrawing, written_at}
use Rattle.plain_store.specs.{Command, Setup}
use Rattle.model.proofs.Width.{IsGood}
use Rattle.laws.specs.{Doing, Rests, Lies, Runs, Closes, call, runs, closes, doing, is_inside}
use Rattle.laws.proofs.Doings.{IsCut}
use Rattle.laws.proofs.Notes.{notes, notes_after}
use Rattle.laws.proofs.Invariant.{wires, touches, Corresponds, Inv, Moves, next_time}
use Rattle.laws.proofs.Frame.{notes-goes}
use Rattle.laws.proofs.FrameWires.{wires-kept, touches-kept}
use Rattle.laws.proofs.Moving.{Apart, all_move}
use Rattle.laws.proofs.Owner.{not_so}
use Rattle.laws.proofs.Ready.{Ready, ready}
use Rattle.laws.proofs.Writing.{OneField, one_field, advances}
use Rattle.laws.proofs.Wrote.{part_writes}
use Rattle.laws.proofs.Starts.{call_moves, withdrawal_moves, restart_moves, failure_moves}
use Rattle.laws.proofs.Closes.{closing_field, closing_goes_on}

-- an entry e of p, which did d, on a past that keeps the invariant
pub record At (s : Setup) (past : Past) (p : ℕ) (e : Entry) (d : Doing) : Type 0 where
  pub good : IsGood s
  pub below : p < s.processes
  pub inv : Inv s past
  pub process : e.process ≡ p
  pub apart : Apart s past p e
  pub does : doing s p past ≡ d

-- p is ready
ready_at : (s : Setup) (past : Past) (p : ℕ) (e : Entry) (d : Doing) → At s past p e d → Ready s past p (is_inside d) (notes s p past) (wires s past p) (touches s past)
ready_at s past p e d h = subst (λ y. Ready s past p (is_inside y) (notes s p past) (wires s past p) (touches s past)) h.does (ready s past p h.below h.inv)

-- the place of the process fits
corresponds_at : (s : Setup) (past : Past) (p : ℕ) (e : Entry) (d : Doing) → At s past p e d → Corresponds s p (notes s p past) (wires s past p) d
corresponds_at s past p e d h = subst (Corresponds s p (notes s p past) (wires s past p)) h.does (h.inv.own p h.below).corresponds

-- an entry with an access, or with none
accessed : (s : Setup) (past : Past) (p : ℕ) (e : Entry) (d d' : Doing) (a : Option Access) → At s past p e d → e.access ≡ a → doing s p (e ∷ past) ≡ d'
    → Moves s past p d' (notes_after s p (next_time past) a d (notes s p past)) (wires s (e ∷ past) p) (touches s (e ∷ past)) → Inv s (e ∷ past)
accessed s past p e d d' a h access does moves =
    all_move s past p e d' _ _ _ h.inv h.apart (record {
      doing = does;
      notes = notes-goes s p e past h.process ∙ (λ i. notes_after s p (next_time past) (access i) (h.does i) (notes s p past));
      wires = refl;
      touches = refl;
    }) moves

unaccessed : (s : Setup) (past : Past) (p : ℕ) (e : Entry) (d d' : Doing) → At s past p e d → e.access ≡ None → doing s p (e ∷ past) ≡ d' → Moves s past p d' (notes_after s p (next_time past) None d (notes s p past)) (wires s past p) (touches s past) → Inv s (e ∷ past)
unaccessed s past p e d d' h access does moves =
    all_move s past p e d' _ _ _ h.inv h.apart (record {
      doing = does;
      notes = notes-goes s p e past h.process ∙ (λ i. notes_after s p (next_time past) (access i) (h.does i) (notes s p past));
      wires = wires-kept s past e p access;
      touches = λ i o r. touches-kept s past e o r access i;
    }) moves

-- a call
pub call_keeps : (s : Setup) (past : Past) (p : ℕ) (e : Entry) (command : Command) (number : ℕ) → At s past p e Rests → e.access ≡ None → doing s p (e ∷ past) ≡ Runs command number (enter (call s p command number) Raises) → Inv s (e ∷ past)
call_keeps s past p e command number h access does =
    unaccessed s past p e Rests _ h access does (call_moves s h.good past p command number (notes s p past) (wires s past p) (touches s past) (ready_at s past p e Rests h) (corresponds_at s past p e Rests h))

-- a withdrawal
pub withdrawal_keeps : (s : Setup) (past : Past) (p : ℕ) (e : Entry) (command : Command) (number t : ℕ) (w : Wait) (ws : List Wait) (run : Run) → At s past p e (Runs command number (record { part = Waits t w ws; run = run })) → e.access ≡ None →
    doing s p (e ∷ past) ≡ Closes command number (withdrawing (call s p command number)) → Inv s (e ∷ past)
withdrawal_keeps s past p e command number t w ws run h access does =
    unaccessed s past p e _ _ h access does (withdrawal_moves s past p command number (notes s p past) (wires s past p) (touches s past) (ready_at s past p e (Runs command number (record { part = Waits t w ws; run = run })) h))

-- a failure
pub failure_keeps : (s : Setup) (past : Past) (p : ℕ) (e : Entry) (d : Doing) (command : Command) (number : ℕ) (cl : Closing) → At s past p e d → IsCut s p (call s p command number) cl d → e.access ≡ None → doing s p (e ∷ past) ≡ Closes command number cl → Inv s (e ∷ past)
failure_keeps s past p e d command number cl h cut access does =
    unaccessed s past p e d _ h access does (failure_moves s past p command number cl d (notes s p past) (wires s past p) (touches s past) cut (ready_at s past p e d h) (corresponds_at s past p e d h))

-- a restart
pub restart_keeps : (s : Setup) (past : Past) (p : ℕ) (e : Entry) → At s past p e Lies → e.access ≡ None → doing s p (e ∷ past) ≡ Rests → Inv s (e ∷ past)
restart_keeps s past p e h access does = unaccessed s past p e Lies Rests h access does (restart_moves s past p (notes s p past) (wires s past p) (touches s past) (ready_at s past p e Lies h) (corresponds_at s past p e Lies h))

-- an access of a write of a call
pub write_keeps : (s : Setup) (past : Past) (p : ℕ) (e : Entry) (command : Command) (number : ℕ) (part : Part) (run : Run) (flick : Bool)
    → let a : Access = valued s past flick (access_at (call s p command number) part run) in
    At s past p e (Runs command number (record { part = part; run = run })) → is_read part ≡ false → is_over part ≡ false → e.access ≡ Some a →
    doing s p (e ∷ past) ≡ runs command number (place_after (call s p command number) (record { part = part; run = run }) (value_of a.how)) → Inv s (e ∷ past)
write_keeps s past p e command number part (Writing w) flick h read over access does =
    accessed s past p e d _ (Some a) h access does
    (part_writes s h.good past p command number part w (value_of a.how) (notes s p past) (wires s past p) (wires s (e ∷ past) p) (touches s past) (touches s (e ∷ past)) read over h.below h.inv
    (ready_at s past p e d h) corresponds.1 (one_field s past p e a access)
    (advances s past p e (written_at c part).0 (written_at c part).1 w flick access corresponds.0.1))
  where
    c : Call
    c = call s p command number

    d : Doing
    d = Runs command number (record { part = part; run = Writing w })

    a : Access
    a = valued s past flick (access_at c part (Writing w))

    corresponds : Corresponds s p (notes s p past) (wires s past p) d
    corresponds = corresponds_at s past p e d h
write_keeps s past p e command number part (Reading bits begun) flick h read over access does = not_so read (corresponds_at s past p e (Runs command number (record { part = part; run = Reading bits begun })) h).0.0

-- an access of a closing
pub closing_keeps : (s : Setup) (past : Past) (p : ℕ) (e : Entry) (command : Command) (number : ℕ) (at : Closing) (flick : Bool) (n : Next) → At s past p e (Closes command number at) → closing_next (call s p command number) at flick ≡ Some n →
    e.access ≡ Some (valued s past flick n.access) → doing s p (e ∷ past) ≡ closes command number (closing_after (call s p command number) at flick) → Inv s (e ∷ past)
closing_keeps s past p e command number at flick n h next access does =
    accessed s past p e (Closes command number at) _ (Some (valued s past flick n.access)) h access does
    (closing_goes_on s past p command number at flick (notes s p past) (wires s past p) (wires s (e ∷ past) p) (touches s past) (touches s (e ∷ past))
    (ready_at s past p e (Closes command number at) h) (corresponds_at s past p e (Closes command number at) h)
    (subst (λ f. OneField p f (wires s past p) (wires s (e ∷ past) p) (touches s past) (touches s (e ∷ past))) (closing_field (call s p command number) at flick n next) (one_field s past p e (valued s past flick n.access) access)))
