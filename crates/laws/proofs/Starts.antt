-- Calls, withdrawals, failures and restarts are entries without an access. The registers of p do not change, only its place.
use Rattle.std.proofs.Common.{◌≡◌, ℕ, Bool, true, false, refl, sym, ap, subst, ◌∙◌}
use Rattle.std.proofs.lemmas.Bool.{false_from_ne_true}
use Rattle.std.specs.Prelude.{not}
use Rattle.plain_store.specs.{Command, Setup}
use Rattle.model.specs.{Call, Closing, Past, enter, image_field, is_fresh, stamp_field, version_of, withdrawing}
use Rattle.model.specs.Parts.{Part, Raises, TakesTicket, Lowers, Refuses, WritesImage, WritesStamp, WritesCommit, Clears, Over, is_read, written_at}
use Rattle.model.proofs.Width.{IsGood}
use Rattle.model.proofs.Turns.{and_true}
use Rattle.laws.specs.{Doing, Rests, Runs, Closes, call, is_inside, is_inside_at, is_inside_closing}
use Rattle.laws.proofs.Doings.{IsCut, at_rest, between, within, leaving, clearing}
use Rattle.laws.proofs.Notes.{Notes, turned}
use Rattle.laws.proofs.Invariant.{Wires, Touches, PartCorresponds, SettlingCorresponds, ClosingCorresponds, Corresponds, Moves, next_time}
use Rattle.laws.proofs.Owner.{not_so}
use Rattle.laws.proofs.Ready.{Ready, ready_turned, moves_to, rests, starts}

-- a place of a closing reads nothing
pub closing_moves : (s : Setup) (past : Past) (p : ℕ) (command : Command) (number : ℕ) (at : Closing) (n : Notes) (m : Wires) (t : ℕ → ℕ → Touches) → Ready s past p (is_inside_closing at) n m t → ClosingCorresponds n.holds at →
    Moves s past p (Closes command number at) n m t
closing_moves s past p command number at n m t r corresponds = moves_to s past p (Closes command number at) n m t r corresponds (λ o below ne. tt)

-- a call, of a process at rest
pub call_moves : (s : Setup) → IsGood s → (past : Past) (p : ℕ) (command : Command) (number : ℕ) (n : Notes) (m : Wires) (t : ℕ → ℕ → Touches) → Ready s past p false n m t → n.holds ≡ false →
    Moves s past p (Runs command number (enter (call s p command number) Raises)) (turned (next_time past) n) m t
call_moves s g past p command number n m t r free = starts s g past p command number Raises (turned (next_time past) n) m t refl (ready_turned s past p false n m t r) free

-- a withdrawal, of a process that waits: nothing of the clearing is made
pub withdrawal_moves : (s : Setup) (past : Past) (p : ℕ) (command : Command) (number : ℕ) (n : Notes) (m : Wires) (t : ℕ → ℕ → Touches) → Ready s past p false n m t →
    Moves s past p (Closes command number (withdrawing (call s p command number))) (turned (next_time past) n) m t
withdrawal_moves s past p command number n m t r = closing_moves s past p command number (withdrawing (call s p command number)) (turned (next_time past) n) m t (ready_turned s past p false n m t r) (λ e. refl)

-- a restart, of a process that is down
pub restart_moves : (s : Setup) (past : Past) (p : ℕ) (n : Notes) (m : Wires) (t : ℕ → ℕ → Touches) → Ready s past p false n m t → n.holds ≡ false → Moves s past p Rests (turned (next_time past) n) m t
restart_moves s past p n m t r free = rests s past p (turned (next_time past) n) m t (ready_turned s past p false n m t r) free

-- Failures.

image_settles : (b holds : Bool) → SettlingCorresponds (image_field b) holds
image_settles true holds = tt
image_settles false holds = tt

stamp_settles : (b holds : Bool) → SettlingCorresponds (stamp_field b) holds
stamp_settles true holds = tt
stamp_settles false holds = tt

-- a ticket whose write has begun is not held
part_settles : (s : Setup) (p : ℕ) (c : Call) (n : Notes) (part : Part) → is_read part ≡ false → PartCorresponds s p n part false → SettlingCorresponds (written_at c part).0 n.holds
part_settles s p c n Raises w st = tt
part_settles s p c n (TakesTicket t) w st = st.0.free
part_settles s p c n (Lowers t) w st = tt
part_settles s p c n (Refuses f) w st = tt
part_settles s p c n (WritesImage vs store) w st = image_settles (not (version_of vs c.process)) n.holds
part_settles s p c n (WritesStamp vs store) w st = stamp_settles (not (version_of vs c.process)) n.holds
part_settles s p c n (WritesCommit vs store) w st = tt
part_settles s p c n (Clears a) w st = st refl
part_settles s p c n Over w st = absurd st
part_settles s p c n _ w st = cc

-- the unit begins where p was: inside if p was, and with a ticket that is untouched, or not held
pub cut_corresponds : (s : Setup) (p : ℕ) (c : Call) (cl : Closing) (d : Doing) (n : Notes) (m : Wires) → IsCut s p c cl d → Corresponds s p n m d → (is_inside_closing cl ≡ is_inside d) × ClosingCorresponds n.holds cl
cut_corresponds s p c cl _ n m (at_rest e) st = (ap is_inside_closing e, subst (ClosingCorresponds n.holds) (sym e) (λ h. refl))
cut_corresponds s p c cl _ n m (between command number at e) st =
    (ap is_inside_closing e ∙ and_true (is_inside_at at.part (is_fresh at.run)), subst (ClosingCorresponds n.holds) (sym e) (λ h. refl))
cut_corresponds s p c cl _ n m (within command number at bit begun taken t e w fresh) st =
    (ap is_inside_closing e, subst (ClosingCorresponds n.holds) (sym e) (part_settles s p (call s p command number) n at.part w (subst (PartCorresponds s p n at.part) fresh st.1)))
cut_corresponds s p c cl _ n m (leaving command number w e) st = (ap is_inside_closing e, subst (ClosingCorresponds n.holds) (sym e) (λ h. refl))
cut_corresponds s p c cl _ n m (clearing command number w bit begun t e made) st =
    (ap is_inside_closing e, subst (ClosingCorresponds n.holds) (sym e) (false_from_ne_true n.holds (λ h. not_so made (st h))))

-- a failure, wherever it cuts
pub failure_moves : (s : Setup) (past : Past) (p : ℕ) (command : Command) (number : ℕ) (cl : Closing) (d : Doing) (n : Notes) (m : Wires) (t : ℕ → ℕ → Touches) → IsCut s p (call s p command number) cl d → Ready s past p (is_inside d) n m t →
    Corresponds s p n m d → Moves s past p (Closes command number cl) (turned (next_time past) n) m t
failure_moves s past p command number cl d n m t cut r st =
    let to = cut_corresponds s p (call s p command number) cl d n m cut st in
    closing_moves s past p command number cl (turned (next_time past) n) m t (ready_turned s past p (is_inside_closing cl) n m t (subst (λ b. Ready s past p b n m t) (sym to.0) r)) to.1
