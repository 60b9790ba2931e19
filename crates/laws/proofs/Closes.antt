-- The accesses of a withdrawal and of a memory unit.
use Rattle.std.proofs.Common.{◌≡◌, ℕ, ◌&&◌, Bool, true, false, cond, [], ◌∷◌, Option, None, Some, refl, sym, ap, subst, ◌∙◌}
use Rattle.std.proofs.lemmas.Bool.{false≢true}
use Rattle.model.specs.reader_copies.Runs as copies
use Rattle.model.specs.{Call, Closing, Ended, Field, Frees, Next, Past, Quit, Settles, Withdraws, closing_after, closing_next, freeing, is_last_settled, is_last_written, is_unwritten, no_ticket, write_moved}
use Rattle.model.specs.declared.access.Field.TheVariants.{Choosing, Ticket, Commit, Stamp0, Stamp1, Image0, Image1}
use Rattle.model.specs.safe_number.{NumberWrite, new_write}
use Rattle.plain_store.specs.{Command, Reply, Setup}
use Rattle.model.specs.Closings as closing
use Rattle.laws.proofs.FrameInside.{moved-unfresh}
use Rattle.laws.specs.{Lies, call, closes, is_inside_closing}
use Rattle.laws.proofs.Notes.{Notes, broken, field_of, breaks_announced, breaks_ticket}
use Rattle.laws.proofs.Invariant.{Wires, Touches, SettlingCorresponds, ClosingCorresponds, Moves}
use Rattle.laws.proofs.Owner.{not_so}
use Rattle.laws.proofs.Ready.{Ready, moves_to, rests}
use Rattle.laws.proofs.Writing.{OneField}
use Rattle.laws.proofs.Breaks.{Breaks, commit_of_section, stamp_of_section, image_of_section, ready_breaks}
use Rattle.laws.proofs.Writes.{choosing_breaks, ticket_breaks, nothing_breaks}
use Rattle.laws.proofs.Starts.{closing_moves}

-- the access is one of the field that the closing writes
pub closing_field : (c : Call) (at : Closing) (flick : Bool) (n : Next) → closing_next c at flick ≡ Some n → n.access.field ≡ field_of at
closing_field c (Withdraws w) flick n h = ap {A = Option Next} (λ o. elim o as (λ _. Field) [ None ↦ Ticket | Some n ↦ n.access.field ]) (sym h)
closing_field c (Settles f bit begun taken is t) flick n h = ap {A = Option Next} (λ o. elim o as (λ _. Field) [ None ↦ Ticket | Some n ↦ n.access.field ]) (sym h)
closing_field c (Frees is w) flick n h = ap {A = Option Next} (λ o. elim o as (λ _. Field) [ None ↦ Ticket | Some n ↦ n.access.field ]) (sym h)
closing_field c (closing.Lowers w) flick n h = ap {A = Option Next} (λ o. elim o as (λ _. Field) [ None ↦ Ticket | Some n ↦ n.access.field ]) (sym h)
closing_field c Quit flick n h = cc
closing_field c Ended flick n h = cc

-- a process that withdrew clears its ticket, and is at rest then
withdraws_on : (s : Setup) (past : Past) (p : ℕ) (command : Command) (number : ℕ) (w : NumberWrite) (flick : Bool) (n : Notes) (m m' : Wires) (t t' : ℕ → ℕ → Touches) → Ready s past p false n m t → OneField p Ticket m m' t t' →
    Moves s past p (closes command number (closing_after (call s p command number) (Withdraws w) flick)) (broken Ticket n) m' t'
withdraws_on s past p command number w flick n m m' t t' r one = go (is_last_written c (no_ticket c) w)
  where
    c : Call
    c = call s p command number

    after : Ready s past p false (broken Ticket n) m' t'
    after = ready_breaks s past p Ticket false false n n.announced false n.began m m' t t' (ticket_breaks n false) one r.times.began_past r

    go : (b : Bool) → Moves s past p (closes command number (cond b Quit (Withdraws (write_moved s.processes (no_ticket c) w)))) (broken Ticket n) m' t'
    go true = rests s past p (broken Ticket n) m' t' after refl
    go false = closing_moves s past p command number (Withdraws (write_moved s.processes (no_ticket c) w)) (broken Ticket n) m' t' after (λ e. absurd (false≢true e))

-- the unit clears the ticket: with the first begin the process is no longer inside
frees_on : (s : Setup) (past : Past) (p : ℕ) (command : Command) (number : ℕ) (is : Bool) (w : NumberWrite) (flick : Bool) (n : Notes) (m m' : Wires) (t t' : ℕ → ℕ → Touches) → Ready s past p (is && is_unwritten w) n m t → OneField p Ticket m m' t t' →
    Moves s past p (closes command number (closing_after (call s p command number) (Frees is w) flick)) (broken Ticket n) m' t'
frees_on s past p command number is w flick n m m' t t' r one = go (is_last_written c (no_ticket c) w)
  where
    c : Call
    c = call s p command number

    after : Ready s past p false (broken Ticket n) m' t'
    after = ready_breaks s past p Ticket (is && is_unwritten w) false n n.announced false n.began m m' t t' (ticket_breaks n (is && is_unwritten w)) one r.times.began_past r

    none : (b : Bool) → (b && false) ≡ false
    none true = refl
    none false = refl

    outside : (is && is_unwritten (write_moved s.processes (no_ticket c) w)) ≡ false
    outside = ap (λ b. is && b) (moved-unfresh s.processes (no_ticket c) w) ∙ none is

    go : (b : Bool) → Moves s past p (closes command number (cond b (closing.Lowers (new_write 1)) (Frees is (write_moved s.processes (no_ticket c) w)))) (broken Ticket n) m' t'
    go true = closing_moves s past p command number (closing.Lowers (new_write 1)) (broken Ticket n) m' t' after refl
    go false = closing_moves s past p command number (Frees is (write_moved s.processes (no_ticket c) w)) (broken Ticket n) m' t' (subst (λ b. Ready s past p b (broken Ticket n) m' t') (sym outside) after) (λ e. absurd (false≢true e))

-- the unit lowers choosing, and the process is down then
lowers_on : (s : Setup) (past : Past) (p : ℕ) (command : Command) (number : ℕ) (w : NumberWrite) (flick : Bool) (n : Notes) (m m' : Wires) (t t' : ℕ → ℕ → Touches) → Ready s past p false n m t → n.holds ≡ false → OneField p Choosing m m' t t' →
    Moves s past p (closes command number (closing_after (call s p command number) (closing.Lowers w) flick)) (broken Choosing n) m' t'
lowers_on s past p command number w flick n m m' t t' r free one = go (is_last_written c (false ∷ []) w)
  where
    c : Call
    c = call s p command number

    after : Ready s past p false (broken Choosing n) m' t'
    after = ready_breaks s past p Choosing false false n false n.holds n.began m m' t t' (choosing_breaks n n.began false (λ e. refl) r.senior.held) one r.times.began_past r

    go : (b : Bool) → Moves s past p (closes command number (cond b Ended (closing.Lowers (write_moved s.processes (false ∷ []) w)))) (broken Choosing n) m' t'
    go true = moves_to s past p Lies (broken Choosing n) m' t' after free (λ o below ne. tt)
    go false = closing_moves s past p command number (closing.Lowers (write_moved s.processes (false ∷ []) w)) (broken Choosing n) m' t' after free

-- the breaks of a settling: a process whose unit settles a bit of its ticket holds no ticket, and is not inside
settling_breaks : (f : Field) (is : Bool) (n : Notes) → SettlingCorresponds f n.holds → (is ≡ true → n.holds ≡ true) → Breaks f is is n (breaks_announced f n.announced) (breaks_ticket f n.holds) n.began
settling_breaks Choosing is n st held = choosing_breaks n n.began is (λ e. refl) held
settling_breaks Ticket is n st held = record {
  announced_was = λ e. e;
  choosing_apart = λ e. Rattle.laws.proofs.Breaks.choosing_not_ticket;
  holds_was = λ e. absurd (false≢true e);
  ticket_apart = λ e. absurd (false≢true e);
  began_was = λ e. refl;
  inside_was = λ e. e;
  inside_holds = λ e. not_so st (held e);
}
settling_breaks Commit is n st held = nothing_breaks Commit is n commit_of_section held
settling_breaks Stamp0 is n st held = nothing_breaks Stamp0 is n (stamp_of_section false) held
settling_breaks Stamp1 is n st held = nothing_breaks Stamp1 is n (stamp_of_section true) held
settling_breaks Image0 is n st held = nothing_breaks Image0 is n (image_of_section false) held
settling_breaks Image1 is n st held = nothing_breaks Image1 is n (image_of_section true) held

settling_corresponds : (f : Field) (n : Notes) → SettlingCorresponds f (breaks_ticket f n.holds)
settling_corresponds Choosing n = tt
settling_corresponds Ticket n = refl
settling_corresponds _ n = tt

-- the unit settles a bit, and then clears the ticket: the process stays inside, if it was
settles_on : (s : Setup) (past : Past) (p : ℕ) (command : Command) (number : ℕ) (f : Field) (bit : ℕ) (begun : Bool) (taken : Option Reply) (is : Bool) (to : copies.Settling) (flick : Bool) (n : Notes) (m m' : Wires) (t t' : ℕ → ℕ → Touches) →
    Ready s past p is n m t → SettlingCorresponds f n.holds → OneField p f m m' t t' → Moves s past p (closes command number (closing_after (call s p command number) (Settles f bit begun taken is to) flick)) (broken f n) m' t'
settles_on s past p command number f bit begun taken is to flick n m m' t t' r st one = go (is_last_settled c to (copies.settled_at to flick))
  where
    c : Call
    c = call s p command number

    after : Ready s past p is (broken f n) m' t'
    after = ready_breaks s past p f is is n (breaks_announced f n.announced) (breaks_ticket f n.holds) n.began m m' t t' (settling_breaks f is n st r.senior.held) one r.times.began_past r

    still : (is : Bool) → is ≡ (is && true)
    still true = refl
    still false = refl

    go : (b : Bool) → Moves s past p (closes command number (cond b (freeing c is) (Settles f bit begun taken is (copies.settle_after to (copies.settled_at to flick))))) (broken f n) m' t'
    go true = closing_moves s past p command number (freeing c is) (broken f n) m' t' (subst (λ b. Ready s past p b (broken f n) m' t') (still is) after) (λ e. refl)
    go false = closing_moves s past p command number (Settles f bit begun taken is (copies.settle_after to (copies.settled_at to flick))) (broken f n) m' t' after (settling_corresponds f n)

-- every access of a closing
pub closing_goes_on : (s : Setup) (past : Past) (p : ℕ) (command : Command) (number : ℕ) (at : Closing) (flick : Bool) (n : Notes) (m m' : Wires) (t t' : ℕ → ℕ → Touches) → Ready s past p (is_inside_closing at) n m t → ClosingCorresponds n.holds at →
    OneField p (field_of at) m m' t t' → Moves s past p (closes command number (closing_after (call s p command number) at flick)) (broken (field_of at) n) m' t'
closing_goes_on s past p command number (Withdraws w) flick n m m' t t' r st one = withdraws_on s past p command number w flick n m m' t t' r one
closing_goes_on s past p command number (Settles f bit begun taken is to) flick n m m' t t' r st one = settles_on s past p command number f bit begun taken is to flick n m m' t t' r st one
closing_goes_on s past p command number (Frees is w) flick n m m' t t' r st one = frees_on s past p command number is w flick n m m' t t' r one
closing_goes_on s past p command number (closing.Lowers w) flick n m m' t t' r st one = lowers_on s past p command number w flick n m m' t t' r st one
closing_goes_on s past p command number Quit flick n m m' t t' r st one = absurd st
closing_goes_on s past p command number Ended flick n m m' t t' r st one = absurd st
