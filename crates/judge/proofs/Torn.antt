-- The torn bit of a process, as any lock's look-back finds it, is the copy that its memory unit reaches and settles. Without a unit that settles there is none.
use Rattle.std.proofs.Common.{◌≡◌, ◌≢◌, ℕ, ◌<◌, ◌≤◌, ◌+◌, ◌*◌, ◌==◌, ◌||◌, Bool, true, false, cond, [], ◌∷◌, Option, Some, None, refl, sym, ap, subst, ◌∙◌, arith, true≢false, eqb-true}
use Rattle.std.proofs.lemmas.Bool.{eqb-false}
use Rattle.model.specs.reader_copies.Runs as copies
use Rattle.model.specs.safe_bit.{settles}
use Rattle.model.specs.safe_bit.declared.Move.TheVariants.{BeginWrite, EndWrite, Settle}
use Rattle.model.specs.safe_number.{new_write}
use Rattle.model.specs.{Access, Call, Field, Next, Place, access_of, is_over, write_moved}
use Rattle.plain_store.specs.{Command, Reply, Setup}
use Rattle.model.specs.Closings.{Closing, Withdraws, Settles, Frees, Lowers, Quit, Ended, closing_after, closing_next, freeing, is_last_written, no_ticket}
use Rattle.model.proofs.PlaceTurns.{access_in}
use Rattle.any_lock.specs.safe_monitor.laws.{Doing, Rests, Runs, Closes, call, closes, runs}
use Rattle.any_lock.specs.{BegunAccess, torn, torn_after}

-- Torn bits.

-- the torn bit is a copy that the unit still has to settle, or no bit is torn and no such copy is open
pub data TornBy (n p : ℕ) (f : Field) (bit : ℕ) (t : copies.Settling) (torn : Option BegunAccess) : Type 0 where
  settled : torn ≡ None → ((r : ℕ) → t.reader ≤ r → r < n → t.made ≢ 2 * r + 1) → TornBy n p f bit t torn
  comes : (b : BegunAccess) → torn ≡ Some b → b.access.owner ≡ p → b.access.field ≡ f → b.access.bit ≡ bit → t.reader ≤ b.access.reader → b.access.reader < n → t.made ≡ 2 * b.access.reader + 1 → TornBy n p f bit t torn

-- and if the unit has begun an access of a copy, that copy was not open
pub record TornAt (n p : ℕ) (f : Field) (bit : ℕ) (t : copies.Settling) (torn : Option BegunAccess) : Type 0 where
  pub by : TornBy n p f bit t torn
  pub apart : t.begun ≡ true → t.made ≢ 2 * t.reader + 1

abbrev pub TornIn : Setup → ℕ → Option BegunAccess → Doing → Type 0
TornIn s p torn (Closes command number (Settles f bit begun by is t)) = TornAt s.processes p f bit t torn
TornIn s p torn _ = torn ≡ None

-- The torn bit after an access.

pub runs_none : (s : Setup) (p : ℕ) (torn : Option BegunAccess) (command : Command) (number : ℕ) (at : Place) → torn ≡ None → TornIn s p torn (runs command number at)
runs_none s p torn command number at h = go (is_over at.part)
  where
    go : (b : Bool) → TornIn s p torn (cond b Rests (Runs command number at))
    go true = h
    go false = h

-- after an access that settles a copy, or another one of a unit that settles
settles_on : (s : Setup) (p : ℕ) (command : Command) (number : ℕ) (f : Field) (bit : ℕ) (begun : Bool) (taken : Option Reply) (is : Bool) (t : copies.Settling) (flick : Bool) (torn : Option BegunAccess) → TornAt s.processes p f bit t torn → t.reader < s.processes →
    TornIn s p (torn_after (Some (access_in (closing_next (call s p command number) (Settles f bit begun taken is t) flick))) torn) (closes command number (closing_after (call s p command number) (Settles f bit begun taken is t) flick))
settles_on s p command number f bit begun taken is t flick torn at below = go t.begun refl (copies.is_open_at t.made t.reader) refl
  where
    c : Call
    c = call s p command number

    v : Bool
    v = copies.settled_at t flick

    x : Bool → Bool → Access
    x b o = access_of p f (bit, record { reader = t.reader; how = cond b EndWrite (cond o (Settle v) (BeginWrite v)) })

    to : Bool → copies.Settling
    to b = cond b (record { made = t.made; reader = t.reader + 1; begun = false; value = Some v }) (record { made = t.made; reader = t.reader; begun = true; value = Some v })

    then : Bool → Bool → Doing
    then last b = closes command number (cond last (freeing c is) (Settles f bit begun taken is (to b)))

    -- the next copy, if this one is not torn
    past_it : (o : Option BegunAccess) → TornBy s.processes p f bit t o → t.made ≢ 2 * t.reader + 1 → (last : Bool) → (t.reader + 1 == s.processes) ≡ last → TornIn s p o (then last true)
    past_it o (settled none all) other true h = none
    past_it o (settled none all) other false h = record { by = settled none (λ r low. all r (omega (arith, low))); apart = λ b. absurd (true≢false (sym b)) }
    past_it o (comes b torn_is owner field its low high made) other true h =
        let end : t.reader + 1 ≡ s.processes = eqb-true (t.reader + 1) s.processes h in
        absurd (other (omega (arith, low, high, made, end)))
    past_it o (comes b torn_is owner field its low high made) other false h =
        let more : t.reader ≢ b.access.reader = λ same. other (omega (arith, made, same)) in
        record { by = comes b torn_is owner field its (omega (arith, low, more)) high made; apart = λ q. absurd (true≢false (sym q)) }

    -- the next copy, after this one was settled
    behind_it : t.made ≡ 2 * t.reader + 1 → (last : Bool) → TornIn s p None (then last true)
    behind_it was true = refl
    behind_it was false = record { by = settled refl (λ r low high same. omega (arith, was, low, same)); apart = λ b. absurd (true≢false (sym b)) }

    -- this copy again
    on_it : (o : Option BegunAccess) → TornBy s.processes p f bit t o → t.made ≢ 2 * t.reader + 1 → (last : Bool) → (t.reader == s.processes) ≡ last → TornIn s p o (then last false)
    on_it o by other true h = let all : t.reader ≡ s.processes = eqb-true t.reader s.processes h in absurd (omega (arith, below, all))
    on_it o (settled none all) other false h = record { by = settled none all; apart = λ _. other }
    on_it o (comes b torn_is owner field its low high made) other false h = record { by = comes b torn_is owner field its low high made; apart = λ _. other }

    go : (b : Bool) → t.begun ≡ b → (o : Bool) → copies.is_open_at t.made t.reader ≡ o → TornIn s p (torn_after (Some (x b o)) torn) (then ((to (b || o)).reader == s.processes) (b || o))
    go true i o j = past_it torn at.by (at.apart i) (t.reader + 1 == s.processes) refl
    go false i true j = behind_it (eqb-true t.made (2 * t.reader + 1) j) (t.reader + 1 == s.processes)
    go false i false j = on_it torn at.by (eqb-false t.made (2 * t.reader + 1) j) (t.reader == s.processes) refl

pub never_torn : (o : Option Access) → torn_after o None ≡ None
never_torn None = refl
never_torn (Some a) = go (settles a.how)
  where
    go : (b : Bool) → cond {A = Option BegunAccess} b None None ≡ None
    go true = refl
    go false = refl

-- after any access of a closing
pub closing_torn : (s : Setup) (p : ℕ) (command : Command) (number : ℕ) (at : Closing) (flick : Bool) (n : Next) (torn : Option BegunAccess) → closing_next (call s p command number) at flick ≡ Some n → TornIn s p torn (Closes command number at) → n.access.reader < s.processes →
    TornIn s p (torn_after (Some n.access) torn) (closes command number (closing_after (call s p command number) at flick))
closing_torn s p command number at flick n torn next h below =
    subst (λ (a : Access). TornIn s p (torn_after (Some a) torn) (closes command number (closing_after c at flick))) (ap access_in next) (go at next h (subst (λ (a : Access). a.reader < s.processes) (sym (ap access_in next)) below))
  where
    c : Call
    c = call s p command number

    none : torn ≡ None → (a : Access) → torn_after (Some a) torn ≡ None
    none h a = ap (torn_after (Some a)) h ∙ never_torn (Some a)

    go : (at : Closing) → closing_next c at flick ≡ Some n → TornIn s p torn (Closes command number at) → (access_in (closing_next c at flick)).reader < s.processes →
        TornIn s p (torn_after (Some (access_in (closing_next c at flick))) torn) (closes command number (closing_after c at flick))
    go (Settles f bit begun taken is t) i h below = settles_on s p command number f bit begun taken is t flick torn h below
    go (Withdraws w) i h below = by (is_last_written c (no_ticket c) w)
      where
        by : (b : Bool) → TornIn s p (torn_after (Some (access_in (closing_next c (Withdraws w) flick))) torn) (closes command number (cond b Quit (Withdraws (write_moved s.processes (no_ticket c) w))))
        by true = none h (access_in (closing_next c (Withdraws w) flick))
        by false = none h (access_in (closing_next c (Withdraws w) flick))
    go (Frees is w) i h below = by (is_last_written c (no_ticket c) w)
      where
        by : (b : Bool) → TornIn s p (torn_after (Some (access_in (closing_next c (Frees is w) flick))) torn) (closes command number (cond b (Lowers (new_write 1)) (Frees is (write_moved s.processes (no_ticket c) w))))
        by true = none h (access_in (closing_next c (Frees is w) flick))
        by false = none h (access_in (closing_next c (Frees is w) flick))
    go (Lowers w) i h below = by (is_last_written c (false ∷ []) w)
      where
        by : (b : Bool) → TornIn s p (torn_after (Some (access_in (closing_next c (Lowers w) flick))) torn) (closes command number (cond b Ended (Lowers (write_moved s.processes (false ∷ []) w))))
        by true = none h (access_in (closing_next c (Lowers w) flick))
        by false = none h (access_in (closing_next c (Lowers w) flick))
    go Quit i h below = cc
    go Ended i h below = cc
