-- The knowledge of a reader about an owner, when the owner moves.
use Rattle.std.proofs.Common.{◌≡◌, ℕ, ◌<◌, Bool, true, false, List, length, inl, inr, sym, ap, ◌∙◌, arith}
use Rattle.std.proofs.lemmas.Bool.{false≢true}
use Rattle.model.specs.declared.access.Field.TheVariants.{Choosing, Ticket}
use Rattle.plain_store.specs.{Setup}
use Rattle.model.specs.{Asks, Part, Reading, Run, Wait, Waits}
use Rattle.laws.specs.{Doing, Rests, Lies, Runs, Closes}
use Rattle.laws.proofs.Notes.{Notes}
use Rattle.laws.proofs.Invariant.{Touches, bit, ticket_of, CleanTicket, CleanChoosing, CleanWait, CleanRun, Clean, Pair}

-- a test that is false does not hold
pub not_so : {X : Type 0} {b : Bool} → b ≡ false → b ≡ true → X
not_so off on = absurd (false≢true (sym off ∙ on))

-- a read of an owner's register that was clean by the notes u and marks t is clean by those of u' and t'
pub record StaysClean (s : Setup) (since : ℕ) (u u' : Notes) (t t' : Touches) : Type 0 where
  pub choosing : (bits : List Bool) (begun : Bool) → CleanChoosing since bits begun u.announced u.announced_at t → CleanChoosing since bits begun u'.announced u'.announced_at t'
  pub ticket : (bits : List Bool) (begun : Bool) → CleanTicket s since bits begun u.holds u.ticket u.held_at t → CleanTicket s since bits begun u'.holds u'.ticket u'.held_at t'

clean_wait : (s : Setup) (o since : ℕ) (u u' : Notes) (t t' : Touches) → StaysClean s since u u' t t' → (w : Wait) (bits : List Bool) (begun : Bool) → CleanWait s o w since bits begun u t → CleanWait s o w since bits begun u' t'
clean_wait s o since u u' t t' k (j, Choosing) bits begun c = λ e. k.choosing bits begun (c e)
clean_wait s o since u u' t t' k (j, Ticket) bits begun c = λ e. k.ticket bits begun (c e)
clean_wait s o since u u' t t' k (j, _) bits begun c = tt

clean_run : (s : Setup) (o since : ℕ) (u u' : Notes) (t t' : Touches) → StaysClean s since u u' t t' → (part : Part) (run : Run) → CleanRun s o part run since u t → CleanRun s o part run since u' t'
clean_run s o since u u' t t' k (Asks j js ts) (Reading bits begun) c = λ e. k.ticket bits begun (c e)
clean_run s o since u u' t t' k (Waits ticket w ws) (Reading bits begun) c = clean_wait s o since u u' t t' k w bits begun c
clean_run s o since u u' t t' k _ _ c = tt

-- for any state of the reader
pub clean_still : (s : Setup) (o since : ℕ) (u u' : Notes) (t t' : Touches) → StaysClean s since u u' t t' → (d : Doing) → Clean s o d since u t → Clean s o d since u' t'
clean_still s o since u u' t t' k Rests c = tt
clean_still s o since u u' t t' k Lies c = tt
clean_still s o since u u' t t' k (Runs command number at) c = clean_run s o since u u' t t' k at.part at.run c
clean_still s o since u u' t t' k (Closes command number at) c = tt

-- The owner shows nothing new: what it shows then it showed before, and the marks that count are the old ones.
pub record ShowsNoMore (u u' : Notes) (t t' : Touches) : Type 0 where
  pub announced : u'.announced ≡ true → u.announced ≡ true
  pub announced_at : u'.announced_at ≡ u.announced_at
  pub holds : u'.holds ≡ true → u.holds ≡ true
  pub ticket : u'.ticket ≡ u.ticket
  pub held_at : u'.held_at ≡ u.held_at
  pub choosing_marks : u'.announced ≡ true → (k : ℕ) → t' Choosing k ≡ t Choosing k
  pub ticket_marks : u'.holds ≡ true → (k : ℕ) → t' Ticket k ≡ t Ticket k

clean_ticket : (s : Setup) (since : ℕ) (u u' : Notes) (t t' : Touches) → ShowsNoMore u u' t t' → (bits : List Bool) (begun : Bool) → CleanTicket s since bits begun u.holds u.ticket u.held_at t → CleanTicket s since bits begun u'.holds u'.ticket u'.held_at t'
clean_ticket s since u u' t t' k bits begun c h le =
    let same = k.held_at in
    let was = c (k.holds h) (omega arith) in
    (λ i below. was.0 i below ∙ ap (λ x. bit (ticket_of s x) i) (sym k.ticket), λ b. k.ticket_marks h (length bits) ∙ was.1 b)

clean_choosing : (since : ℕ) (u u' : Notes) (t t' : Touches) → ShowsNoMore u u' t t' → (bits : List Bool) (begun : Bool) → CleanChoosing since bits begun u.announced u.announced_at t → CleanChoosing since bits begun u'.announced u'.announced_at t'
clean_choosing since u u' t t' k bits begun c h le b = let same = k.announced_at in k.choosing_marks h (length bits) ∙ c (k.announced h) (omega arith) b

-- the owner breaks a field, or shows what it showed
pub owner_shows_no_more : (s : Setup) (o : ℕ) (d : Doing) (n u u' : Notes) (t t' : Touches) → ShowsNoMore u u' t t' → Pair s o d n u t → Pair s o d n u' t'
owner_shows_no_more s o d n u u' t t' k h =
    let announced_at = k.announced_at in let held_at = k.held_at in
    record {
      knows = record {
        doorway = λ e le. h.knows.doorway (k.holds e) (omega arith) ∙ sym k.ticket;
        waiting = λ e le. h.knows.waiting (k.holds e) (omega arith) ∙ sym k.ticket;
        early = λ e. let was = h.knows.early (k.announced e) in omega (arith, was);
        pass = λ e. elim (h.knows.pass (k.holds e)) [ inl early ↦ inl (omega (arith, early)) | inr late ↦ inr (omega (arith, late)) ];
      };
      clean = clean_still s o n.since u u' t t' (record { choosing = clean_choosing n.since u u' t t' k; ticket = clean_ticket s n.since u u' t t' k }) d h.clean;
    }

-- the owner's announcement is whole now: each read of its choosing that gave 0 began before
pub owner_announces : (s : Setup) (o : ℕ) (d : Doing) (n u u' : Notes) (t t' : Touches) → u'.holds ≡ false → n.choosing_from o < u'.announced_at → n.since < u'.announced_at → Pair s o d n u t → Pair s o d n u' t'
owner_announces s o d n u u' t t' free before began h = record {
  knows = record { doorway = λ e. not_so free e; waiting = λ e. not_so free e; early = λ e. before; pass = λ e. not_so free e };
  clean = clean_still s o n.since u u' t t' (record { choosing = λ bits begun c e le. absurd (omega arith); ticket = λ bits begun c e. not_so free e }) d h.clean;
}

-- the owner's ticket is whole now: each read of it began before, and each read of its choosing that gave 0 began before its announcement
pub record Takes (u u' : Notes) (t t' : Touches) : Type 0 where
  pub was_announced : u.announced ≡ true
  pub announced_at : u'.announced_at ≡ u.announced_at
  pub choosing_marks : (k : ℕ) → t' Choosing k ≡ t Choosing k

pub owner_takes : (s : Setup) (o : ℕ) (d : Doing) (n u u' : Notes) (t t' : Touches) → Takes u u' t t' → n.asked_from o < u'.held_at → n.let_from o < u'.held_at → n.since < u'.held_at → Pair s o d n u t → Pair s o d n u' t'
owner_takes s o d n u u' t t' k asked let_by began h =
    let same = k.announced_at in
    let early : n.choosing_from o < u.announced_at = h.knows.early k.was_announced in
    record {
      knows = record {
        doorway = λ e le. absurd (omega arith);
        waiting = λ e le. absurd (omega arith);
        early = λ e. omega arith;
        pass = λ e. inl (omega arith);
      };
      clean = clean_still s o n.since u u' t t'
          (record { choosing = λ bits begun c e le b. k.choosing_marks (length bits) ∙ c k.was_announced (omega arith) b; ticket = λ bits begun c e le. absurd (omega arith) }) d h.clean;
    }
