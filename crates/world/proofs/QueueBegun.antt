-- Whether the doorway of a process's last call has begun, before and after an entry.
use Rattle.std.proofs.Common.{◌≡◌, ◌≢◌, ℕ, ◌==◌, ◌&&◌, ◌||◌, Bool, true, false, cond, not, List, [], ◌∷◌, Option, Some, None, is_some, length, refl, sym, ap, subst, ◌∙◌, true≢false, eqb-true, eq-eqb, ne_eqb}
use Rattle.model.specs.safe_bit.{Move}
use Rattle.model.specs.{Access, Asks, AsksCommit, AsksImage, AsksStamp, Call, Clears, Closing, Ended, Entry, Event, Field, Frees, Over, Part, Past, Place, Quit, Raises, Refuses, Settles, TakesTicket, Waits, Withdraws, WritesCommit, WritesImage, WritesStamp, begins_doorway, closing_after, doorway_begin, entry_of, first_of, freeing, has, is_called, is_fresh, is_last_settled, is_last_written, is_over, is_at_door, no_ticket, number_in_call, past-induction, past_of, place_after, raises, value_of, write_moved}
use Rattle.model.specs.declared.access.Field.TheVariants.{Choosing, Ticket, Commit, Stamp0, Stamp1, Image0, Image1}
use Rattle.model.specs.safe_number.{new_write}
use Rattle.plain_store.specs.{Command, Setup}
use Rattle.model.specs.Closings as closing
use Rattle.model.specs.Parts as part
use Rattle.model.proofs.Width.{IsGood}
use Rattle.model.specs.reader_copies.Runs as copies
use Rattle.laws.specs.{Doing, Rests, Runs, Closes, call, runs, closes, doing, is_inside_at}
use Rattle.laws.proofs.AtPlaces.{AtPlace}
use Rattle.laws.proofs.Doings.{IsCut, Step, at_rest, between, within, leaving, clearing, calls, withdraws, fails, restarts, steps, closes_on}
use Rattle.laws.proofs.DoorwayParts.{has_begun}
use Rattle.laws.proofs.Frame.{Happens, a_call, a_withdrawal, a_failure, a_restart, a_step, a_closing, doing-other}
use Rattle.laws.proofs.FrameDoorways.{begins_at, begins_with, begins-is}
use Rattle.laws.proofs.FrameEvents.{accepted}
use Rattle.laws.proofs.FrameMarks.{is_raising, is_resting, is_running, called-is}
use Rattle.laws.proofs.FrameSteps.{step_of}
use Rattle.laws.proofs.Numbers.{NumbersAt, numbers, number-own}
use Rattle.process.specs.{stage_doing}

-- Looking up.

-- an entry of another process changes nothing
pub number-other : (q : ℕ) (test : Entry → Bool) (e : Entry) (past : Past) → e.process ≢ q → number_in_call q test (e ∷ past) ≡ number_in_call q test past
number-other q test e past h = ap (λ b. elim b as (λ _. Option ℕ) [
  | false ↦ number_in_call q test past
  | true ↦ elim (has is_called e) as (λ _. Option ℕ) [
    | true ↦ None
    | false ↦ first_of (number_in_call q test past) (elim (test e) as (λ _. Option ℕ) [ true ↦ Some (length past) | false ↦ None ])
  ]
]) (ne_eqb e.process q h)

-- only a process's own entries change its doorway
pub begun-others : (q : ℕ) (e : Entry) (past : Past) → e.process ≢ q → doorway_begin q (e ∷ past) ≡ doorway_begin q past
begun-others q e past h = number-other q begins_doorway e past h

-- it has begun after an entry of the call that begins it
begun-own : (e : Entry) (past : Past) (called : Bool) → has is_called e ≡ called →
    is_some (doorway_begin e.process (e ∷ past)) ≡ cond called false (is_some (doorway_begin e.process past) || begins_doorway e)
begun-own e past true h = ap is_some (number-own begins_doorway e past true h)
begun-own e past false h = ap is_some (number-own begins_doorway e past false h) ∙ go (doorway_begin e.process past) (begins_doorway e)
  where
    go : (o : Option ℕ) (b : Bool) → is_some (first_of o (elim b as (λ _. Option ℕ) [ true ↦ Some (length past) | false ↦ None ])) ≡ (is_some o || b)
    go None true = refl
    go None false = refl
    go (Some k) b = refl

-- it stays begun until the next call
pub begun-stays : (e : Entry) (past : Past) → has is_called e ≡ false → is_some (doorway_begin e.process past) ≡ true → is_some (doorway_begin e.process (e ∷ past)) ≡ true
begun-stays e past h b = begun-own e past false h ∙ ap (λ x. x || begins_doorway e) b

-- A position of a call.

-- after the first access of a call its doorway has begun
pub begun-at : (s : Setup) → IsGood s → (events : List Event) (p : ℕ) (command : Command) (number : ℕ) (at : Place) → doing s p (past_of s events) ≡ Runs command number at →
    has_begun at.part (is_fresh at.run) ≡ true → is_some (doorway_begin p (past_of s events)) ≡ true
begun-at s g events p command number at d h =
    let k : NumbersAt s (past_of s events) p command number at = subst (AtPlace (NumbersAt s (past_of s events) p)) d (numbers s g events p) in
    ap is_some (k.1.begun_is h).1

-- a process that continues or closes a call does not call
pub not-called : (s : Setup) → IsGood s → (events : List Event) (what : Event) (e : Entry) → entry_of s (past_of s events) what ≡ Some e → is_resting (doing s e.process (past_of s events)) ≡ false → has is_called e ≡ false
not-called s g events what e h r = called-is s g events what e h ∙ ap (λ b. b && is_running (doing s e.process (e ∷ past_of s events))) r

-- A unit that settles a choosing bit.

-- the doorway of that call has begun
abbrev Announced : Doing → Bool → Type 0
Announced (Closes command number (Settles f bit begun taken is t)) b = f ≡ Choosing → b ≡ true
Announced _ b = Unit {0}

-- a part of which something is made is past the begin
unfresh-begun : (x : Part) (fresh : Bool) → fresh ≡ false → has_begun x fresh ≡ true
unfresh-begun Raises fresh h = ap not h
unfresh-begun _ fresh h = refl

-- the case of a call that continues
announced-runs : (command : Command) (number : ℕ) (at : Place) (b : Bool) → Announced (runs command number at) b
announced-runs command number at b = go (is_over at.part)
  where
    go : (o : Bool) → Announced (cond o Rests (Runs command number at)) b
    go true = tt
    go false = tt

-- the case of a closing that continues
announced-closes : (command : Command) (number : ℕ) (c : Call) (at : Closing) (flick : Bool) (was then : Bool) → Announced (Closes command number at) was → (was ≡ true → then ≡ true) →
    Announced (closes command number (closing_after c at flick)) then
announced-closes command number c (Withdraws w) flick was then a keeps = go (is_last_written c (no_ticket c) w)
  where
    go : (o : Bool) → Announced (closes command number (cond o Quit (Withdraws (write_moved c.setup.processes (no_ticket c) w)))) then
    go true = tt
    go false = tt
announced-closes command number c (Settles f bit begun taken is t) flick was then a keeps = go (is_last_settled c t (copies.settled_at t flick))
  where
    go : (o : Bool) → Announced (closes command number (cond o (freeing c is) (Settles f bit begun taken is (copies.settle_after t (copies.settled_at t flick))))) then
    go true = tt
    go false = λ i. keeps (a i)
announced-closes command number c (Frees is w) flick was then a keeps = go (is_last_written c (no_ticket c) w)
  where
    go : (o : Bool) → Announced (closes command number (cond o (closing.Lowers (new_write 1)) (Frees is (write_moved c.setup.processes (no_ticket c) w)))) then
    go true = tt
    go false = tt
announced-closes command number c (closing.Lowers w) flick was then a keeps = go (is_last_written c (false ∷ []) w)
  where
    go : (o : Bool) → Announced (closes command number (cond o Ended (closing.Lowers (write_moved c.setup.processes (false ∷ []) w)))) then
    go true = tt
    go false = tt
announced-closes command number c Quit flick was then a keeps = tt
announced-closes command number c Ended flick was then a keeps = tt

abbrev AllAnnounced : Setup → Past → Type 0
AllAnnounced s past = IsGood s → (p : ℕ) → Announced (doing s p past) (is_some (doorway_begin p past))

-- the doorway has begun after each event of its process
announced-step : (s : Setup) → IsGood s → (events : List Event) (what : Event) (e : Entry) → entry_of s (past_of s events) what ≡ Some e
    → let past : Past = past_of s events in
    (d d' : Doing) → d ≡ doing s e.process past → Step s past e.process e d d' → Announced d (is_some (doorway_begin e.process past)) → Announced d' (is_some (doorway_begin e.process (e ∷ past)))
announced-step s g events what e h d d' at (calls command number was none then) a = subst (λ d. Announced d (is_some (doorway_begin e.process (e ∷ past_of s events)))) (sym then) tt
announced-step s g events what e h d d' at (withdraws command number t w ws run was none then) a = subst (λ d. Announced d (is_some (doorway_begin e.process (e ∷ past_of s events)))) (sym then) tt
announced-step s g events what e h d d' at (fails command number cl is_cut none then) a = subst (λ d. Announced d after) (sym then) (go d at is_cut)
  where
    past : Past
    past = past_of s events

    after : Bool
    after = is_some (doorway_begin e.process (e ∷ past))

    free : (c : Call) (is : Bool) → cl ≡ freeing c is → Announced (Closes command number cl) after
    free c is k = subst (λ x. Announced (Closes command number x) after) (sym k) tt

    go : (d : Doing) → d ≡ doing s e.process past → IsCut s e.process (call s e.process command number) cl d → Announced (Closes command number cl) after
    go d at (at_rest k) = free (call s e.process command number) false k
    go d at (between its number' here k) = free (call s e.process command number) (is_inside_at here.part (is_fresh here.run)) k
    go d at (within its number' here bit begun taken t k r fresh) = subst (λ x. Announced (Closes command number x) after) (sym k)
        (λ i. begun-stays e past (not-called s g events what e h (ap is_resting (sym at))) (begun-at s g events e.process its number' here (sym at) (unfresh-begun here.part (is_fresh here.run) fresh)))
    go d at (leaving its number' w k) = free (call s e.process command number) false k
    go d at (clearing its number' w bit begun t k r) = subst (λ x. Announced (Closes command number x) after) (sym k) (λ i. cc)
announced-step s g events what e h d d' at (restarts was none then) a = subst (λ d. Announced d (is_some (doorway_begin e.process (e ∷ past_of s events)))) (sym then) tt
announced-step s g events what e h d d' at (steps command number here x flick was over access is then) a =
    subst (λ d. Announced d (is_some (doorway_begin e.process (e ∷ past_of s events)))) (sym then)
    (announced-runs command number (place_after (call s e.process command number) here (value_of x.how)) (is_some (doorway_begin e.process (e ∷ past_of s events))))
announced-step s g events what e h d d' at (closes_on command number here flick n was next access then) a =
    let past : Past = past_of s events in
    subst (λ d. Announced d (is_some (doorway_begin e.process (e ∷ past)))) (sym then)
    (announced-closes command number (call s e.process command number) here flick (is_some (doorway_begin e.process past)) (is_some (doorway_begin e.process (e ∷ past)))
    (subst (λ d. Announced d (is_some (doorway_begin e.process past))) was a)
    (begun-stays e past (not-called s g events what e h (ap is_resting (sym at ∙ was)))))

-- a unit settles a choosing bit only where the doorway of its call has begun
announced-is : (s : Setup) → IsGood s → (events : List Event) (p : ℕ) → Announced (doing s p (past_of s events)) (is_some (doorway_begin p (past_of s events)))
announced-is s g events p = past-induction AllAnnounced s (λ g p. tt) more events g p
  where
    more : (events : List Event) (what : Event) (e : Entry) → entry_of s (past_of s events) what ≡ Some e → AllAnnounced s (past_of s events) → AllAnnounced s (e ∷ past_of s events)
    more events what e h ih g p = go (e.process == p) refl
      where
        past : Past
        past = past_of s events

        go : (b : Bool) → (e.process == p) ≡ b → Announced (doing s p (e ∷ past)) (is_some (doorway_begin p (e ∷ past)))
        go true i = subst (λ q. Announced (doing s q (e ∷ past)) (is_some (doorway_begin q (e ∷ past)))) (eqb-true e.process p i)
            (announced-step s g events what e h (doing s e.process past) (doing s e.process (e ∷ past)) refl (step_of s g events what e h).2 (ih g e.process))
        go false i =
            let other : e.process ≢ p = λ u. true≢false (sym (eq-eqb e.process p u) ∙ i) in
            subst (λ d. Announced d (is_some (doorway_begin p (e ∷ past)))) (sym (doing-other s p e past other))
            (subst (λ o. Announced (doing s p past) (is_some o)) (sym (begun-others p e past other)) (ih g p))

-- The effect of one entry.

-- a part of a call: its first access begins the doorway, and after that it has begun
door-part : (x : Part) (fresh begun : Bool) → (has_begun x fresh ≡ true → begun ≡ true) → (begun || (is_raising x && fresh)) ≡ (begun || is_at_door (part.stage_of x fresh))
door-part Raises true begun h = refl
door-part Raises false begun h = ap (λ b. b || false) (h refl) ∙ sym (ap (λ b. b || true) (h refl))
door-part (Asks j js ts) fresh begun h = ap (λ b. b || false) (h refl) ∙ sym (ap (λ b. b || true) (h refl))
door-part (TakesTicket t) fresh begun h = ap (λ b. b || false) (h refl) ∙ sym (ap (λ b. b || true) (h refl))
door-part (part.Lowers t) fresh begun h = ap (λ b. b || false) (h refl) ∙ sym (ap (λ b. b || true) (h refl))
door-part (Refuses q) fresh begun h = ap (λ b. b || false) (h refl) ∙ sym (ap (λ b. b || true) (h refl))
door-part (Waits t w ws) fresh begun h = ap (λ b. b || false) (h refl) ∙ sym (ap (λ b. b || true) (h refl))
door-part (AsksCommit k ks vs) fresh begun h = refl
door-part (AsksStamp k ks vs b) fresh begun h = refl
door-part (AsksImage vs) fresh begun h = refl
door-part (WritesImage vs st) fresh begun h = refl
door-part (WritesStamp vs st) fresh begun h = refl
door-part (WritesCommit vs st) fresh begun h = refl
door-part (Clears a) true begun h = refl
door-part (Clears a) false begun h = refl
door-part Over fresh begun h = refl

-- an access to another register does not begin a doorway
other-raises : (f : Field) (m : Move) (first begun : Bool) → (f ≡ Choosing → begun ≡ true) → (begun || (first && raises f m)) ≡ (begun || false)
other-raises Choosing m first begun h = ap (λ b. b || (first && raises Choosing m)) (h refl) ∙ sym (ap (λ b. b || false) (h refl))
other-raises Ticket m true begun h = refl
other-raises Commit m true begun h = refl
other-raises Stamp0 m true begun h = refl
other-raises Stamp1 m true begun h = refl
other-raises Image0 m true begun h = refl
other-raises Image1 m true begun h = refl
other-raises _ m false begun h = refl

-- a closing does not begin a doorway that has not begun
closing-part : (s : Setup) (p : ℕ) (command : Command) (number : ℕ) (at : Closing) (a : Access) (begun : Bool) → Announced (Closes command number at) begun →
    (begun || begins_at (Closes command number at) a) ≡ (begun || is_at_door (stage_doing (Closes command number at)))
closing-part s p command number (Withdraws w) a begun h = refl
closing-part s p command number (Settles f bit by taken is t) a begun h = other-raises f a.how (a.reader == 0) begun h
closing-part s p command number (Frees is w) a begun h = refl
closing-part s p command number (closing.Lowers w) a begun h = refl
closing-part s p command number Quit a begun h = refl
closing-part s p command number Ended a begun h = refl

-- the case of every kind of entry
begun-happens : (s : Setup) → IsGood s → (events : List Event) (e : Entry) (d d' : Doing)
    → let past : Past = past_of s events in
    let begun : Bool = is_some (doorway_begin e.process past) in
    d ≡ doing s e.process past → Announced d begun → Happens s past e.process e d d' → (begun || begins_with e.access d) ≡ (begun || (is_some e.access && is_at_door (stage_doing d)))
begun-happens s g events e d d' at a h = go h
  where
    past : Past
    past = past_of s events

    begun : Bool
    begun = is_some (doorway_begin e.process past)

    door : Bool
    door = is_at_door (stage_doing d)

    none : e.access ≡ None → (begun || begins_with e.access d) ≡ (begun || (is_some e.access && door))
    none k = ap (λ o. begun || begins_with o d) k ∙ sym (ap (λ (o : Option Access). begun || (is_some o && door)) k)

    some : (x : Access) → e.access ≡ Some x → (begun || begins_at d x) ≡ (begun || door) → (begun || begins_with e.access d) ≡ (begun || (is_some e.access && door))
    some x k same = ap (λ o. begun || begins_with o d) k ∙ same ∙ sym (ap (λ (o : Option Access). begun || (is_some o && door)) k)

    go : Happens s past e.process e d d' → (begun || begins_with e.access d) ≡ (begun || (is_some e.access && door))
    go (a_call command number was unmade marks then) = none unmade
    go (a_withdrawal command number t w ws run was unmade marks then) = none unmade
    go (a_failure command number may unmade marks then) = none unmade
    go (a_restart was unmade marks then) = none unmade
    go (a_step command number here x flick was over access is marks then) = some x access
        (ap (λ d. begun || begins_at d x) was
        ∙ door-part here.part (is_fresh here.run) begun (begun-at s g events e.process command number here (sym at ∙ was))
        ∙ sym (ap (λ d. begun || is_at_door (stage_doing d)) was))
    go (a_closing command number here flick n was next access same marks then) = some n.access access
        (ap (λ d. begun || begins_at d n.access) was
        ∙ closing-part s e.process command number here n.access begun (subst (λ d. Announced d begun) was a)
        ∙ sym (ap (λ d. begun || is_at_door (stage_doing d)) was))

-- After a call the doorway has not begun. A step of a process that is in its doorway or waits begins it, if it has not begun. Nothing else changes it.
pub begun-after : (s : Setup) → IsGood s → (events : List Event) (what : Event) (e : Entry) → entry_of s (past_of s events) what ≡ Some e
    → let past : Past = past_of s events in
    let p : ℕ = e.process in
    is_some (doorway_begin p (e ∷ past)) ≡ cond (has is_called e) false (is_some (doorway_begin p past) || (is_some e.access && is_at_door (stage_doing (doing s p past))))
begun-after s g events what e h =
    let past : Past = past_of s events in
    let p : ℕ = e.process in
    begun-own e past (has is_called e) refl
    ∙ ap (λ b. cond (has is_called e) false (is_some (doorway_begin p past) || b)) (begins-is s g events what e h)
    ∙ ap (cond (has is_called e) false)
    (begun-happens s g events e (doing s p past) (doing s p (e ∷ past)) refl (announced-is s g events p) (accepted s g events what e h).happens)
