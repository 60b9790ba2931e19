-- No process is overtaken: the doorway of a process that runs its call is one for any lock and for this project's lock.
use Rattle.std.proofs.Common.{◌≡◌, ◌≢◌, ℕ, ◌==◌, not, ◌&&◌, Bool, true, false, cond, List, [], ◌∷◌, Option, Some, None, length, refl, sym, ap, subst, ◌∙◌, ne_eqb, true≢false}
use Rattle.std.specs.List.{list_any}
use Rattle.std.specs.Option.{is_some}
use Rattle.model.specs.{Access, Call, Entry, Event, OvertakesNobody, Past, Place, begins_doorway, doorway_begin, doorway_end, entry_of, first_of, has, history, is_before, is_called, is_entered, is_fresh, is_over, is_waiting_stage, last_write, number_in_call, own, past_of, place_after, stage, unfinished, value_of, write_moved}
use Rattle.plain_store.specs.{Command, Setup}
use Rattle.model.specs.reader_copies.Runs as copies
use Rattle.model.specs.safe_number.{new_write}
use Rattle.model.specs.Closings.{Closing, Withdraws, Settles, Frees, Lowers, Quit, Ended, closing_after, freeing, is_last_settled, is_last_written, no_ticket, settling_from}
use Rattle.model.proofs.Turns.{and_false}
use Rattle.model.proofs.Width.{IsGood}
use Rattle.any_lock.specs.safe_monitor.laws.{Doing, Rests, Runs, Closes, call, closes, doing, runs}
use Rattle.any_lock.proofs.safe_monitor.laws.AtPlaces.{IsOfLock, any-closing, any-placed, own-induction}
use Rattle.any_lock.proofs.safe_monitor.laws.Frame.{Happens, a_call, a_withdrawal, a_failure, a_restart, a_step, a_closing, doing-other}
use Rattle.any_lock.proofs.safe_monitor.laws.FrameDoorways.{begins-is, begins_at, begins_with}
use Rattle.any_lock.proofs.safe_monitor.laws.FrameEvents.{accepted}
use Rattle.any_lock.proofs.safe_monitor.laws.FrameMarks.{called-is, is_raising, is_resting, is_running}
use Rattle.any_lock.specs.{ProcessView, breaks_overtaken, has_access, is_ahead, other_ahead, passage_in}
use Rattle.any_lock.proofs.Steps.{if_there, number-called, number-mine, process_view-other}
use Rattle.judge.proofs.NoneBelow.{none_below}

-- both doorways began with one entry; fresh: the call may have made no access yet
pub record OneDoorway (past : Past) (p : ℕ) (fresh : Bool) : Type 0 where
  pub same : number_in_call p has_access past ≡ doorway_begin p past
  pub begun : number_in_call p has_access past ≡ None → fresh ≡ true

-- the doorway of a process that runs its call, or withdrew
abbrev pub DoorwayOf : Past → ℕ → Doing → Type 0
DoorwayOf past p (Runs command number at) = OneDoorway past p (is_raising at.part && is_fresh at.run)
DoorwayOf past p (Closes command number (Withdraws w)) = OneDoorway past p false
DoorwayOf past p _ = Unit {0}

-- a closing withdraws its call
abbrev was_withdrawal : Closing → Bool
was_withdrawal (Withdraws w) = true
was_withdrawal _ = false

-- the doorway after one more entry of the call
goes_on : (past : Past) (e : Entry) (was then : Bool) → has is_called e ≡ false → (has_access e ≡ false → (begins_doorway e ≡ false) × (was ≡ true → then ≡ true)) → (has_access e ≡ true → begins_doorway e ≡ was) →
    OneDoorway past e.process was → OneDoorway (e ∷ past) e.process then
goes_on past e was then plain without with_one before = go (has_access e) refl (begins_doorway e) refl
  where
    p : ℕ
    p = e.process

    n : Option ℕ
    n = number_in_call p has_access past

    -- the two numbers after the entry
    are : (b c : Bool) → has_access e ≡ b → begins_doorway e ≡ c → first_of n (if_there b (length past)) ≡ first_of n (if_there c (length past)) → (first_of n (if_there b (length past)) ≡ None → then ≡ true) → OneDoorway (e ∷ past) p then
    are b c h k same begun =
        let any : number_in_call p has_access (e ∷ past) ≡ first_of n (if_there b (length past)) = number-mine p has_access e past refl plain b h in
        let own : number_in_call p begins_doorway (e ∷ past) ≡ first_of (doorway_begin p past) (if_there c (length past)) = number-mine p begins_doorway e past refl plain c k in
        record {
          same = any ∙ same ∙ ap (λ o. first_of o (if_there c (length past))) before.same ∙ sym own;
          begun = λ none. begun (sym any ∙ none);
        }

    nothing : (o : Option ℕ) → first_of o None ≡ None → o ≡ None
    nothing None h = refl
    nothing (Some k) h = h

    some : (o : Option ℕ) → n ≡ o → (c : Bool) → begins_doorway e ≡ c → c ≡ was → first_of o (if_there true (length past)) ≡ first_of o (if_there c (length past))
    some (Some k) h c i j = refl
    some None h c i j = ap (λ b. if_there b (length past)) (sym (j ∙ before.begun h))

    never : (o : Option ℕ) → first_of o (Some (length past)) ≡ None → then ≡ true
    never None h = cc
    never (Some k) h = cc

    go : (b : Bool) → has_access e ≡ b → (c : Bool) → begins_doorway e ≡ c → OneDoorway (e ∷ past) p then
    go true h c k = are true c h k (some n refl c k (sym k ∙ with_one h)) (never n)
    go false h true k = absurd (true≢false (sym k ∙ (without h).0))
    go false h false k = are false false h k refl (λ none. (without h).1 (before.begun (nothing n none)))

-- the doorway after an access of a closing
closes_doorway : (past : Past) (p : ℕ) (c : Call) (command : Command) (number : ℕ) (at : Closing) (flick : Bool) → (was_withdrawal at ≡ true → OneDoorway past p false) → DoorwayOf past p (closes command number (closing_after c at flick))
closes_doorway past p c command number (Withdraws w) flick h = go (is_last_written c (no_ticket c) w)
  where
    go : (b : Bool) → DoorwayOf past p (closes command number (cond b Quit (Withdraws (write_moved c.setup.processes (no_ticket c) w))))
    go true = tt
    go false = h refl
closes_doorway past p c command number (Settles f bit begun taken is t) flick h = go (is_last_settled c t (copies.settled_at t flick))
  where
    go : (b : Bool) → DoorwayOf past p (closes command number (cond b (freeing c is) (Settles f bit begun taken is (copies.settle_after t (copies.settled_at t flick)))))
    go true = tt
    go false = tt
closes_doorway past p c command number (Frees is w) flick h = go (is_last_written c (no_ticket c) w)
  where
    go : (b : Bool) → DoorwayOf past p (closes command number (cond b (Lowers (new_write 1)) (Frees is (write_moved c.setup.processes (no_ticket c) w))))
    go true = tt
    go false = tt
closes_doorway past p c command number (Lowers w) flick h = go (is_last_written c (false ∷ []) w)
  where
    go : (b : Bool) → DoorwayOf past p (closes command number (cond b Ended (Lowers (write_moved c.setup.processes (false ∷ []) w))))
    go true = tt
    go false = tt
closes_doorway past p c command number Quit flick h = tt
closes_doorway past p c command number Ended flick h = tt

-- the doorway after a failure
fails_doorway : (past : Past) (p : ℕ) (c : Call) (command : Command) (number : ℕ) (mine : Past) (o : Option Access) → DoorwayOf past p (Closes command number (settling_from c mine o))
fails_doorway past p c command number mine None = tt
fails_doorway past p c command number mine (Some a) = tt

runs_doorway : (past : Past) (p : ℕ) (command : Command) (number : ℕ) (at : Place) → OneDoorway past p (is_raising at.part && is_fresh at.run) → DoorwayOf past p (runs command number at)
runs_doorway past p command number at h = go (is_over at.part)
  where
    go : (b : Bool) → DoorwayOf past p (cond b Rests (Runs command number at))
    go true = tt
    go false = h

-- the doorway after each kind of entry
module _ (s : Setup) (past : Past) (e : Entry) (d d' : Doing) (begins : begins_doorway e ≡ begins_with e.access d) (uncalled : is_resting d ≡ false → has is_called e ≡ false) where
  abbrev p : ℕ
  p = e.process

  doorways_by : Happens s past p e d d' → DoorwayOf past p d → DoorwayOf (e ∷ past) p d'
  doorways_by (a_call command number i none m k) h =
      let called : has is_called e ≡ true = ap (list_any is_called) m in
      subst (DoorwayOf (e ∷ past) p) (sym k) (record { same = number-called p has_access e past refl called ∙ sym (number-called p begins_doorway e past refl called); begun = λ _. refl })
  doorways_by (a_withdrawal command number t w ws run i none m k) h =
      subst (DoorwayOf (e ∷ past) p) (sym k) (goes_on past e false false (uncalled (ap is_resting i)) (λ _. (begins ∙ ap (λ o. begins_with o d) none, λ f. f)) (λ f. begins ∙ ap (λ o. begins_with o d) none)
      (subst (DoorwayOf past p) i h))
  doorways_by (a_failure command number may none m k) h =
      subst (DoorwayOf (e ∷ past) p) (sym k) (fails_doorway (e ∷ past) p (call s p command number) command number (own p past) (unfinished s.processes (last_write (own p past))))
  doorways_by (a_restart i none m k) h = subst (DoorwayOf (e ∷ past) p) (sym k) tt
  doorways_by (a_step command number at a flick i over acc made m k) h =
      let to : Place = place_after (call s p command number) at (value_of a.how) in
      let there : has_access e ≡ true = ap is_some acc in
      subst (DoorwayOf (e ∷ past) p) (sym k) (runs_doorway (e ∷ past) p command number to
      (goes_on past e (is_raising at.part && is_fresh at.run) (is_raising to.part && is_fresh to.run) (uncalled (ap is_resting i)) (λ f. absurd (true≢false (sym there ∙ f)))
      (λ _. begins ∙ ap (λ o. begins_with o d) acc ∙ ap (λ x. begins_at x a) i) (subst (DoorwayOf past p) i h)))
  doorways_by (a_closing command number at flick n i next acc same m k) h =
      let there : has_access e ≡ true = ap is_some acc in
      subst (DoorwayOf (e ∷ past) p) (sym k) (closes_doorway (e ∷ past) p (call s p command number) command number at flick (withdraws at i (subst (DoorwayOf past p) i h) there))
    where
      withdraws : (at : Closing) → d ≡ Closes command number at → DoorwayOf past p (Closes command number at) → has_access e ≡ true → was_withdrawal at ≡ true → OneDoorway (e ∷ past) p false
      withdraws (Withdraws w) i h there _ = goes_on past e false false (uncalled (ap is_resting i)) (λ f. absurd (true≢false (sym there ∙ f))) (λ _. begins ∙ ap (λ o. begins_with o d) acc ∙ ap (λ x. begins_at x n.access) i) h
      withdraws (Settles f bit begun taken is t) i h there was = absurd (true≢false (sym was))
      withdraws (Frees is w) i h there was = absurd (true≢false (sym was))
      withdraws (Lowers w) i h there was = absurd (true≢false (sym was))
      withdraws Quit i h there was = absurd (true≢false (sym was))
      withdraws Ended i h there was = absurd (true≢false (sym was))

-- In the record of every list of events, both doorways of a process that runs its call, or withdrew, are one.
pub doorways : (s : Setup) → IsGood s → (events : List Event) (p : ℕ) → DoorwayOf (past_of s events) p (doing s p (past_of s events))
doorways s g = own-induction s (λ (past : Past) (p : ℕ). DoorwayOf past p (doing s p past)) (λ p. tt) others
    (λ events event e is h.
    let past : Past = past_of s events in
    let d' : Doing = doing s e.process (e ∷ past) in
    doorways_by s past e (doing s e.process past) d' (begins-is s g events event e is) (λ rests. called-is s g events event e is ∙ ap (λ b. b && is_running d') rests) (accepted s g events event e is).happens h)
  where
    kept : (past : Past) (e : Entry) (p : ℕ) (b : Bool) → (e.process == p) ≡ false → OneDoorway past p b → OneDoorway (e ∷ past) p b
    kept past e p b apart h =
        let any : number_in_call p has_access (e ∷ past) ≡ number_in_call p has_access past = ap (λ (k : ProcessView). k.passage.doorway) (process_view-other s p e past apart) in
        let own : doorway_begin p (e ∷ past) ≡ doorway_begin p past = rw (apart, number_in_call) refl in
        record { same = any ∙ h.same ∙ sym own; begun = λ none. h.begun (sym any ∙ none) }

    each : (past : Past) (e : Entry) (p : ℕ) (d : Doing) → (e.process == p) ≡ false → DoorwayOf past p d → DoorwayOf (e ∷ past) p d
    each past e p (Runs command number at) apart h = kept past e p (is_raising at.part && is_fresh at.run) apart h
    each past e p (Closes command number (Withdraws w)) apart h = kept past e p false apart h
    each past e p _ apart h = tt

    others : (past : Past) (e : Entry) (p : ℕ) → e.process ≢ p → DoorwayOf past p (doing s p past) → DoorwayOf (e ∷ past) p (doing s p (e ∷ past))
    others past e p apart h = subst (DoorwayOf (e ∷ past) p) (sym (doing-other s p e past apart)) (each past e p (doing s p past) (ne_eqb e.process p apart) h)

-- Entering.

of_entering : IsOfLock is_entered
of_entering = record { taken = λ k r. refl; remaining = refl; settled = λ v. refl; down = refl; withdrawn = refl }

-- a process that enters runs its call
entering_runs : (s : Setup) (past : Past) (p : ℕ) (e : Entry) (d d' : Doing) → Happens s past p e d d' → has is_entered e ≡ true → DoorwayOf past p d → number_in_call p has_access past ≡ doorway_begin p past
entering_runs s past p e d d' (a_call command number i none m k) enters h = absurd (true≢false (sym enters ∙ ap (list_any is_entered) m))
entering_runs s past p e d d' (a_withdrawal command number t w ws run i none m k) enters h = absurd (true≢false (sym enters ∙ ap (list_any is_entered) m))
entering_runs s past p e d d' (a_failure command number may none m k) enters h = absurd (true≢false (sym enters ∙ ap (list_any is_entered) m))
entering_runs s past p e d d' (a_restart i none m k) enters h = absurd (true≢false (sym enters ∙ ap (list_any is_entered) m))
entering_runs s past p e d d' (a_step command number at a flick i over acc made m k) enters h = let its : OneDoorway past p (is_raising at.part && is_fresh at.run) = subst (DoorwayOf past p) i h in its.same
entering_runs s past p e d d' (a_closing command number at flick n i next acc same m k) enters h =
    absurd (true≢false (sym enters ∙ ap (list_any is_entered) m ∙ any-placed is_entered of_entering (length (history s past)) n.marks ∙ any-closing is_entered of_entering (call s p command number) at flick n next))

-- A process that enters overtakes no process by the law of any lock either.
pub keeps_overtaken : (s : Setup) → IsGood s → (events : List Event) (event : Event) (e : Entry) → entry_of s (past_of s events) event ≡ Some e → OvertakesNobody (past_of s events) e → breaks_overtaken s (past_of s events) e ≡ false
keeps_overtaken s g events event e is kept = by (has is_entered e) refl
  where
    past : Past
    past = past_of s events

    p : ℕ
    p = e.process

    none : has is_entered e ≡ true → (q : ℕ) → is_ahead (passage_in past) p q ≡ false
    none enters q =
        let one = entering_runs s past p e (doing s p past) (doing s p (e ∷ past)) (accepted s g events event e is).happens enters (doorways s g events p) in
        ap (λ o. not (q == p) && (is_waiting_stage (stage q past) && is_before (doorway_end q past) o)) one
        ∙ ap (λ b. not (q == p) && b) (kept enters q) ∙ and_false (not (q == p))

    by : (b : Bool) → has is_entered e ≡ b → breaks_overtaken s past e ≡ false
    by false outside = ap (λ b. b && is_some (other_ahead (passage_in past) s.processes p)) outside
    by true enters = ap (λ b. b && is_some (other_ahead (passage_in past) s.processes p)) enters ∙ ap is_some (none_below s.processes (is_ahead (passage_in past) p) (none enters))
