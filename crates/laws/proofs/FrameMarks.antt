-- The steps with which a call begins, a doorway begins and ends, and a process enters.
use Rattle.std.proofs.Common.{◌≡◌, ℕ, ◌&&◌, ◌||◌, Bool, true, false, cond, not, List, [], ◌∷◌, ◌++◌, Option, Some, None, length, map, refl, sym, ap, subst, ◌∙◌, true≢false}
use Rattle.std.specs.List.{list_any}
use Rattle.std.proofs.lemmas.List.Folds.{list_any-append}
use Rattle.model.specs.reader_copies.Runs as copies
use Rattle.model.specs.{Access, AsksImage, Call, Clears, Entry, Event, Mark, Next, Part, Past, Place, Raises, Refuses, Wait, Waits, WritesCommit, bits_with, enter, entered_if_none, entry_of, first_marks, has, history, is_called, is_entered, is_fresh, is_last, is_waiting, last_marks, lets_by, marks_of, part_after, past_of, place_after, placed, processes, reply, run_after, store_read, to_d, to_e, value_of, waits_of}
use Rattle.plain_store.specs.declared.Answer.TheVariants as answer
use Rattle.plain_store.specs.{Command, Reply, Setup, changes}
use Rattle.model.specs.declared.marks.Mark.TheVariants.{Called, Waiting, Entered, Taken, Left, Answered, Failed, Settled, Down, Withdrew, Restarted}
use Rattle.model.specs.Closings.{Closing, Withdraws, Settles, Frees, Lowers, Quit, Ended, no_ticket, is_unwritten, is_last_written, is_last_settled, closing_next, settled_marks}
use Rattle.model.specs.Parts as part
use Rattle.model.proofs.OpenSteps.{closing-plain}
use Rattle.model.proofs.Staging.{no_called, no_start-marks}
use Rattle.model.proofs.Turns.{and_false}
use Rattle.model.proofs.Width.{IsGood}
use Rattle.laws.specs.{Doing, Rests, Runs, call, runs, doing, is_inside, is_inside_at}
use Rattle.laws.proofs.Frame.{Happens, a_call, a_withdrawal, a_failure, a_restart, a_step, a_closing}
use Rattle.laws.proofs.FrameEvents.{accepted}
use Rattle.laws.proofs.FrameInside.{enter-fresh, inside-runs}

-- nothing is done
abbrev pub is_resting : Doing → Bool
is_resting Rests = true
is_resting _ = false

-- a call is run
abbrev pub is_running : Doing → Bool
is_running (Runs command number at) = true
is_running _ = false

-- the part raises choosing, and lowers it with a ticket
abbrev pub is_raising : Part → Bool
is_raising Raises = true
is_raising _ = false

abbrev pub is_lowering : Part → Bool
is_lowering (part.Lowers t) = true
is_lowering _ = false

-- the next access ends the doorway with a ticket
abbrev pub ends_doorway : Setup → ℕ → Doing → Bool
ends_doorway s p (Runs command number at) = is_lowering at.part && is_last (call s p command number) at.part at.run
ends_doorway s p _ = false

-- for marks of a kind, the place in the history that `Taken` contains does not matter
any-placed : (test : Mark → Bool) → ((k i : ℕ) (r : Reply) → test (Taken k r) ≡ test (Taken i r)) → (k : ℕ) (ms : List Mark) → list_any test (map (placed k) ms) ≡ list_any test ms
any-placed test h k [] = refl
any-placed test h k (Taken i r ∷ ms) = λ j. h k i r j || any-placed test h k ms j
any-placed test h k (Called c ∷ ms) = ap (λ t. test (Called c) || t) (any-placed test h k ms)
any-placed test h k (Waiting t ∷ ms) = ap (λ q. test (Waiting t) || q) (any-placed test h k ms)
any-placed test h k (Entered ∷ ms) = ap (λ t. test Entered || t) (any-placed test h k ms)
any-placed test h k (Left ∷ ms) = ap (λ t. test Left || t) (any-placed test h k ms)
any-placed test h k (Answered a ∷ ms) = ap (λ t. test (Answered a) || t) (any-placed test h k ms)
any-placed test h k (Failed ∷ ms) = ap (λ t. test Failed || t) (any-placed test h k ms)
any-placed test h k (Settled v ∷ ms) = ap (λ t. test (Settled v) || t) (any-placed test h k ms)
any-placed test h k (Down ∷ ms) = ap (λ t. test Down || t) (any-placed test h k ms)
any-placed test h k (Withdrew ∷ ms) = ap (λ t. test Withdrew || t) (any-placed test h k ms)
any-placed test h k (Restarted ∷ ms) = ap (λ t. test Restarted || t) (any-placed test h k ms)

-- a mark on the first access, and one on the last
any_first : (test : Mark → Bool) (first last : List Mark) (b1 b2 : Bool) → list_any test first ≡ false → list_any test last ≡ false → list_any test (cond b1 first [] ++ cond b2 last []) ≡ false
any_first test first last b1 b2 h k = list_any-append test (cond b1 first []) (cond b2 last []) ∙ go b1 b2
  where
    go : (b1 b2 : Bool) → (list_any test (cond b1 first []) || list_any test (cond b2 last [])) ≡ false
    go true true = λ i. h i || k i
    go true false = ap (λ b. b || false) h
    go false true = k
    go false false = refl

-- none of an image's reading: it only takes
image-marks : (test : Mark → Bool) (b : Bool) (r : Reply) → test (Taken 0 r) ≡ false → list_any test (cond b [] (Taken 0 r ∷ [])) ≡ false
image-marks test true r h = refl
image-marks test false r h = ap (λ t. t || false) h

-- The end of a doorway.

pub waiting-entered : (ws : List Wait) → list_any is_waiting (entered_if_none ws) ≡ false
waiting-entered [] = refl
waiting-entered (w ∷ ws) = refl

waiting-waits : (b : Bool) (ws : List Wait) → list_any is_waiting (cond b (entered_if_none ws) []) ≡ false
waiting-waits true ws = waiting-entered ws
waiting-waits false ws = refl

waiting-part : (c : Call) (x : Part) (v : List Bool) (b1 b2 : Bool) → list_any is_waiting (cond b1 (first_marks x) [] ++ cond b2 (last_marks c x v) []) ≡ (is_lowering x && b2)
waiting-part c (part.Lowers t) v true true = refl
waiting-part c (part.Lowers t) v true false = refl
waiting-part c (part.Lowers t) v false true = refl
waiting-part c (part.Lowers t) v false false = refl
waiting-part c (Waits t w ws) v b1 b2 = any_first is_waiting [] _ b1 b2 refl (waiting-waits (lets_by c t w v) ws)
waiting-part c (AsksImage vs) v b1 b2 = any_first is_waiting [] _ b1 b2 refl (image-marks is_waiting (changes (store_read c v) c.command) (reply c (store_read c v)) refl)
waiting-part c (Refuses f) v b1 b2 = any_first is_waiting [] _ b1 b2 refl refl
waiting-part c (WritesCommit vs st) v b1 b2 = any_first is_waiting [] _ b1 b2 refl refl
waiting-part c (Clears a) v b1 b2 = any_first is_waiting (Left ∷ []) (Answered a ∷ []) b1 b2 refl refl
waiting-part c _ v b1 b2 = any_first is_waiting [] [] b1 b2 refl refl

abbrev marks_in : Option Next → List Mark
marks_in None = []
marks_in (Some n) = n.marks

-- the marks of a closing are of none of these kinds
closing-marks : (test : Mark → Bool) → ((k i : ℕ) (r : Reply) → test (Taken k r) ≡ false) → test (Answered answer.Withdrawn) ≡ false → ((v : Bool) → test (Settled v) ≡ false) → test Left ≡ false → test Down ≡ false →
    (c : Call) (at : Closing) (flick : Bool) (n : Next) → closing_next c at flick ≡ Some n → list_any test n.marks ≡ false
closing-marks test taken answered settled remaining down c at flick n h = subst (λ o. list_any test (marks_in o) ≡ false) h (go at)
  where
    one : (b : Bool) (m : Mark) → test m ≡ false → list_any test (cond b (m ∷ []) []) ≡ false
    one true m h = ap (λ t. t || false) h
    one false m h = refl

    reported : (d v : Bool) (r : Reply) → list_any test (Settled v ∷ cond d (Taken 0 r ∷ []) []) ≡ false
    reported true v r = λ j. settled v j || (taken 0 0 r j || false)
    reported false v r = ap (λ t. t || false) (settled v)

    two : (b begun v : Bool) (r : Option Reply) → list_any test (cond b (settled_marks begun r v) []) ≡ false
    two true begun v None = ap (λ t. t || false) (settled v)
    two true begun v (Some r) = reported (cond v begun (not begun)) v r
    two false begun v r = refl

    go : (at : Closing) → list_any test (marks_in (closing_next c at flick)) ≡ false
    go (Withdraws w) = one (is_last_written c (no_ticket c) w) (Answered answer.Withdrawn) answered
    go (Settles field bit begun taken is t) =
        two (is_last_settled c t (copies.settled_at t flick)) begun (copies.settled_at t flick) taken
    go (Frees is w) = one (is && is_unwritten w) Left remaining
    go (Lowers w) = one (is_last_written c (false ∷ []) w) Down down
    go Quit = refl
    go Ended = refl

-- the mark is made, at an access, if the state has it
abbrev pub at_access : Option Access → Bool → Bool
at_access None b = false
at_access (Some a) b = b

waiting-happens : (s : Setup) (past : Past) (p : ℕ) (e : Entry) (d d' : Doing) → Happens s past p e d d' → has is_waiting e ≡ at_access e.access (ends_doorway s p d)
waiting-happens s past p e d d' (a_call command number was none marks then) = ap (list_any is_waiting) marks ∙ sym (ap (λ o. at_access o (ends_doorway s p d)) none)
waiting-happens s past p e d d' (a_withdrawal command number t w ws run was none marks then) = ap (list_any is_waiting) marks ∙ sym (ap (λ o. at_access o (ends_doorway s p d)) none)
waiting-happens s past p e d d' (a_failure command number may none marks then) = ap (list_any is_waiting) marks ∙ sym (ap (λ o. at_access o (ends_doorway s p d)) none)
waiting-happens s past p e d d' (a_restart was none marks then) = ap (list_any is_waiting) marks ∙ sym (ap (λ o. at_access o (ends_doorway s p d)) none)
waiting-happens s past p e d d' (a_step command number at a flick was over access is marks then) =
    ap (list_any is_waiting) marks ∙ any-placed is_waiting (λ k i r. refl) (length (history s past)) (marks_of (call s p command number) at (value_of a.how))
    ∙ waiting-part (call s p command number) at.part (bits_with at.run (value_of a.how)) (is_fresh at.run) (is_last (call s p command number) at.part at.run)
    ∙ sym (ap (λ o. at_access o (ends_doorway s p d)) access ∙ ap (ends_doorway s p) was)
waiting-happens s past p e d d' (a_closing command number at flick n was next access same marks then) =
    ap (list_any is_waiting) marks ∙ any-placed is_waiting (λ k i r. refl) (length (history s past)) n.marks
    ∙ closing-marks is_waiting (λ k i r. refl) refl (λ v. refl) refl refl (call s p command number) at flick n next
    ∙ sym (ap (λ o. at_access o (ends_doorway s p d)) access ∙ ap (ends_doorway s p) was)

-- A doorway ends with a ticket at the last access of part `Lowers`, and nowhere else.
pub waiting-is : (s : Setup) → IsGood s → (events : List Event) (what : Event) (e : Entry) → entry_of s (past_of s events) what ≡ Some e →
    has is_waiting e ≡ at_access e.access (ends_doorway s e.process (doing s e.process (past_of s events)))
waiting-is s g events what e h = waiting-happens s (past_of s events) e.process e (doing s e.process (past_of s events)) (doing s e.process (e ∷ past_of s events)) (accepted s g events what e h).happens

-- The begin of a call.

called-happens : (s : Setup) (past : Past) (p : ℕ) (e : Entry) (d d' : Doing) → Happens s past p e d d' → has is_called e ≡ (is_resting d && is_running d')
called-happens s past p e d d' (a_call command number was none marks then) = ap (list_any is_called) marks ∙ sym (λ i. is_resting (was i) && is_running (then i))
called-happens s past p e d d' (a_withdrawal command number t w ws run was none marks then) = ap (list_any is_called) marks ∙ sym (ap (λ d. is_resting d && is_running d') was)
called-happens s past p e d d' (a_failure command number may none marks then) = ap (list_any is_called) marks ∙ sym (ap (λ q. is_resting d && is_running q) then ∙ and_false (is_resting d))
called-happens s past p e d d' (a_restart was none marks then) = ap (list_any is_called) marks ∙ sym (ap (λ d. is_resting d && is_running d') was)
called-happens s past p e d d' (a_step command number at a flick was over access is marks then) =
    ap (list_any is_called) marks ∙ any-placed is_called (λ k i r. refl) (length (history s past)) (marks_of (call s p command number) at (value_of a.how))
    ∙ no_called (marks_of (call s p command number) at (value_of a.how)) (no_start-marks (call s p command number) at.part (bits_with at.run (value_of a.how)) (is_fresh at.run) (is_last (call s p command number) at.part at.run))
    ∙ sym (ap (λ d. is_resting d && is_running d') was)
called-happens s past p e d d' (a_closing command number at flick n was next access same marks then) =
    ap (list_any is_called) marks ∙ any-placed is_called (λ k i r. refl) (length (history s past)) n.marks
    ∙ no_called n.marks (closing-plain (call s p command number) at flick n next)
    ∙ sym (ap (λ d. is_resting d && is_running d') was)

-- A mark `Called` is made where a process that rests runs a call then, and nowhere else.
pub called-is : (s : Setup) → IsGood s → (events : List Event) (what : Event) (e : Entry) → entry_of s (past_of s events) what ≡ Some e →
    has is_called e ≡ (is_resting (doing s e.process (past_of s events)) && is_running (doing s e.process (e ∷ past_of s events)))
called-is s g events what e h = called-happens s (past_of s events) e.process e (doing s e.process (past_of s events)) (doing s e.process (e ∷ past_of s events)) (accepted s g events what e h).happens

-- Entering.

entered-next : (c : Call) (t : ℕ) (ws : List Wait) → list_any is_entered (entered_if_none ws) ≡ true → is_inside_at (to_d c t ws) true ≡ true
entered-next c t [] h = section (processes c.setup)
  where
    section : (ks : List ℕ) → is_inside_at (to_e ks []) true ≡ true
    section [] = refl
    section (k ∷ ks) = refl
entered-next c t (w ∷ ws) h = cc

-- the mark is made by who was not inside, at a last access that leads inside
abbrev Enters : Call → Part → List Bool → Bool → Bool → Type 0
Enters c x v b1 b2 = (is_inside_at x b1 ≡ false) × (b2 ≡ true) × (is_inside_at (part_after c x v) true ≡ true)

no_entry : (first last : List Mark) (b1 b2 : Bool) → list_any is_entered first ≡ false → list_any is_entered last ≡ false → list_any is_entered (cond b1 first [] ++ cond b2 last []) ≡ true → ⊥
no_entry first last b1 b2 h k e = true≢false (sym e ∙ any_first is_entered first last b1 b2 h k)

entered-lowers : (c : Call) (t : ℕ) (v : List Bool) (b1 b2 : Bool) → list_any is_entered (cond b1 [] [] ++ cond b2 (Waiting t ∷ entered_if_none (waits_of c)) []) ≡ true → Enters c (part.Lowers t) v b1 b2
entered-lowers c t v true true h = (refl, refl, entered-next c t (waits_of c) h)
entered-lowers c t v true false h = cc
entered-lowers c t v false true h = (refl, refl, entered-next c t (waits_of c) h)
entered-lowers c t v false false h = cc

entered-waits : (c : Call) (t : ℕ) (w : Wait) (ws : List Wait) (v : List Bool) (by b1 b2 : Bool) → list_any is_entered (cond b1 [] [] ++ cond b2 (cond by (entered_if_none ws) []) []) ≡ true →
    (b2 ≡ true) × (is_inside_at (to_d c t (cond by ws (w ∷ ws))) true ≡ true)
entered-waits c t w ws v true true true h = (refl, entered-next c t ws h)
entered-waits c t w ws v true false true h = (refl, entered-next c t ws h)
entered-waits c t w ws v false true true h = cc
entered-waits c t w ws v false false true h = cc
entered-waits c t w ws v by true false h = cc
entered-waits c t w ws v by false false h = cc

entered-part : (c : Call) (x : Part) (v : List Bool) (b1 b2 : Bool) → list_any is_entered (cond b1 (first_marks x) [] ++ cond b2 (last_marks c x v) []) ≡ true → Enters c x v b1 b2
entered-part c (part.Lowers t) v b1 b2 h = entered-lowers c t v b1 b2 h
entered-part c (Waits t w ws) v b1 b2 h = let l = entered-waits c t w ws v (lets_by c t w v) b1 b2 h in (refl, l.0, l.1)
entered-part c (AsksImage vs) v b1 b2 h = absurd (no_entry [] _ b1 b2 refl (image-marks is_entered (changes (store_read c v) c.command) (reply c (store_read c v)) refl) h)
entered-part c (Refuses f) v b1 b2 h = absurd (no_entry [] (Answered (answer.TicketsFull f) ∷ []) b1 b2 refl refl h)
entered-part c (WritesCommit vs st) v b1 b2 h = absurd (no_entry [] (Taken 0 (reply c st) ∷ []) b1 b2 refl refl h)
entered-part c (Clears a) v b1 b2 h = absurd (no_entry (Left ∷ []) (Answered a ∷ []) b1 b2 refl refl h)
entered-part c _ v b1 b2 h = absurd (no_entry [] [] b1 b2 refl refl h)

entered-place : (command : Command) (number : ℕ) (c : Call) (at : Place) (v : Bool) → list_any is_entered (marks_of c at v) ≡ true →
    (is_inside (Runs command number at) ≡ false) × (is_inside (runs command number (place_after c at v)) ≡ true)
entered-place command number c at v h =
    let in_part = entered-part c at.part (bits_with at.run v) (is_fresh at.run) (is_last c at.part at.run) h in
    let next : Part = part_after c at.part (bits_with at.run v) in
    let to : place_after c at v ≡ enter c next = ap (λ b. cond b (enter c next) (let q : Place = record { part = at.part; run = run_after c at.part at.run v } in q)) in_part.1 in
    (in_part.0, ap (λ q. is_inside (runs command number q)) to ∙ inside-runs command number (enter c next) ∙ ap (is_inside_at next) (enter-fresh c next) ∙ in_part.2)

entered-happens : (s : Setup) (past : Past) (p : ℕ) (e : Entry) (d d' : Doing) → Happens s past p e d d' → has is_entered e ≡ true → (is_inside d ≡ false) × (is_inside d' ≡ true)
entered-happens s past p e d d' (a_call command number was none marks then) h = let f : false ≡ true = sym (ap (list_any is_entered) marks) ∙ h in cc
entered-happens s past p e d d' (a_withdrawal command number t w ws run was none marks then) h = let f : false ≡ true = sym (ap (list_any is_entered) marks) ∙ h in cc
entered-happens s past p e d d' (a_failure command number may none marks then) h = let f : false ≡ true = sym (ap (list_any is_entered) marks) ∙ h in cc
entered-happens s past p e d d' (a_restart was none marks then) h = let f : false ≡ true = sym (ap (list_any is_entered) marks) ∙ h in cc
entered-happens s past p e d d' (a_step command number at a flick was over access is marks then) h =
    let c : Call = call s p command number in
    let made : list_any is_entered (marks_of c at (value_of a.how)) ≡ true = sym (ap (list_any is_entered) marks ∙ any-placed is_entered (λ k i r. refl) (length (history s past)) (marks_of c at (value_of a.how))) ∙ h in
    let both = entered-place command number c at (value_of a.how) made in
    (ap is_inside was ∙ both.0, ap is_inside then ∙ both.1)
entered-happens s past p e d d' (a_closing command number at flick n was next access same marks then) h =
    absurd (true≢false (sym h ∙ ap (list_any is_entered) marks ∙ any-placed is_entered (λ k i r. refl) (length (history s past)) n.marks
    ∙ closing-marks is_entered (λ k i r. refl) refl (λ v. refl) refl refl (call s p command number) at flick n next))

-- A process with the mark `Entered` was not inside before, and is inside then.
pub entered-is : (s : Setup) → IsGood s → (events : List Event) (what : Event) (e : Entry) → entry_of s (past_of s events) what ≡ Some e → has is_entered e ≡ true →
    (is_inside (doing s e.process (past_of s events)) ≡ false) × (is_inside (doing s e.process (e ∷ past_of s events)) ≡ true)
entered-is s g events what e h = entered-happens s (past_of s events) e.process e (doing s e.process (past_of s events)) (doing s e.process (e ∷ past_of s events)) (accepted s g events what e h).happens
