-- Induction over the places of a process: its knowledge there changes only by its call and its own steps.
use Rattle.std.specs.Prelude.{Option, not}
use Rattle.std.proofs.Common.{◌≡◌, ◌≢◌, ℕ, ◌==◌, ◌&&◌, ◌||◌, Bool, true, false, cond, List, [], ◌∷◌, Some, None, length, map, refl, sym, ap, subst, ◌∙◌, eqb-true}
use Rattle.std.proofs.lemmas.Bool.{eqb-false}
use Rattle.std.specs.List.{list_any}
use Rattle.std.proofs.lemmas.List.Folds.{list_any-append}
use Rattle.model.specs.{Access, Call, Clears, Entry, Event, Mark, Next, Part, Past, Place, Raises, Reading, Run, Writing, access_at, bits_with, enter, entry_of, first_marks, has, history, is_fresh, is_last, is_over, is_read, last_marks, marks_of, new_run, part_after, past-induction, past_of, place_after, placed, run_after, starts, value_of, valued, width, written_at}
use Rattle.model.specs.safe_number.{new_write}
use Rattle.plain_store.specs.declared.Answer.TheVariants as answer
use Rattle.plain_store.specs.{Command, Reply, Setup}
use Rattle.model.specs.declared.marks.Mark.TheVariants.{Called, Taken, Left, Answered, Settled, Down}
use Rattle.model.specs.Closings.{Closing, Withdraws, Settles, Frees, Lowers, Quit, Ended, closing_next, closing_after, settled_marks}
use Rattle.model.proofs.Width.{IsGood}
use Rattle.model.proofs.Staging.{no_start-marks, no_start-placed}
use Rattle.laws.specs.{Doing, Rests, Lies, Runs, Closes, call, runs, closes, doing}
use Rattle.laws.proofs.Frame.{Happens, a_call, a_withdrawal, a_failure, a_restart, a_step, a_closing, doing-other}
use Rattle.laws.proofs.FrameEvents.{accepted}

-- a property always holds if it holds without entries, and the entries of others and the process's own entries keep it
pub own-induction : (s : Setup) (P : Past → ℕ → Type 0) → ((p : ℕ) → P [] p) →
    ((past : Past) (e : Entry) (p : ℕ) → e.process ≢ p → P past p → P (e ∷ past) p) →
    ((events : List Event) (event : Event) (e : Entry) → entry_of s (past_of s events) event ≡ Some e → P (past_of s events) e.process → P (e ∷ past_of s events) e.process) →
    (events : List Event) (p : ℕ) → P (past_of s events) p
own-induction s P none other mine = past-induction (λ (t : Setup) (past : Past). (p : ℕ) → P past p) s none on
  where
    on : (events : List Event) (event : Event) (e : Entry) → entry_of s (past_of s events) event ≡ Some e → ((p : ℕ) → P (past_of s events) p) → (p : ℕ) → P (e ∷ past_of s events) p
    on events event e is ih p = at (e.process == p) refl
      where
        at : (b : Bool) → (e.process == p) ≡ b → P (e ∷ past_of s events) p
        at true i = subst (λ q. P (e ∷ past_of s events) q) (eqb-true e.process p i) (mine events event e is (ih e.process))
        at false i = other (past_of s events) e p (eqb-false e.process p i) (ih p)

-- a step of p from a place
pub record Stepping (s : Setup) (past : Past) (p : ℕ) (e : Entry) (command : Command) (number : ℕ) (at : Place) : Type 0 where
  pub access : Access
  pub flick : Bool
  pub does : doing s p past ≡ Runs command number at
  pub not_over : is_over at.part ≡ false
  pub is : e.access ≡ Some access
  pub made : access ≡ valued s past flick (access_at (call s p command number) at.part at.run)
  pub marks : e.marks ≡ map (placed (length (history s past))) (marks_of (call s p command number) at (value_of access.how))

-- a property of a place, and of no other state
abbrev pub AtPlace : (Command → ℕ → Place → Type 0) → Doing → Type 0
AtPlace Q Rests = Unit {0}
AtPlace Q Lies = Unit {0}
AtPlace Q (Runs command number at) = Q command number at
AtPlace Q (Closes command number at) = Unit {0}

pub at_place-closes : (Q : Command → ℕ → Place → Type 0) (command : Command) (number : ℕ) (at : Closing) → AtPlace Q (closes command number at)
at_place-closes Q command number (Withdraws w) = tt
at_place-closes Q command number _ = tt

pub at_place-runs : (Q : Command → ℕ → Place → Type 0) (command : Command) (number : ℕ) (at : Place) → (is_over at.part ≡ false → Q command number at) → AtPlace Q (runs command number at)
at_place-runs Q command number at h = go (is_over at.part) h
  where
    go : (b : Bool) → (b ≡ false → Q command number at) → AtPlace Q (cond b Rests (Runs command number at))
    go true h = tt
    go false h = h refl

-- properties of every past, process and place
abbrev pub Knowledge : Type 1
Knowledge = Past → ℕ → Command → ℕ → Place → Type 0

-- a property that holds when a call begins, and that steps and the entries of others keep, holds at each place of each record
pub place-induction : (s : Setup) → IsGood s → (Q : Knowledge) →
    ((past : Past) (e : Entry) (p : ℕ) (command : Command) (number : ℕ) (at : Place) → e.process ≢ p → Q past p command number at → Q (e ∷ past) p command number at) →
    ((past : Past) (e : Entry) (command : Command) (number : ℕ) → e.access ≡ None → e.marks ≡ Called command ∷ [] → Q (e ∷ past) e.process command number (enter (call s e.process command number) Raises)) →
    ((past : Past) (e : Entry) (command : Command) (number : ℕ) (at : Place) (st : Stepping s past e.process e command number at) → Q past e.process command number at →
    is_over (place_after (call s e.process command number) at (value_of st.access.how)).part ≡ false →
    Q (e ∷ past) e.process command number (place_after (call s e.process command number) at (value_of st.access.how))) →
    (events : List Event) (p : ℕ) → AtPlace (Q (past_of s events) p) (doing s p (past_of s events))
place-induction s g Q other called stepped = own-induction s (λ (past : Past) (p : ℕ). AtPlace (Q past p) (doing s p past)) (λ p. tt) others on
  where
    each : (past : Past) (e : Entry) (p : ℕ) (d : Doing) → e.process ≢ p → AtPlace (Q past p) d → AtPlace (Q (e ∷ past) p) d
    each past e p Rests apart h = tt
    each past e p Lies apart h = tt
    each past e p (Runs command number at) apart h = other past e p command number at apart h
    each past e p (Closes command number at) apart h = tt

    others : (past : Past) (e : Entry) (p : ℕ) → e.process ≢ p → AtPlace (Q past p) (doing s p past) → AtPlace (Q (e ∷ past) p) (doing s p (e ∷ past))
    others past e p apart h = subst (AtPlace (Q (e ∷ past) p)) (sym (doing-other s p e past apart)) (each past e p (doing s p past) apart h)

    go : (past : Past) (e : Entry) → Happens s past e.process e (doing s e.process past) (doing s e.process (e ∷ past)) → AtPlace (Q past e.process) (doing s e.process past) →
        AtPlace (Q (e ∷ past) e.process) (doing s e.process (e ∷ past))
    go past e (a_call command number i a m k) h = subst (AtPlace (Q (e ∷ past) e.process)) (sym k) (called past e command number a m)
    go past e (a_withdrawal command number t w ws run i a m k) h = subst (AtPlace (Q (e ∷ past) e.process)) (sym k) tt
    go past e (a_failure command number i a m k) h = subst (AtPlace (Q (e ∷ past) e.process)) (sym k) tt
    go past e (a_restart i a m k) h = subst (AtPlace (Q (e ∷ past) e.process)) (sym k) tt
    go past e (a_step command number at a flick i o is made m k) h = subst (AtPlace (Q (e ∷ past) e.process)) (sym k)
        (at_place-runs (Q (e ∷ past) e.process) command number (place_after (call s e.process command number) at (value_of a.how))
        (stepped past e command number at (record { access = a; flick = flick; does = i; not_over = o; is = is; made = made; marks = m }) (subst (AtPlace (Q past e.process)) i h)))
    go past e (a_closing command number at flick n i next is v m k) h = subst (AtPlace (Q (e ∷ past) e.process)) (sym k) (at_place-closes (Q (e ∷ past) e.process) command number (closing_after (call s e.process command number) at flick))

    on : (events : List Event) (event : Event) (e : Entry) → entry_of s (past_of s events) event ≡ Some e → AtPlace (Q (past_of s events) e.process) (doing s e.process (past_of s events)) →
        AtPlace (Q (e ∷ past_of s events) e.process) (doing s e.process (e ∷ past_of s events))
    on events event e is h = go (past_of s events) e (accepted s g events event e is).happens h

-- A number access is a write or a read, as its part is.

abbrev pub IsRunOf : Part → Run → Type 0
IsRunOf part (Writing w) = is_read part ≡ false
IsRunOf part (Reading bits begun) = is_read part ≡ true

pub new-run : (c : Call) (part : Part) → IsRunOf part (new_run c part)
new-run c part = go (is_read part) refl
  where
    go : (b : Bool) → is_read part ≡ b → IsRunOf part (cond b (Reading [] false) (Writing (new_write (width c.setup (written_at c part).0))))
    go true h = h
    go false h = h

pub run-kept : (c : Call) (part : Part) (run : Run) (v : Bool) → IsRunOf part run → IsRunOf part (run_after c part run v)
run-kept c part (Writing w) v h = h
run-kept c part (Reading bits begun) v h = h

pub run-after : (c : Call) (at : Place) (v : Bool) → IsRunOf at.part at.run → IsRunOf (place_after c at v).part (place_after c at v).run
run-after c at v h = go (is_last c at.part at.run)
  where
    to : Bool → Place
    to b = cond b (enter c (part_after c at.part (bits_with at.run v))) (record { part = at.part; run = run_after c at.part at.run v })

    go : (b : Bool) → IsRunOf (to b).part (to b).run
    go true = new-run c (part_after c at.part (bits_with at.run v))
    go false = run-kept c at.part at.run v h

-- Marks.

-- a test that no mark passes that a withdrawal, a memory unit, an image or the last clearing makes
pub record IsOfLock (test : Mark → Bool) : Type 0 where
  pub taken : (k : ℕ) (r : Reply) → test (Taken k r) ≡ false
  pub remaining : test Left ≡ false
  pub settled : (v : Bool) → test (Settled v) ≡ false
  pub down : test Down ≡ false
  pub withdrawn : test (Answered answer.Withdrawn) ≡ false

pub either : (a b : Bool) → a ≡ false → b ≡ false → (a || b) ≡ false
either true b h k = h
either false b h k = k

pub any-placed : (test : Mark → Bool) → IsOfLock test → (k : ℕ) (ms : List Mark) → list_any test (map (placed k) ms) ≡ list_any test ms
any-placed test of k [] = refl
any-placed test of k (Taken i r ∷ ms) = (λ j. (of.taken k r ∙ sym (of.taken i r)) j || any-placed test of k ms j)
any-placed test of k (m ∷ ms) = ap (λ t. test m || t) (any-placed test of k ms)

-- only the last marks of an access pass the test
pub any-marks : (test : Mark → Bool) → test Left ≡ false → (c : Call) (at : Place) (v : Bool) →
    list_any test (marks_of c at v) ≡ (is_last c at.part at.run && list_any test (last_marks c at.part (bits_with at.run v)))
any-marks test remaining c at v = list_any-append test (cond (is_fresh at.run) (first_marks at.part) []) (cond (is_last c at.part at.run) (last_marks c at.part (bits_with at.run v)) [])
    ∙ ap (λ b. b || list_any test (cond (is_last c at.part at.run) (last_marks c at.part (bits_with at.run v)) [])) (go (is_fresh at.run) at.part) ∙ last (is_last c at.part at.run)
  where
    go : (b : Bool) (part : Part) → list_any test (cond b (first_marks part) []) ≡ false
    go false part = refl
    go true (Clears a) = either (test Left) false remaining refl
    go true _ = refl

    last : (b : Bool) → list_any test (cond b (last_marks c at.part (bits_with at.run v)) []) ≡ (b && list_any test (last_marks c at.part (bits_with at.run v)))
    last true = refl
    last false = refl

pub any-stepping : (test : Mark → Bool) → IsOfLock test → (s : Setup) (past : Past) (p : ℕ) (e : Entry) (command : Command) (number : ℕ) (at : Place) (st : Stepping s past p e command number at) →
    has test e ≡ (is_last (call s p command number) at.part at.run && list_any test (last_marks (call s p command number) at.part (bits_with at.run (value_of st.access.how))))
any-stepping test of s past p e command number at st =
    ap (list_any test) st.marks ∙ any-placed test of (length (history s past)) (marks_of (call s p command number) at (value_of st.access.how))
    ∙ any-marks test of.remaining (call s p command number) at (value_of st.access.how)

-- a step begins no program
pub plain-stepping : (s : Setup) (past : Past) (p : ℕ) (e : Entry) (command : Command) (number : ℕ) (at : Place) → Stepping s past p e command number at → has starts e ≡ false
plain-stepping s past p e command number at st =
    ap (list_any starts) st.marks ∙ no_start-placed (length (history s past)) (marks_of (call s p command number) at (value_of st.access.how))
    ∙ no_start-marks (call s p command number) at.part (bits_with at.run (value_of st.access.how)) (is_fresh at.run) (is_last (call s p command number) at.part at.run)

-- none passes in a closing
pub any-closing : (test : Mark → Bool) → IsOfLock test → (c : Call) (at : Closing) (flick : Bool) (n : Next) → closing_next c at flick ≡ Some n → list_any test n.marks ≡ false
any-closing test of c at flick n h = go at h
  where
    one : (m : Mark) (b : Bool) → test m ≡ false → list_any test (cond b (m ∷ []) []) ≡ false
    one m true h = either (test m) false h refl
    one m false h = refl

    settles : (begun v b : Bool) (taken : Option Reply) → list_any test (cond b (settled_marks begun taken v) []) ≡ false
    settles begun v true None = either (test (Settled v)) false (of.settled v) refl
    settles begun v true (Some r) = let t : Bool = cond v begun (not begun) in either (test (Settled v)) (list_any test (cond t (Taken 0 r ∷ []) [])) (of.settled v) (one (Taken 0 r) t (of.taken 0 r))
    settles begun v false taken = refl

    of_next : (x : Next) → list_any test x.marks ≡ false → Some x ≡ Some n → list_any test n.marks ≡ false
    of_next x k e = let f : x ≡ n = cc in subst (λ (y : Next). list_any test y.marks ≡ false) f k

    go : (x : Closing) → closing_next c x flick ≡ Some n → list_any test n.marks ≡ false
    go (Withdraws w) h = of_next _ (one (Answered answer.Withdrawn) _ of.withdrawn) h
    go (Settles f bit begun taken is t) h = of_next _ (settles begun _ _ taken) h
    go (Frees is w) h = of_next _ (one Left _ of.remaining) h
    go (Lowers w) h = of_next _ (one Down _ of.down) h
    go Quit h = cc
    go Ended h = cc
