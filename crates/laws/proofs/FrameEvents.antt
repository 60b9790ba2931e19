-- Every accepted event: what it is for its process, and what every process is doing in every record.
use Rattle.std.proofs.Common.{◌≡◌, ℕ, ◌<◌, ◌==◌, Bool, true, false, cond, List, [], ◌∷◌, Option, Some, None, refl, sym, ap, subst, ◌∙◌, arith, eqb-true}
use Rattle.std.proofs.lemmas.Bool.Decides.{nat_tests}
use Rattle.std.specs.Prelude.{fold, nat_lt}
use Rattle.plain_store.specs.{Command, Setup}
use Rattle.model.specs.{Entry, Event, Part, Past, Place, Stage, Wait, Waits, added, call_number, entry_of, is_running, last_command, own, past_of, process_of, refused_at, stage, stage_after}
use Rattle.model.specs.declared.events.Event.TheVariants as event
use Rattle.model.specs.declared.marks.Mark.TheVariants.{Called, Failed, Withdrew, Restarted}
use Rattle.model.specs.declared.stages.Stage.TheVariants as stages
use Rattle.model.specs.Closings.{Closing, Withdraws, closing_stage}
use Rattle.model.specs.Parts as part
use Rattle.model.proofs.ClosingAccesses.{withdrawn_corresponds}
use Rattle.model.proofs.OpenSteps.{place_at, leaving_at}
use Rattle.model.proofs.NextAccesses.{running_corresponds}
use Rattle.model.proofs.Width.{IsGood}
use Rattle.model.proofs.World.{entry-accepted, entry_view, view, refused-idle}
use Rattle.laws.specs.{Doing, Rests, Lies, Runs, Closes, doing}
use Rattle.laws.proofs.Frame.{Does, at_rest, lying, running, leaving, settling, may_fail, Happens, a_call, a_withdrawal, a_failure, a_restart, Goes, then_doing, running-goes, doing-goes}
use Rattle.laws.proofs.FrameClosings.{leaving-goes, settling-goes}

-- the stage determines the state
rest-of : (s : Setup) (p : ℕ) (mine : Past) (st : Stage) (d : Doing) → Does s p mine st d → st ≡ stages.Idle → d ≡ Rests
rest-of s p mine st d (at_rest i k) h = k
rest-of s p mine st d (lying i k) h = let f : stages.Down ≡ stages.Idle = sym i ∙ h in cc
rest-of s p mine st d (running command b r k) h = let f : false ≡ true = sym (ap is_running h) ∙ r in cc
rest-of s p mine st d (leaving b i k) h = let f : stages.Leaving ≡ stages.Idle = sym i ∙ h in cc
rest-of s p mine st d (settling b i k) h = let f : stages.Settling ≡ stages.Idle = sym i ∙ h in cc

down-of : (s : Setup) (p : ℕ) (mine : Past) (st : Stage) (d : Doing) → Does s p mine st d → st ≡ stages.Down → d ≡ Lies
down-of s p mine st d (at_rest i k) h = let f : stages.Idle ≡ stages.Down = sym i ∙ h in cc
down-of s p mine st d (lying i k) h = k
down-of s p mine st d (running command b r k) h = let f : false ≡ true = sym (ap is_running h) ∙ r in cc
down-of s p mine st d (leaving b i k) h = let f : stages.Leaving ≡ stages.Down = sym i ∙ h in cc
down-of s p mine st d (settling b i k) h = let f : stages.Settling ≡ stages.Down = sym i ∙ h in cc

is-down : (p : ℕ) (st : Stage) → refused_at (event.Restart p) st ≡ None → st ≡ stages.Down
is-down p stages.Idle h = cc
is-down p stages.Doorway h = cc
is-down p stages.Waiting h = cc
is-down p stages.Inside h = cc
is-down p stages.Leaving h = cc
is-down p stages.Settling h = cc
is-down p stages.Down h = refl

pub is-waiting : (p : ℕ) (st : Stage) → refused_at (event.Withdraw p) st ≡ None → st ≡ stages.Waiting
is-waiting p stages.Idle h = cc
is-waiting p stages.Doorway h = cc
is-waiting p stages.Waiting h = refl
is-waiting p _ h = cc

-- a process that waits is at a part D
waits-part : (x : Part) (f : Bool) → part.stage_of x f ≡ stages.Waiting → (t : ℕ) × (w : Wait) × (ws : List Wait) × (x ≡ Waits t w ws)
waits-part part.Raises f h = cc
waits-part (part.Asks j js ts) f h = cc
waits-part (part.TakesTicket t) f h = cc
waits-part (part.Lowers t) f h = cc
waits-part (part.Refuses q) f h = cc
waits-part (part.Waits t w ws) f h = (t, w, ws, refl)
waits-part (part.AsksCommit k ks vs) f h = cc
waits-part (part.AsksStamp k ks vs b) f h = cc
waits-part (part.AsksImage vs) f h = cc
waits-part (part.WritesImage vs st) f h = cc
waits-part (part.WritesStamp vs st) f h = cc
waits-part (part.WritesCommit vs st) f h = cc
waits-part (part.Clears a) true h = cc
waits-part (part.Clears a) false h = cc
waits-part part.Over f h = cc

-- a withdrawal continues, or is over
leaving-fails : (command : Command) (number : ℕ) (x : Closing) → closing_stage x ≡ stages.Leaving → may_fail (Closes command number x) ≡ true
leaving-fails command number (Withdraws w) h = refl
leaving-fails command number _ h = cc

same-place : (x : Place) (q : Part) → x.part ≡ q → x ≡ record { part = q; run = x.run }
same-place x q h = λ i. record { part = h i; run = x.run }

-- the entry of an accepted event
pub event-goes : (s : Setup) → IsGood s → (events : List Event) (what : Event) (e : Entry)
    → let past : Past = past_of s events in
    let p : ℕ = process_of what in
    refused_at what (stage p past) ≡ None → Does s p (own p past) (stage p past) (doing s p past) → added s past what ≡ Some e → Goes s past p e (doing s p past) (then_doing s past p e)
event-goes s g events (event.Call p c) e h does a =
    let past : Past = past_of s events in
    let d : record { process = p; access = None; marks = Called c ∷ [] } ≡ e = cc in
    subst (λ (e : Entry). Goes s past p e (doing s p past) (then_doing s past p e)) d (record {
      happens = a_call c _ (rest-of s p (own p past) (stage p past) (doing s p past) does (refused-idle p c (stage p past) h)) refl refl refl;
      does = running c refl refl refl;
    })
event-goes s g events (event.Fail p) e h does a =
    let past : Past = past_of s events in
    let d : record { process = p; access = None; marks = Failed ∷ [] } ≡ e = cc in
    subst (λ (e : Entry). Goes s past p e (doing s p past) (then_doing s past p e)) d (record {
      happens = a_failure (last_command (own p past)) (call_number s (own p past)) (fails does) refl refl refl;
      does = settling refl refl refl;
    })
  where
    fails : Does s p (own p (past_of s events)) (stage p (past_of s events)) (doing s p (past_of s events)) → may_fail (doing s p (past_of s events)) ≡ true
    fails (at_rest i k) = ap may_fail k
    fails (lying i k) = let f : refused_at (event.Fail p) stages.Down ≡ None = ap (refused_at (event.Fail p)) (sym i) ∙ h in cc
    fails (running command b r k) = ap may_fail k
    fails (leaving b i k) = ap may_fail k ∙ leaving-fails (last_command (own p (past_of s events))) (call_number s (own p (past_of s events))) (leaving_at s p (own p (past_of s events))) (withdrawn_corresponds s g events p b i).0
    fails (settling b i k) = let f : refused_at (event.Fail p) stages.Settling ≡ None = ap (refused_at (event.Fail p)) (sym i) ∙ h in cc
event-goes s g events (event.Withdraw p) e h does a =
    let past : Past = past_of s events in
    let d : record { process = p; access = None; marks = Withdrew ∷ [] } ≡ e = cc in
    subst (λ (e : Entry). Goes s past p e (doing s p past) (then_doing s past p e)) d (record { happens = waits does; does = leaving refl refl refl })
  where
    past : Past
    past = past_of s events

    mine : Past
    mine = own p past

    f : stage p past ≡ stages.Waiting
    f = is-waiting p (stage p past) h

    e' : Entry
    e' = record { process = p; access = None; marks = Withdrew ∷ [] }

    waits : Does s p mine (stage p past) (doing s p past) → Happens s past p e' (doing s p past) (then_doing s past p e')
    waits (at_rest i k) = let q : stages.Waiting ≡ stages.Idle = sym f ∙ i in cc
    waits (lying i k) = let q : stages.Waiting ≡ stages.Down = sym f ∙ i in cc
    waits (running command b r k) =
        let at : Place = place_at s p mine in
        let w = waits-part at.part _ (sym (running_corresponds s g events p command b r).1 ∙ f) in
        a_withdrawal (last_command mine) (call_number s mine) w.0 w.1 w.2 at.run (k ∙ ap (Runs (last_command mine) (call_number s mine)) (same-place at (Waits w.0 w.1 w.2) w.3)) refl refl refl
    waits (leaving b i k) = let q : stages.Waiting ≡ stages.Leaving = sym f ∙ i in cc
    waits (settling b i k) = let q : stages.Waiting ≡ stages.Settling = sym f ∙ i in cc
event-goes s g events (event.Restart p) e h does a =
    let past : Past = past_of s events in
    let d : record { process = p; access = None; marks = Restarted ∷ [] } ≡ e = cc in
    subst (λ (e : Entry). Goes s past p e (doing s p past) (then_doing s past p e)) d (record {
      happens = a_restart (down-of s p (own p past) (stage p past) (doing s p past) does (is-down p (stage p past) h)) refl refl refl;
      does = at_rest refl refl;
    })
event-goes s g events (event.Step p flick) e h does a = go does
  where
    past : Past
    past = past_of s events

    go : Does s p (own p past) (stage p past) (doing s p past) → Goes s past p e (doing s p past) (then_doing s past p e)
    go (at_rest i k) = let f : refused_at (event.Step p flick) stages.Idle ≡ None = ap (refused_at (event.Step p flick)) (sym i) ∙ h in cc
    go (lying i k) = let f : refused_at (event.Step p flick) stages.Down ≡ None = ap (refused_at (event.Step p flick)) (sym i) ∙ h in cc
    go (running command b r k) = running-goes s g events p flick e command b r k a
    go (leaving b i k) = leaving-goes s g events p flick e b i k a
    go (settling b i k) = settling-goes s g events p flick e b i k a

-- in every record the state of each process agrees with its entries
pub does_all : (s : Setup) → IsGood s → (events : List Event) (p : ℕ) → Does s p (own p (past_of s events)) (stage p (past_of s events)) (doing s p (past_of s events))
does_all s g [] p = at_rest refl refl
does_all s g (what ∷ events) p = with_entry (does_all s g events) (entry_of s (past_of s events) what) refl
  where
    past : Past
    past = past_of s events

    with_entry : ((p : ℕ) → Does s p (own p past) (stage p past) (doing s p past)) → (x : Option Entry) → entry_of s past what ≡ x
        → let then : Past = elim x as (λ _. Past) [ None ↦ past | Some e ↦ e ∷ past ] in
        Does s p (own p then) (stage p then) (doing s p then)
    with_entry ih None h = ih p
    with_entry ih (Some e) h = at (e.process == p) refl
      where
        acc : (nat_lt (process_of what) s.processes ≡ true) × (refused_at what (stage (process_of what) past) ≡ None) × (added s past what ≡ Some e)
        acc = entry-accepted s past what e h

        is : e.process ≡ process_of what
        is = (entry_view s g past what e acc.1 (view s g events (process_of what)) acc.2).0

        at : (b : Bool) → (e.process == p) ≡ b → Does s p (cond (e.process == p) (e ∷ own p past) (own p past)) (cond (e.process == p) (fold stage_after (stage p past) e.marks) (stage p past)) (cond (e.process == p) (then_doing s past p e) (doing s p past))
        at true i =
            let P : ℕ → Type 0 = λ q. Does s q (e ∷ own q past) (fold stage_after (stage q past) e.marks) (then_doing s past q e) in
            rw i (subst P (sym is ∙ eqb-true e.process p i) (event-goes s g events what e acc.1 (ih (process_of what)) acc.2).does)
        at false i = rw i (ih p)

-- an accepted event is of a process that exists, and is a step of it
pub record Accepted (s : Setup) (past : Past) (what : Event) (e : Entry) : Type 0 where
  pub process : e.process ≡ process_of what
  pub below : e.process < s.processes
  pub happens : Happens s past e.process e (doing s e.process past) (doing s e.process (e ∷ past))

less : (a b : ℕ) → nat_lt a b ≡ true → a < b
less a b h = grind (arith, nat_tests)

pub accepted : (s : Setup) → IsGood s → (events : List Event) (what : Event) (e : Entry) → entry_of s (past_of s events) what ≡ Some e → Accepted s (past_of s events) what e
accepted s g events what e h = record {
  process = is;
  below = subst (λ p. p < s.processes) (sym is) (less (process_of what) s.processes acc.0);
  happens = subst (λ p. Happens s past p e (doing s p past) (doing s p (e ∷ past))) (sym is)
      (subst (Happens s past (process_of what) e (doing s (process_of what) past)) (sym (doing-goes s (process_of what) e past is))
      (event-goes s g events what e acc.1 (does_all s g events (process_of what)) acc.2).happens);
}
  where
    past : Past
    past = past_of s events

    acc : (nat_lt (process_of what) s.processes ≡ true) × (refused_at what (stage (process_of what) past) ≡ None) × (added s past what ≡ Some e)
    acc = entry-accepted s past what e h

    is : e.process ≡ process_of what
    is = (entry_view s g past what e acc.1 (view s g events (process_of what)) acc.2).0
