-- Each process's call was given: it is a command, and its number has 16 bits.
use Rattle.std.proofs.Common.{◌≡◌, ℕ, suc, ◌^◌, ◌<◌, ◌==◌, ◌&&◌, Bool, true, false, cond, List, [], ◌∷◌, Option, Some, None, length, refl, sym, ap, subst, ◌∙◌, arith, eqb-true}
use Rattle.std.proofs.lemmas.Bool.{and_parts, eqb-false}
use Rattle.std.proofs.lemmas.Bool.Decides.{nat_tests}
use Rattle.std.specs.Prelude.{nat_lt, nat_le}
use Rattle.std.specs.List.{list_all, list_any}
use Rattle.plain_store.specs.{Setup, is_command}
use Rattle.model.specs.{AreGiven, Call, Entry, Event, Mark, Next, Past, Refusal, added, bits_with, call_number, calls_full, calls_in, entry_made, entry_of, has, history, is_event, is_fresh, is_last, last_command, marks_of, nth, own, past_of, process_of, program, refused_at, since, stage, starts, stepped, value_of}
use Rattle.model.specs.declared.events.Event.TheVariants as event
use Rattle.model.specs.declared.marks.Mark.TheVariants.{Called, Failed, Withdrew, Restarted}
use Rattle.model.specs.declared.refusals.Refusal.TheVariants.{NoProcess, CallsFull}
use Rattle.model.proofs.Local.{calls-plain, command-plain, option_map-some}
use Rattle.model.proofs.OpenSteps.{closing-plain}
use Rattle.model.proofs.Staging.{no_start-marks, no_start-placed}
use Rattle.model.proofs.Width.{IsGood}
use Rattle.model.proofs.World.{entry-accepted}
use Rattle.laws.specs.{Doing, call, doing}
use Rattle.laws.proofs.Frame.{Does, at_rest, lying, running, leaving, settling, Happens, a_call, a_withdrawal, a_failure, a_restart, a_step, a_closing, own-other, own-own}
use Rattle.laws.proofs.FrameEvents.{accepted, does_all}
use Rattle.history_laws.proofs.Sound.{IsGivenTo}

-- the last call of these entries was given
pub record IsGivenCall (s : Setup) (mine : Past) : Type 0 where
  pub command : is_command (last_command mine) ≡ true
  pub number : call_number s mine < 2 ^ 16

-- an entry that begins no program leaves it so
given-plain : (s : Setup) (e : Entry) (mine : Past) → has starts e ≡ false → IsGivenCall s mine → IsGivenCall s (e ∷ mine)
given-plain s e mine plain h = record {
  command = ap is_command (command-plain e mine plain) ∙ h.command;
  number = subst (λ n. cond (s.version == 2) n 0 < 2 ^ 16) (sym (calls-plain e mine plain)) h.number;
}

-- an event that was accepted found room for its call
not-full : (s : Setup) (past : Past) (what : Event) (e : Entry) → entry_of s past what ≡ Some e → calls_full s past what ≡ false
not-full s past what e = go (nat_lt (process_of what) s.processes) (refused_at what (stage (process_of what) past)) (calls_full s past what)
  where
    entered : Bool → Option Refusal → Bool → Option Entry
    entered b r f = elim (cond b (elim r as (λ _. Option Refusal) [ Some x ↦ Some x | None ↦ cond f (Some CallsFull) None ]) (Some NoProcess)) as (λ _. Option Entry) [ Some r ↦ None | None ↦ added s past what ]

    go : (b : Bool) (r : Option Refusal) (f : Bool) → entered b r f ≡ Some e → f ≡ false
    go true None false h = refl
    go _ _ _ h = cc

-- the next number has 16 bits
next-number : (b : Bool) (n : ℕ) → (b && nat_le 65535 n) ≡ false → cond b (suc n) 0 < 2 ^ 16
next-number true n h = grind (arith, nat_tests)
next-number false n h = omega arith

-- a step begins no program
step-plain : (s : Setup) (past : Past) (p : ℕ) (flick : Bool) (e : Entry) (d d' : Doing) → stepped s past p flick ≡ Some e → Happens s past e.process e d d' → has starts e ≡ false
step-plain s past p flick e d d' h happens = go happens
  where
    len : ℕ
    len = length (since starts (own p past))

    made : (n : Next) × (nth len (program s p flick (own p past)) ≡ Some n) × (entry_made s past p flick n ≡ e)
    made = option_map-some (entry_made s past p flick) (nth len (program s p flick (own p past))) e h

    accessed : e.access ≡ None → ⊥
    accessed none = let f : (entry_made s past p flick made.0).access ≡ None = ap (λ (x : Entry). x.access) made.2 ∙ none in cc

    go : Happens s past e.process e d d' → has starts e ≡ false
    go (a_call command number was none marks then) = absurd (accessed none)
    go (a_withdrawal command number t w ws run was none marks then) = absurd (accessed none)
    go (a_failure command number may none marks then) = absurd (accessed none)
    go (a_restart was none marks then) = absurd (accessed none)
    go (a_step command number at a flick was over access is marks then) =
        let c : Call = call s e.process command number in
        ap (list_any starts) marks ∙ no_start-placed (length (history s past)) (marks_of c at (value_of a.how)) ∙ no_start-marks c at.part (bits_with at.run (value_of a.how)) (is_fresh at.run) (is_last c at.part at.run)
    go (a_closing command number at flick n was next access same marks then) =
        ap (list_any starts) marks ∙ no_start-placed (length (history s past)) n.marks ∙ closing-plain (call s e.process command number) at flick n next

-- each accepted entry leaves it so, if what is called is a command
given-entry : (s : Setup) → IsGood s → (events : List Event) (what : Event) (e : Entry) → entry_of s (past_of s events) what ≡ Some e → is_event what ≡ true →
    IsGivenCall s (own (process_of what) (past_of s events)) → IsGivenCall s (e ∷ own (process_of what) (past_of s events))
given-entry s g events what e h is given = go what is (entry-accepted s past what e h).2 (not-full s past what e h) given
  where
    past : Past
    past = past_of s events

    marked : (p : ℕ) (m : Mark) → Some (record { process = p; access = None; marks = m ∷ [] }) ≡ Some e → IsGivenCall s (record { process = p; access = None; marks = m ∷ [] } ∷ own p past) → IsGivenCall s (e ∷ own p past)
    marked p m a one = let same : record { process = p; access = None; marks = m ∷ [] } ≡ e = cc in subst (λ (x : Entry). IsGivenCall s (x ∷ own p past)) same one

    go : (x : Event) → is_event x ≡ true → added s past x ≡ Some e → calls_full s past x ≡ false → IsGivenCall s (own (process_of x) past) → IsGivenCall s (e ∷ own (process_of x) past)
    go (event.Call p command) is a full given = marked p (Called command) a (record { command = is; number = next-number (s.version == 2) (calls_in (own p past)) full })
    go (event.Fail p) is a full given = marked p Failed a (record { command = given.command; number = given.number })
    go (event.Withdraw p) is a full given = marked p Withdrew a (record { command = given.command; number = given.number })
    go (event.Restart p) is a full given = marked p Restarted a (record { command = given.command; number = given.number })
    go (event.Step p flick) is a full given = given-plain s e (own p past) (step-plain s past p flick e (doing s e.process past) (doing s e.process (e ∷ past)) a (accepted s g events what e h).happens) given

-- in every record the last call of each process was given
pub given_calls : (s : Setup) → IsGood s → (events : List Event) → list_all is_event events ≡ true → (p : ℕ) → IsGivenCall s (own p (past_of s events))
given_calls s g [] h p = record { command = refl; number = none (s.version == 2) }
  where
    none : (b : Bool) → cond b 0 0 < 2 ^ 16
    none true = omega arith
    none false = omega arith
given_calls s g (what ∷ events) h p = go (given_calls s g events both.1) (entry_of s past what) refl
  where
    past : Past
    past = past_of s events

    both : (is_event what ≡ true) × (list_all is_event events ≡ true)
    both = and_parts (is_event what) (list_all is_event events) h

    go : ((q : ℕ) → IsGivenCall s (own q past)) → (x : Option Entry) → entry_of s past what ≡ x → IsGivenCall s (own p (elim x as (λ _. Past) [ None ↦ past | Some e ↦ e ∷ past ]))
    go before None h = before p
    go before (Some e) h = at (e.process == p) refl
      where
        is : e.process ≡ process_of what
        is = (accepted s g events what e h).process

        at : (b : Bool) → (e.process == p) ≡ b → IsGivenCall s (own p (e ∷ past))
        at true i =
            let mine : process_of what ≡ p = sym is ∙ eqb-true e.process p i in
            subst (IsGivenCall s) (sym (own-own p e past (eqb-true e.process p i))) (subst (λ q. IsGivenCall s (e ∷ own q past)) mine (given-entry s g events what e h both.0 (before (process_of what))))
        at false i = subst (IsGivenCall s) (sym (own-other p e past (eqb-false e.process p i))) (before p)

-- the state of each process was given
pub given_of : (s : Setup) → IsGood s → (events : List Event) → AreGiven s events → (p : ℕ) → p < s.processes → IsGivenTo (doing s p (past_of s events))
given_of s g events are p below = go (does_all s g events p)
  where
    past : Past
    past = past_of s events

    mine : IsGivenCall s (own p past)
    mine = given_calls s g events are.commands p

    go : Does s p (own p past) (stage p past) (doing s p past) → IsGivenTo (doing s p past)
    go (at_rest i k) = subst IsGivenTo (sym k) tt
    go (lying i k) = subst IsGivenTo (sym k) tt
    go (running command b r k) = subst IsGivenTo (sym k) (mine.command, mine.number)
    go (leaving b i k) = subst IsGivenTo (sym k) (mine.command, mine.number)
    go (settling b i k) = subst IsGivenTo (sym k) (mine.command, mine.number)

-- if the events with one more are given, so are the events before it
pub given_before : (s : Setup) (what : Event) (events : List Event) → AreGiven s (what ∷ events) → AreGiven s events
given_before s what events are = record { opening = are.opening; commands = (and_parts (is_event what) (list_all is_event events) are.commands).1 }
