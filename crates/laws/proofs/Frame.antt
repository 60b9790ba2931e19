-- The state of each process agrees with the look-backs of its entries. One accepted event is a step of its process.
use Rattle.std.proofs.Common.{◌≡◌, ◌≢◌, ℕ, suc, ◌==◌, Bool, true, false, cond, List, [], ◌∷◌, Some, None, length, map, refl, sym, ap, ◌∙◌, eq-eqb, ne_eqb}
use Rattle.std.specs.Prelude.{fold}
use Rattle.model.specs.safe_bit.{read_value}
use Rattle.model.specs.{Access, Call, Closing, Entry, Event, Next, Part, Past, Place, Raises, Run, Stage, Wait, Waits, Withdraws, access_at, accesses_of, call_number, closing_after, closing_next, ended_with, enter, entry_at, failing, has, history, is_over, is_running, last_call, last_command, last_start, marks_of, moves_of, opening_bit, own, past_of, place_after, place_of, placed, since, stage, stage_after, stage_of, start_in, starts, stepped, value_of, valued, withdrawing}
use Rattle.plain_store.specs.{Command, Setup}
use Rattle.model.specs.declared.marks.Mark.TheVariants.{Called, Failed, Withdrew, Restarted}
use Rattle.model.specs.declared.stages.Stage.TheVariants as stages
use Rattle.model.specs.Parts as part
use Rattle.model.proofs.Follow.{Spot, moved_on}
use Rattle.model.proofs.Local.{Running, start-plain, since-plain, call-plain, command-plain, calls-plain, running_steps, over-idle, stage-moved}
use Rattle.model.proofs.Marking.{spot_marks}
use Rattle.model.proofs.OpenSteps.{place_at, leaving_at, failing_at}
use Rattle.model.proofs.Staging.{stage-placed, no_start}
use Rattle.model.proofs.NextAccesses.{at_place, running_next}
use Rattle.model.proofs.Ties.{Tied, tied-on, tied-marks, end-with}
use Rattle.model.proofs.Width.{IsGood}
use Rattle.laws.specs.{Doing, Rests, Lies, Runs, Closes, call, runs, closes, goes_on, does_after, doing}
use Rattle.laws.proofs.Notes.{notes, notes_after}

-- an entry of another process changes nothing of what q does, has noted, or has entered
pub own-other : (q : ℕ) (e : Entry) (past : Past) → e.process ≢ q → own q (e ∷ past) ≡ own q past
own-other q e past h = ap (λ b. cond b (e ∷ own q past) (own q past)) (ne_eqb e.process q h)

pub doing-other : (s : Setup) (q : ℕ) (e : Entry) (past : Past) → e.process ≢ q → doing s q (e ∷ past) ≡ doing s q past
doing-other s q e past h = ap (λ b. cond b (does_after s q (own q past) e (start_in e.marks) (doing s q past)) (doing s q past)) (ne_eqb e.process q h)

pub notes-other : (s : Setup) (q : ℕ) (e : Entry) (past : Past) → e.process ≢ q → notes s q (e ∷ past) ≡ notes s q past
notes-other s q e past h = ap (λ b. cond b (notes_after s q (suc (length past)) e.access (doing s q past) (notes s q past)) (notes s q past)) (ne_eqb e.process q h)

-- an entry of the process itself is added
pub own-own : (q : ℕ) (e : Entry) (past : Past) → e.process ≡ q → own q (e ∷ past) ≡ e ∷ own q past
own-own q e past h = ap (λ b. cond b (e ∷ own q past) (own q past)) (eq-eqb e.process q h)

pub doing-goes : (s : Setup) (q : ℕ) (e : Entry) (past : Past) → e.process ≡ q → doing s q (e ∷ past) ≡ does_after s q (own q past) e (start_in e.marks) (doing s q past)
doing-goes s q e past h = ap (λ b. cond b (does_after s q (own q past) e (start_in e.marks) (doing s q past)) (doing s q past)) (eq-eqb e.process q h)

pub notes-goes : (s : Setup) (q : ℕ) (e : Entry) (past : Past) → e.process ≡ q → notes s q (e ∷ past) ≡ notes_after s q (suc (length past)) e.access (doing s q past) (notes s q past)
notes-goes s q e past h = ap (λ b. cond b (notes_after s q (suc (length past)) e.access (doing s q past) (notes s q past)) (notes s q past)) (eq-eqb e.process q h)

-- the state of p agrees with the look-backs of its own entries
pub data Does (s : Setup) (p : ℕ) (mine : Past) (st : Stage) (d : Doing) : Type 0 where
  at_rest : st ≡ stages.Idle → d ≡ Rests → Does s p mine st d
  lying : st ≡ stages.Down → d ≡ Lies → Does s p mine st d
  running : (command : Command) → last_start mine ≡ Some (Called command) → is_running st ≡ true → d ≡ Runs (last_command mine) (call_number s mine) (place_at s p mine) → Does s p mine st d
  leaving : last_start mine ≡ Some Withdrew → st ≡ stages.Leaving → d ≡ Closes (last_command mine) (call_number s mine) (leaving_at s p mine) → Does s p mine st d
  settling : last_start mine ≡ Some Failed → st ≡ stages.Settling → d ≡ Closes (last_command mine) (call_number s mine) (failing_at s p mine) → Does s p mine st d

-- whether it may fail
abbrev pub may_fail : Doing → Bool
may_fail Rests = true
may_fail Lies = false
may_fail (Runs command number at) = true
may_fail (Closes command number (Withdraws w)) = true
may_fail (Closes command number _) = false

-- One accepted event for its process p, with its marks.
pub data Happens (s : Setup) (past : Past) (p : ℕ) (e : Entry) (d d' : Doing) : Type 0 where
  a_call : (command : Command) (number : ℕ) → d ≡ Rests → e.access ≡ None → e.marks ≡ Called command ∷ [] → d' ≡ Runs command number (enter (call s p command number) Raises) → Happens s past p e d d'
  a_withdrawal : (command : Command) (number t : ℕ) (w : Wait) (ws : List Wait) (run : Run) → d ≡ Runs command number (record { part = Waits t w ws; run = run }) → e.access ≡ None → e.marks ≡ Withdrew ∷ [] →
      d' ≡ Closes command number (withdrawing (call s p command number)) → Happens s past p e d d'
  a_failure : (command : Command) (number : ℕ) → may_fail d ≡ true → e.access ≡ None → e.marks ≡ Failed ∷ [] → d' ≡ Closes command number (failing (call s p command number) (own p past)) → Happens s past p e d d'
  a_restart : d ≡ Lies → e.access ≡ None → e.marks ≡ Restarted ∷ [] → d' ≡ Rests → Happens s past p e d d'
  a_step : (command : Command) (number : ℕ) (at : Place) (a : Access) (flick : Bool) → d ≡ Runs command number at → is_over at.part ≡ false → e.access ≡ Some a →
      a ≡ valued s past flick (access_at (call s p command number) at.part at.run) → e.marks ≡ map (placed (length (history s past))) (marks_of (call s p command number) at (value_of a.how)) →
      d' ≡ runs command number (place_after (call s p command number) at (value_of a.how)) → Happens s past p e d d'
  a_closing : (command : Command) (number : ℕ) (at : Closing) (flick : Bool) (n : Next) → d ≡ Closes command number at → closing_next (call s p command number) at flick ≡ Some n →
      e.access ≡ Some n.access → ended_with (read_value (opening_bit s n.access) (moves_of n.access past) flick) n.access ≡ n.access → e.marks ≡ map (placed (length (history s past))) n.marks →
      d' ≡ closes command number (closing_after (call s p command number) at flick) → Happens s past p e d d'

-- an accepted event of p
pub record Goes (s : Setup) (past : Past) (p : ℕ) (e : Entry) (d d' : Doing) : Type 0 where
  pub happens : Happens s past p e d d'
  pub does : Does s p (e ∷ own p past) (fold stage_after (stage p past) e.marks) d'

-- the state of p after an entry of its own
abbrev pub then_doing : Setup → Past → ℕ → Entry → Doing
then_doing s past p e = does_after s p (own p past) e (start_in e.marks) (doing s p past)

-- a part that is not over is that of a process that runs
is_running-part : (part : Part) (fresh : Bool) → is_over part ≡ false → is_running (stage_of part fresh) ≡ true
is_running-part part.Over fresh o = cc
is_running-part (part.Clears a) true o = refl
is_running-part (part.Clears a) false o = refl
is_running-part _ fresh o = refl

-- a step of a process that runs its call
pub running-goes : (s : Setup) → IsGood s → (events : List Event) (p : ℕ) (flick : Bool) (e : Entry) (command : Command)
    → let past : Past = past_of s events in
    let mine : Past = own p past in
    last_start mine ≡ Some (Called command) → is_running (stage p past) ≡ true → doing s p past ≡ Runs (last_command mine) (call_number s mine) (place_at s p mine) →
    stepped s past p flick ≡ Some e → Goes s past p e (doing s p past) (then_doing s past p e)
running-goes s g events p flick e command b run does h = record {
  happens = a_step (last_command mine) (call_number s mine) at y flick does o access refl (ap (λ (e : Entry). e.marks) (sym is)) d';
  does = go (is_over spot.part) refl;
}
  where
    past : Past
    past = past_of s events

    mine : Past
    mine = own p past

    c : Call
    c = last_call s p mine

    at : Place
    at = place_at s p mine

    r : Running s p mine (stage p past)
    r = at_place s g events p command b run

    x : Access
    x = access_at c at.part at.run

    v : Bool
    v = read_value (opening_bit s x) (moves_of x past) flick

    y : Access
    y = ended_with v x

    to : Place
    to = place_after c at (value_of y.how)

    is : entry_at s past p flick c at ≡ e
    is = let f : Some (entry_at s past p flick c at) ≡ Some e = sym (running_next s g p past (stage p past) flick r) ∙ h in cc

    access : e.access ≡ Some y
    access = ap (λ (e : Entry). e.access) (sym is)

    plain : has starts e ≡ false
    plain = (running_steps s g p past (stage p past) flick r e h).0

    o : is_over at.part ≡ false
    o = ap is_over (sym r.tied.part) ∙ r.not_over

    d' : then_doing s past p e ≡ runs (last_command mine) (call_number s mine) to
    d' = ap (λ m. does_after s p mine e m (doing s p past)) (no_start e.marks plain) ∙ ap (λ a. goes_on s p e a (doing s p past)) access ∙ ap (goes_on s p e (Some y)) does

    accesses : accesses_of (since starts (e ∷ mine)) ≡ y ∷ accesses_of (since starts mine)
    accesses = ap accesses_of (since-plain e mine plain) ∙ ap (λ o. elim o as (λ _. List Access) [ None ↦ accesses_of (since starts mine) | Some b ↦ b ∷ accesses_of (since starts mine) ]) access

    place : place_at s p (e ∷ mine) ≡ to
    place = ap (λ d. place_of d (accesses_of (since starts (e ∷ mine)))) (call-plain s p e mine plain) ∙ ap (place_of c) accesses

    spot : Spot
    spot = moved_on c r.at y

    tied : Tied c to spot
    tied = tied-on c g at r.at v y o r.tied refl

    marks : spot_marks c r.at y ≡ marks_of c at (value_of y.how)
    marks = ap (spot_marks c r.at) (end-with v x) ∙ tied-marks c g at r.at (value_of y.how) o r.tied

    st : fold stage_after (stage p past) e.marks ≡ stage_of spot.part (spot.made == 0)
    st = ap (λ (e : Entry). fold stage_after (stage p past) e.marks) (sym is)
        ∙ stage-placed (length (history s past)) (stage p past) (marks_of c at (value_of y.how))
        ∙ ap (fold stage_after (stage p past)) (sym marks)
        ∙ ap (λ u. fold stage_after u (spot_marks c r.at y)) r.stage ∙ stage-moved c r.at y

    over : (q : Bool) → is_over spot.part ≡ q → then_doing s past p e ≡ cond q Rests (Runs (last_command mine) (call_number s mine) to)
    over q k = d' ∙ ap (λ b. cond b Rests (Runs (last_command mine) (call_number s mine) to)) (ap is_over (sym tied.part) ∙ k)

    go : (q : Bool) → is_over spot.part ≡ q → Does s p (e ∷ mine) (fold stage_after (stage p past) e.marks) (then_doing s past p e)
    go true q = at_rest (st ∙ over-idle spot.part (spot.made == 0) q) (over true q)
    go false q = running command (start-plain e mine plain ∙ b) (ap is_running st ∙ is_running-part spot.part (spot.made == 0) q)
        (over false q ∙ sym (λ i. Runs (command-plain e mine plain i) (cond (s.version == 2) (calls-plain e mine plain i) 0) (place i)))
