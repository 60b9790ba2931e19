-- How many events the turns of a line make: each turn makes one, unless it is the last.
use Rattle.std.proofs.Common.{◌≡◌, inl, inr, ℕ, zero, suc, ◌+◌, ◌-◌, ◌<◌, ◌≤◌, nat_lt, Bool, true, false, List, [], ◌∷◌, ◌++◌, length, Option, None, Some, Ok, is_none, refl, ap, sym, subst, ◌∙◌, arith}
use Rattle.std.specs.Prelude.{◌⊎◌}
use Rattle.std.proofs.lemmas.Bool.{cases_lt}
use Rattle.plain_store.specs.{Setup, checked}
use Rattle.model.specs.{Entry, Event, Past, Refusal, refused, stage}
use Rattle.model.specs.declared.events.Event.TheVariants as event
use Rattle.model.proofs.Accepted.{accepted_adds}
use Rattle.model.proofs.Width.{is_good}
use Rattle.scenario.specs.{Line, Target}
use Rattle.scenario.specs.declared.lines.Line.TheVariants as line
use Rattle.world.specs.choices.{flick_of}
use Rattle.scenario_run.specs.{Happening, IsQuiet, Lacks, QuietTurns, Run, Tries, Turn, after_pick_in, ends, events_in, go_turn, happens, is_there, made_turn, enabled, next_step, on_turn, part_of_line, past_after, past_in, pick_among, rest_of, step_turn, tried, turn_of, turns_in, wander_turn}
use Rattle.scenario_run.specs.Turns.{turns_made}
use Rattle.scenario_run.proofs.Grows.{Grows, rest_grows}
use Rattle.scenario_run.proofs.Enabled.{pick_steps}
use Rattle.scenario_run.proofs.Refusals.{past_kept}
use Rattle.scenario_run.proofs.Reportings.{Quietly, quiet_counts}
use Rattle.scenario_run.proofs.TurnLaw.{rest_none, turn_on}
use Rattle.scenario_run.proofs.Underways.{Nothing, One, Turned, turned}

-- One turn.

-- an event that is not refused
event_adds : (s : Setup) → checked s ≡ Ok tt → (before : List Happening) (event : Event) → refused s (past_after s before) event ≡ None → length (past_after s (Tries event ∷ before)) ≡ length (past_after s before) + 1
event_adds s good before event accepted =
    let past : Past = past_after s before in
    let adds = accepted_adds s (is_good s good) (tried before) event accepted in
    let same : length (past_after s (Tries event ∷ before)) ≡ length (adds.0 ∷ past) = ap (λ (o : Option Entry). length (elim o as (λ _. Past) [ None ↦ past | Some e ↦ e ∷ past ])) adds.1 in
    omega (arith, same)

-- an event that is refused
event_kept : (s : Setup) (before : List Happening) (event : Event) (r : Refusal) → refused s (past_after s before) event ≡ Some r → length (past_after s (Tries event ∷ before)) ≡ length (past_after s before)
event_kept s before event r is = ap (λ (past : Past). length past) (past_kept s (tried before) event r is)

-- a turn makes an event and leaves `remaining` turns, or it is the last of its line
pub data TurnMakes (s : Setup) (remaining : ℕ) (run : Run) (turn : Turn) : Type 0 where
  MakesOne : events_in s turn.run ≡ events_in s run + 1 → turn.remaining ≡ remaining → TurnMakes s remaining run turn
  MakesNone : events_in s turn.run ≡ events_in s run → turn.remaining ≡ 0 → TurnMakes s remaining run turn

makes_fewer : (s : Setup) (remaining : ℕ) (run : Run) (turn : Turn) → TurnMakes s remaining run turn → turn.remaining ≤ remaining
makes_fewer s remaining run turn (MakesOne more is) = omega (arith, is)
makes_fewer s remaining run turn (MakesNone same none) = omega (arith, none)

try_makes : (s : Setup) → checked s ≡ Ok tt → (event : Event) (remaining : ℕ) (run : Run) → suc remaining ≤ 1 → TurnMakes s remaining run (happens (Tries event) remaining run)
try_makes s good event remaining run last = by (refused s (past_in s run) event) refl
  where
    by : (o : Option Refusal) → refused s (past_in s run) event ≡ o → TurnMakes s remaining run (happens (Tries event) remaining run)
    by None is = MakesOne (event_adds s good run.happened event is) refl
    by (Some r) is = MakesNone (event_kept s run.happened event r is) (omega (arith, last))

step_makes : (s : Setup) → checked s ≡ Ok tt → (p remaining : ℕ) (run : Run) → TurnMakes s remaining run (step_turn s p remaining run)
step_makes s good p remaining run = by (refused s (past_in s run) (next_step p run)) refl
  where
    by : (o : Option Refusal) → refused s (past_in s run) (next_step p run) ≡ o → TurnMakes s remaining run (made_turn p (elim (is_none o) as (λ _. ℕ) [ true ↦ remaining | false ↦ 0 ]) run)
    by None is = MakesOne (event_adds s good run.happened (next_step p run) is) refl
    by (Some r) is = MakesNone (event_kept s run.happened (next_step p run) r is) refl

on_makes : (s : Setup) → checked s ≡ Ok tt → (p remaining : ℕ) (run : Run) → TurnMakes s remaining run (on_turn s p remaining run)
on_makes s good p zero run = MakesNone refl refl
on_makes s good p (suc remaining) run = step_makes s good p (suc remaining) run

go_makes : (s : Setup) → checked s ≡ Ok tt → (p : ℕ) (target : Target) (remaining : ℕ) (run : Run) → TurnMakes s remaining run (go_turn s p target remaining run)
go_makes s good p target remaining run = by (nat_lt p s.processes) (is_there target (stage p (past_in s run)))
  where
    by : (b c : Bool) → TurnMakes s remaining run (elim b as (λ _. Turn) [ false ↦ happens (Lacks p) 0 run | true ↦ elim c as (λ _. Turn) [ true ↦ ends run | false ↦ on_turn s p remaining run ] ])
    by false c = MakesNone refl refl
    by true true = MakesNone refl refl
    by true false = on_makes s good p remaining run

wander_makes : (s : Setup) → checked s ≡ Ok tt → (remaining : ℕ) (run : Run) (ps : List ℕ) → enabled s (past_in s run) ≡ ps → TurnMakes s remaining run (wander_turn remaining run ps)
wander_makes s good remaining run [] are = MakesNone refl refl
wander_makes s good remaining run (p ∷ ps) are =
    MakesOne (event_adds s good run.happened (next_step (pick_among (p ∷ ps) run) (after_pick_in run)) (pick_steps s run (p ∷ ps) are (omega arith) (flick_of (after_pick_in run).flicks))) refl

pub turn_makes : (s : Setup) → checked s ≡ Ok tt → (l : Line) (remaining : ℕ) (run : Run) → suc remaining ≤ turns_in l → TurnMakes s remaining run (turn_of s l (suc remaining) run)
turn_makes s good (line.Call p command) remaining run few = try_makes s good (event.Call p command) remaining run few
turn_makes s good (line.Step p n) remaining run few = step_makes s good p remaining run
turn_makes s good (line.Go p target) remaining run few = go_makes s good p target remaining run
turn_makes s good (line.Fail p) remaining run few = try_makes s good (event.Fail p) remaining run few
turn_makes s good (line.Withdraw p) remaining run few = try_makes s good (event.Withdraw p) remaining run few
turn_makes s good (line.Restart p) remaining run few = try_makes s good (event.Restart p) remaining run few
turn_makes s good (line.Flick flick) remaining run few = MakesNone refl refl
turn_makes s good (line.Wander n) remaining run few = wander_makes s good remaining run (enabled s (past_in s run)) refl
turn_makes s good line.Show remaining run few = MakesNone refl (omega (arith, few))

-- Turns without a mark.

-- each of these turns makes an event
module _ (s : Setup) (good : checked s ≡ Ok tt) (l : Line) where
  quiet_makes : (remaining : ℕ) (run : Run) → suc remaining ≤ turns_in l → IsQuiet s (past_in s run) (turn_of s l (suc remaining) run).this → (events_in s (turn_of s l (suc remaining) run).run ≡ events_in s run + 1) × ((turn_of s l (suc remaining) run).remaining ≡ remaining)
  quiet_makes remaining run few quiet = by (turn_makes s good l remaining run few) (turned s l (suc remaining) run)
    where
      t : Turn
      t = turn_of s l (suc remaining) run

      by : TurnMakes s remaining run t → Turned t run.happened → (events_in s t.run ≡ events_in s run + 1) × (t.remaining ≡ remaining)
      by (MakesOne more is) what = (more, is)
      by (MakesNone same none) (Nothing nothing ended at) = let no : IsQuiet s (past_in s run) None = subst (IsQuiet s (past_in s run)) nothing quiet in absurd no
      by (MakesNone same none) (One this is at) =
          let q : Quietly s run.happened this = quiet_counts s run.happened this (subst (IsQuiet s (past_in s run)) is quiet) in
          let then : events_in s t.run ≡ length (past_after s (this ∷ run.happened)) = ap (λ h. length (past_after s h)) at in
          let more = q.events in
          absurd (omega (arith, same, then, more))

  pub quiet_made : (quiet remaining : ℕ) (run : Run) (remaining' : ℕ) (run' : Run) → remaining ≤ turns_in l → QuietTurns s l quiet remaining run remaining' run' → (remaining' + quiet ≡ remaining) × (events_in s run' ≡ events_in s run + quiet)
  quiet_made zero remaining run remaining' run' few (same, at) = let events : events_in s run' ≡ events_in s run = ap (events_in s) at in (omega (arith, same), omega (arith, events))
  quiet_made (suc quiet) zero run remaining' run' few (first, more) = absurd first
  quiet_made (suc quiet) (suc remaining) run remaining' run' few (first, more) =
      let t : Turn = turn_of s l (suc remaining) run in
      let one = quiet_makes remaining run few first in
      let fewer = one.1 in
      let longer = one.0 in
      let rest : (remaining' + quiet ≡ t.remaining) × (events_in s run' ≡ events_in s t.run + quiet) = quiet_made quiet t.remaining t.run remaining' run' (omega (arith, few, fewer)) more in
      let turns = rest.0 in
      let events = rest.1 in
      (omega (arith, turns, fewer), omega (arith, events, longer))

  -- The first n turns of a line.

  -- no turns
  pub none_made : (remaining : ℕ) (run : Run) → turns_made s l 0 remaining run ≡ run
  unfolding turns_made
  none_made remaining run = refl

  -- a line that has ended
  pub ended_still : (n : ℕ) (run : Run) → turns_made s l n 0 run ≡ run
  unfolding turns_made
  ended_still zero run = refl
  ended_still (suc n) run = ended_still n run

  -- all turns that are left
  pub all_made : (n remaining : ℕ) (run : Run) → remaining ≤ n → remaining ≤ turns_in l → turns_made s l n remaining run ≡ rest_of s l remaining run
  unfolding turns_made
  all_made zero zero run all few = sym (rest_none s l run)
  all_made zero (suc remaining) run all few = absurd (omega (arith, all))
  all_made (suc n) zero run all few = ended_still (suc n) run ∙ sym (rest_none s l run)
  all_made (suc n) (suc remaining) run all few =
      let t : Turn = turn_of s l (suc remaining) run in
      let less : t.remaining ≤ remaining = makes_fewer s remaining run t (turn_makes s good l remaining run few) in
      all_made n t.remaining t.run (omega (arith, all, less)) (omega (arith, few, less)) ∙ sym (turn_on s l (suc remaining) run few)

  -- the turns above the floor that `most` turns leave are the first `most` turns
  pub part_made : (most : ℕ) (run : Run) → turns_made s l (turns_in l - (turns_in l - most)) (turns_in l) run ≡ part_of_line s most l run
  part_made most run = by (cases_lt most (turns_in l))
    where
      by : (most < turns_in l) ⊎ (turns_in l ≤ most) → turns_made s l (turns_in l - (turns_in l - most)) (turns_in l) run ≡ turns_made s l most (turns_in l) run
      by (inl less) = let same : turns_in l - (turns_in l - most) ≡ most = omega (arith, less) in ap (λ n. turns_made s l n (turns_in l) run) same
      by (inr more) = all_made (turns_in l - (turns_in l - most)) (turns_in l) run (omega (arith, more)) (omega arith) ∙ sym (all_made most (turns_in l) run more (omega arith))

  -- the turns above a floor, after turns without a mark
  pub quiet_turns_made : (floor quiet remaining : ℕ) (run : Run) (remaining' : ℕ) (run' : Run) → remaining ≤ turns_in l → floor ≤ remaining' → QuietTurns s l quiet remaining run remaining' run' → turns_made s l (remaining - floor) remaining run ≡ turns_made s l (remaining' - floor) remaining' run'
  unfolding turns_made
  quiet_turns_made floor zero remaining run remaining' run' few above (same, at) = λ i. turns_made s l (sym same i - floor) (sym same i) (sym at i)
  quiet_turns_made floor (suc quiet) zero run remaining' run' few above (first, more) = absurd first
  quiet_turns_made floor (suc quiet) (suc remaining) run remaining' run' few above (first, more) =
      let t : Turn = turn_of s l (suc remaining) run in
      let fewer = (quiet_makes remaining run few first).1 in
      let lower = (quiet_made quiet t.remaining t.run remaining' run' (omega (arith, few, fewer)) more).0 in
      let next : suc remaining - floor ≡ suc (t.remaining - floor) = omega (arith, above, lower, fewer) in
      ap (λ n. turns_made s l n (suc remaining) run) next ∙ quiet_turns_made floor quiet t.remaining t.run remaining' run' (omega (arith, few, fewer)) above more

  -- the turns above a floor, after any turn
  pub turn_turns_made : (floor remaining : ℕ) (run : Run) → remaining ≤ turns_in l → floor < remaining → turns_made s l (remaining - floor) remaining run ≡ turns_made s l ((turn_of s l remaining run).remaining - floor) (turn_of s l remaining run).remaining (turn_of s l remaining run).run
  unfolding turns_made
  turn_turns_made floor zero run few above = absurd (omega (arith, above))
  turn_turns_made floor (suc remaining) run few above = ap (λ n. turns_made s l n (suc remaining) run) first ∙ by (turn_makes s good l remaining run few)
    where
      t : Turn
      t = turn_of s l (suc remaining) run

      first : suc remaining - floor ≡ suc (remaining - floor)
      first = omega (arith, above)

      by : TurnMakes s remaining run t → turns_made s l (remaining - floor) t.remaining t.run ≡ turns_made s l (t.remaining - floor) t.remaining t.run
      by (MakesOne more is) = ap (λ n. turns_made s l (n - floor) t.remaining t.run) (sym is)
      by (MakesNone same none) = ap (λ n. turns_made s l (remaining - floor) n t.run) none ∙ ended_still (remaining - floor) t.run ∙ sym (ended_still (t.remaining - floor) t.run) ∙ ap (λ n. turns_made s l (t.remaining - floor) n t.run) (sym none)

  -- The first events of the line.

  -- n turns make n events, unless all turns are made
  pub record FrontMade (n : ℕ) (run now whole : Run) : Type 0 where
    pub more : List Happening
    pub is : whole.happened ≡ more ++ now.happened
    pub most : events_in s now ≤ events_in s run + n
    pub least : events_in s run ≤ events_in s now
    pub ends : (events_in s run + n ≤ events_in s now) ⊎ (whole ≡ now)

  pub front_made : (n remaining : ℕ) (run : Run) → remaining ≤ turns_in l → FrontMade n run (turns_made s l n remaining run) (rest_of s l remaining run)
  unfolding turns_made
  front_made zero remaining run few =
      let grows : Grows run.happened (rest_of s l remaining run).happened = rest_grows s l remaining run in
      record { more = grows.more; is = grows.is; most = omega arith; least = omega arith; ends = inl (omega arith) }
  front_made (suc n) zero run few =
      let all : turns_made s l (suc n) 0 run ≡ run = ended_still (suc n) run in
      let same : events_in s (turns_made s l (suc n) 0 run) ≡ events_in s run = ap (events_in s) all in
      record { more = []; is = ap (λ (r : Run). r.happened) (rest_none s l run ∙ sym all); most = omega (arith, same); least = omega (arith, same); ends = inr (rest_none s l run ∙ sym all) }
  front_made (suc n) (suc remaining) run few = by (turn_makes s good l remaining run few) (front_made n t.remaining t.run)
    where
      t : Turn
      t = turn_of s l (suc remaining) run

      now : Run
      now = turns_made s l n t.remaining t.run

      rest : rest_of s l (suc remaining) run ≡ rest_of s l t.remaining t.run
      rest = turn_on s l (suc remaining) run few

      by : TurnMakes s remaining run t → (t.remaining ≤ turns_in l → FrontMade n t.run now (rest_of s l t.remaining t.run)) → FrontMade (suc n) run now (rest_of s l (suc remaining) run)
      by (MakesOne more is) front =
          let f : FrontMade n t.run now (rest_of s l t.remaining t.run) = front (omega (arith, few, is)) in
          let most = f.most in
          let least = f.least in
          record {
            more = f.more;
            is = ap (λ (r : Run). r.happened) rest ∙ f.is;
            most = omega (arith, most, more);
            least = omega (arith, least, more);
            ends = elim f.ends [ inl many ↦ inl (omega (arith, many, more)) | inr all ↦ inr (rest ∙ all) ];
          }
      by (MakesNone same none) front =
          let at : now ≡ t.run = ap (λ m. turns_made s l n m t.run) none ∙ ended_still n t.run in
          let all : rest_of s l (suc remaining) run ≡ now = rest ∙ ap (λ m. rest_of s l m t.run) none ∙ rest_none s l t.run ∙ sym at in
          let events : events_in s now ≡ events_in s t.run = ap (events_in s) at in
          record { more = []; is = ap (λ (r : Run). r.happened) all; most = omega (arith, events, same); least = omega (arith, events, same); ends = inr all }
