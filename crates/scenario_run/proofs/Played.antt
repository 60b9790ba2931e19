-- A line that is being played: what was observed of it, and the turns that are left.
use Rattle.std.proofs.Common.{◌≡◌, inl, inr, ℕ, ◌+◌, ◌-◌, ◌<◌, ◌≤◌, List, [], ◌∷◌, ◌++◌, length, map, Option, None, Some, Result, Ok, Err, IfErr, IfOk, refl, ap, sym, subst, ◌∙◌, arith}
use Rattle.plain_store.specs.{Setup, checked}
use Rattle.model.specs.{AreGiven, Event}
use Rattle.scenario.specs.{Line}
use Rattle.scenario.specs.files.{Fault}
pub use Rattle.scenario.proofs.files.Failing.{on_fault}
use Rattle.scenario_run.specs.{ComesAlong, ComesTo, ScenarioRunState, Follows, Happening, Happens, Plays, Run, Summary, Reports, ReportsOf, TurnReport, Tries, Turn, counted, events_in, events_reported, part_of_line, past_after, past_in, refusals, rest_of, room_wanted, run_after, tried, turn_of, turns_in, turns_made}
use Rattle.scenario_run.specs.declared.reports.TurnReport.TheVariants as reported
use Rattle.scenario_run.proofs.EventsMade.{ended_still, none_made, part_made, quiet_made, quiet_turns_made, turn_turns_made}
use Rattle.scenario_run.proofs.Grows.{Grows, rest_grows}
use Rattle.scenario_run.proofs.Runnings.{rest_quiet}
use Rattle.scenario_run.proofs.Reportings.{counts_more}
use Rattle.scenario_run.proofs.TurnLaw.{rest_whole, turn_on}
use Rattle.scenario_run.proofs.Underways.{Turned, One, Nothing, silent_one, reported_none, reported_one, turned}

-- the setup of the run that a scenario run shows is good, and its events are in range
pub good_of : (s : Setup) (scenario_run : ScenarioRunState) (run : Run) → scenario_run.world.setup ≡ s → Follows scenario_run run → (checked s ≡ Ok tt) × AreGiven s (tried run.happened)
good_of s scenario_run run setup follows = subst (λ s. (checked s ≡ Ok tt) × AreGiven s (tried run.happened)) setup (follows.shows.good, follows.shows.given)

-- the happening of the turn that is reported
record Reports1 (s : Setup) (line : Line) (remaining : ℕ) (now : Run) (answer : TurnReport) : Type 0 where
  this : Happening
  same : (turn_of s line remaining now).run.happened ≡ this ∷ now.happened
  happens : Happens s now.happened this answer

reports_one : (s : Setup) (line : Line) (remaining : ℕ) (now : Run) (answer : TurnReport) (scenario_run : ScenarioRunState) → Reports s (past_in s now) (turn_of s line remaining now).this (Some answer) → Follows scenario_run (turn_of s line remaining now).run → scenario_run.world.setup ≡ s →
    Reports1 s line remaining now answer
reports_one s line remaining now answer scenario_run reports follows setup = by (turned s line remaining now)
  where
    t : Turn
    t = turn_of s line remaining now

    by : Turned t now.happened → Reports1 s line remaining now answer
    by (Nothing none ended same) = absurd (reported_none s (past_in s now) t.this answer none reports)
    by (One this some same) =
        let both = good_of s scenario_run t.run setup follows in
        record {
          this = this;
          same = same;
          happens = record {
            good = both.0;
            given = subst (λ l. AreGiven s (tried l)) same both.1;
            reports = (reported_one s (past_in s now) t.this this answer some reports).0;
            marked = (reported_one s (past_in s now) t.this this answer some reports).1;
          };
        }

-- the first turns of a line were made and observed, and made `made` events
abbrev pub PlaysTurns : {L : Type 0} → (L → Setup → List Happening → List Happening → L → Type 0) → Setup → Line → ℕ → Run → ScenarioRunState → L → L → ℕ → Type 0
PlaysTurns Observes s line most start scenario_run was is made = Plays Observes s start (part_of_line s most line start) scenario_run was is × (events_in s (part_of_line s most line start) ≡ events_in s start + made)

part_played : {L : Type 0} (Observes : L → Setup → List Happening → List Happening → L → Type 0) (s : Setup) (line : Line) (most : ℕ) (start : Run) (scenario_run : ScenarioRunState) (was is : L) (made : ℕ) (now : Run) → now ≡ part_of_line s most line start → Follows scenario_run now → scenario_run.world.setup ≡ s → Observes was s start.happened now.happened is → events_in s now ≡ events_in s start + made → PlaysTurns Observes s line most start scenario_run was is made
part_played Observes s line most start scenario_run was is made now all follows setup observes events =
    (record { follows = subst (λ (r : Run). Follows scenario_run r) all follows; setup = setup; observes = subst (λ (r : Run). Observes was s start.happened r.happened is) all observes }, sym (ap (events_in s) all) ∙ events)

-- a line from a run on: the run now, what was observed, the turns left of the line and above the floor, and the number of events made
pub record Played {L : Type 0} (Observes : L → Setup → List Happening → List Happening → L → Type 0) (s : Setup) (line : Line) (floor : ℕ) (start : Run) (was : L) (scenario_run : ScenarioRunState) (made : ℕ) (is : L) : Type 0 where
  pub now : Run
  pub follows : Follows scenario_run now
  pub setup : scenario_run.world.setup ≡ s
  pub observes : Observes was s start.happened now.happened is
  pub rest : rest_of s line scenario_run.remaining now ≡ run_after s line start
  pub turns : turns_made s line (scenario_run.remaining - floor) scenario_run.remaining now ≡ turns_made s line (turns_in line - floor) (turns_in line) start
  pub events : events_in s now ≡ events_in s start + made

-- a report counts the events that its turn makes
reported_events : (s : Setup) (before : List Happening) (this : Happening) (answer : TurnReport) → ReportsOf s (past_after s before) this answer → length (past_after s (this ∷ before)) ≡ length (past_after s before) + events_reported answer
reported_events s before this answer reports = by answer (counts_more s before this answer (record { events = length (past_after s before); taken = 0; refused = refusals s before }) reports refl refl).0
  where
    by : (answer : TurnReport) → (let had : Summary = record { events = length (past_after s before); taken = 0; refused = refusals s before } in counted answer had).events ≡ length (past_after s (this ∷ before)) → length (past_after s (this ∷ before)) ≡ length (past_after s before) + events_reported answer
    by (reported.Accepted made) is = omega (arith, is)
    by (reported.Refused p refusal) is = omega (arith, is)
    by (reported.Tired p) is = omega (arith, is)
    by (reported.Shown store) is = omega (arith, is)

module _ {L : Type 0} (Observes : L → Setup → List Happening → List Happening → L → Type 0) where
  pub played_start : (s : Setup) (line : Line) (floor : ℕ) (start : Run) (old scenario_run : ScenarioRunState) (a : L) → ((a : L) (s : Setup) (x : List Happening) → Observes a s x x a) → old.world.setup ≡ s → scenario_run ≡ record old { remaining = turns_in line } → Follows old start → Played Observes s line floor start a scenario_run 0 a
  played_start s line floor start old scenario_run a nothing setup begun follows = record {
    now = start;
    follows = subst (λ scenario_run. Follows scenario_run start) (sym begun) (record { shows = follows.shows; flicks = follows.flicks });
    setup = ap (λ (c : ScenarioRunState). c.world.setup) begun ∙ setup;
    observes = nothing a s start.happened;
    rest = ap (λ (c : ScenarioRunState). rest_of s line c.remaining start) begun ∙ rest_whole s line start;
    turns = ap (λ (c : ScenarioRunState). turns_made s line (c.remaining - floor) c.remaining start) begun;
    events = omega arith;
  }

  module _ (s : Setup) (line : Line) (floor : ℕ) (start : Run) (was is : L) (scenario_run : ScenarioRunState) (made : ℕ) (few : scenario_run.remaining ≤ turns_in line) (u : Played Observes s line floor start was scenario_run made is) where
    good : checked s ≡ Ok tt
    good = (good_of s scenario_run u.now u.setup u.follows).0

    -- the run now is the part of the line that is played
    all_of : (most : ℕ) (now : Run) → floor ≡ turns_in line - most → now ≡ turns_made s line (turns_in line - floor) (turns_in line) start → now ≡ part_of_line s most line start
    all_of most now at is = is ∙ ap (λ n. turns_made s line (turns_in line - n) (turns_in line) start) at ∙ part_made s good line most start

    -- no turn above the floor is left
    pub played_floor : (most : ℕ) → floor ≡ turns_in line - most → scenario_run.remaining ≤ floor → PlaysTurns Observes s line most start scenario_run was is made
    played_floor most at low =
        let none : scenario_run.remaining - floor ≡ 0 = omega (arith, low) in
        let all : u.now ≡ part_of_line s most line start = all_of most u.now at (sym (none_made s good line scenario_run.remaining u.now) ∙ ap (λ n. turns_made s line n scenario_run.remaining u.now) (sym none) ∙ u.turns) in
        let events = u.events in
        part_played Observes s line most start scenario_run was is made u.now all u.follows u.setup u.observes events

    module _ (observes_on : (a b c : L) (s : Setup) (x y z : List Happening) → Observes a s x y b → Observes b s y z c → Observes a s x z c) (is' : L) (scenario_run' : ScenarioRunState) (before : ℕ) where
      abbrev pub Comes : Option TurnReport → Type 0
      Comes answer = (run : Run) → Follows scenario_run run → ComesAlong Observes scenario_run.world.setup line scenario_run.remaining run is is' floor before answer scenario_run'

      comes_now : (answer : Option TurnReport) → Comes answer → ComesAlong Observes s line scenario_run.remaining u.now is is' floor before answer scenario_run'
      comes_now answer comes = subst (λ s. ComesAlong Observes s line scenario_run.remaining u.now is is' floor before answer scenario_run') u.setup (comes u.now u.follows)

      -- after a turn, the rest of the line leads to the end of the line
      rest_after : (answer : Option TurnReport) (c : ComesTo Observes s line scenario_run.remaining u.now is is' before answer scenario_run') → rest_of s line (turn_of s line before c.now).remaining (turn_of s line before c.now).run ≡ run_after s line start
      rest_after answer c =
          let q = rest_quiet s line c.quiet scenario_run.remaining u.now before c.now few c.turns in
          sym (q.1 ∙ turn_on s line before c.now q.0) ∙ u.rest

      -- after a turn, the rest of its part leads to the end of the part
      turns_after : (answer : Option TurnReport) → floor < before → (c : ComesTo Observes s line scenario_run.remaining u.now is is' before answer scenario_run') →
          turns_made s line ((turn_of s line before c.now).remaining - floor) (turn_of s line before c.now).remaining (turn_of s line before c.now).run ≡ turns_made s line (turns_in line - floor) (turns_in line) start
      turns_after answer above c =
          let q = quiet_made s good line c.quiet scenario_run.remaining u.now before c.now few c.turns in
          let lower = q.0 in
          sym (quiet_turns_made s good line floor c.quiet scenario_run.remaining u.now before c.now few (omega (arith, above)) c.turns ∙ turn_turns_made s good line floor before c.now (omega (arith, few, lower)) above) ∙ u.turns

      -- the number of events of turns without a mark
      quiet_events : (answer : Option TurnReport) (c : ComesTo Observes s line scenario_run.remaining u.now is is' before answer scenario_run') → events_in s c.now ≡ events_in s start + (made + (scenario_run.remaining - before))
      quiet_events answer c =
          let q = quiet_made s good line c.quiet scenario_run.remaining u.now before c.now few c.turns in
          let lower = q.0 in
          let more = q.1 in
          let events = u.events in
          omega (arith, lower, more, events)

      observed_to : (answer : Option TurnReport) (c : ComesTo Observes s line scenario_run.remaining u.now is is' before answer scenario_run') → Observes was s start.happened c.now.happened is'
      observed_to answer c = observes_on was is is' s start.happened u.now.happened c.now.happened u.observes c.observes

      -- one more turn, which is observed
      pub played_on : (is'' : L) (answer : TurnReport) → Comes (Some answer) →
          ((s : Setup) (before : List Happening) (this : Happening) → Happens s before this answer → Observes is' s before (this ∷ before) is'') → Played Observes s line floor start was scenario_run' (made + (scenario_run.remaining - before) + events_reported answer) is''
      played_on is'' answer comes observed =
          let here = comes_now (Some answer) comes in
          let c = here.1 in
          let one = reports_one s line before c.now answer scenario_run' c.reports c.follows c.setup in
          let t : Turn = turn_of s line before c.now in
          let reported : events_in s t.run ≡ events_in s c.now + events_reported answer = ap (λ h. length (past_after s h)) one.same ∙ reported_events s c.now.happened one.this answer one.happens.reports in
          let quiet = quiet_events (Some answer) c in
          record {
            now = t.run;
            follows = c.follows;
            setup = c.setup;
            observes = subst (λ l. Observes was s start.happened l is'') (sym one.same) (observes_on was is' is'' s start.happened c.now.happened (one.this ∷ c.now.happened) (observed_to (Some answer) c) (observed s c.now.happened one.this one.happens));
            rest = ap (λ n. rest_of s line n t.run) c.remaining_is ∙ rest_after (Some answer) c;
            turns = ap (λ n. turns_made s line (n - floor) n t.run) c.remaining_is ∙ turns_after (Some answer) here.0 c;
            events = omega (arith, reported, quiet);
          }

      -- the end of the part, or of the line
      pub played_ended : (most : ℕ) → floor ≡ turns_in line - most → Comes None → PlaysTurns Observes s line most start scenario_run' was is' (made + (scenario_run.remaining - before))
      played_ended most at comes = by (comes_now None comes)
        where
          by : ComesAlong Observes s line scenario_run.remaining u.now is is' floor before None scenario_run' → PlaysTurns Observes s line most start scenario_run' was is' (made + (scenario_run.remaining - before))
          by (inl d) =
              let q = quiet_made s good line d.quiet scenario_run.remaining u.now floor d.now few d.turns in
              let lower = q.0 in
              let more = q.1 in
              let events = u.events in
              let low = d.before_is in
              let none : floor - floor ≡ 0 = omega arith in
              let turns : d.now ≡ turns_made s line (turns_in line - floor) (turns_in line) start = sym (none_made s good line floor d.now) ∙ ap (λ n. turns_made s line n floor d.now) (sym none) ∙ sym (quiet_turns_made s good line floor d.quiet scenario_run.remaining u.now floor d.now few (omega arith) d.turns) ∙ u.turns in
              part_played Observes s line most start scenario_run' was is' (made + (scenario_run.remaining - before)) d.now (all_of most d.now at turns) d.follows d.setup
              (observes_on was is is' s start.happened u.now.happened d.now.happened u.observes d.observes) (omega (arith, lower, more, events, low))
          by (inr here) = ended (turned s line before c.now)
            where
              c : ComesTo Observes s line scenario_run.remaining u.now is is' before None scenario_run'
              c = here.1

              t : Turn
              t = turn_of s line before c.now

              ended : Turned t c.now.happened → PlaysTurns Observes s line most start scenario_run' was is' (made + (scenario_run.remaining - before))
              ended (One this some same) = absurd (silent_one s (past_in s c.now) t.this this some c.reports)
              ended (Nothing none over same) =
                  let turns : t.run ≡ turns_made s line (turns_in line - floor) (turns_in line) start = sym (ended_still s good line (t.remaining - floor) t.run) ∙ ap (λ n. turns_made s line (t.remaining - floor) n t.run) (sym over) ∙ turns_after None here.0 c in
                  let last : events_in s t.run ≡ events_in s c.now = ap (λ h. length (past_after s h)) same in
                  part_played Observes s line most start scenario_run' was is' (made + (scenario_run.remaining - before)) t.run (all_of most t.run at turns) c.follows c.setup
                  (subst (λ l. Observes was s start.happened l is') (sym same) (observed_to None c)) (last ∙ quiet_events None c)

      module _ (Stops : L → Setup → List Happening → List Happening → Fault → L → Type 0) (stops_on : (a b c : L) (s : Setup) (x y z : List Happening) (fault : Fault) → Observes a s x y b → Stops b s y z fault c → Stops a s x z fault c) (fault : Fault) where
        -- a fault when the observer observes a turn
        pub played_cut : (is'' : L) (answer : TurnReport) → ((a b : L) (s : Setup) (x y more : List Happening) (fault : Fault) → Stops a s x y fault b → Stops a s x (more ++ y) fault b) → Comes (Some answer) →
            ((s : Setup) (before : List Happening) (this : Happening) → Happens s before this answer → Stops is' s before (this ∷ before) fault is'') → Stops was s start.happened (run_after s line start).happened fault is''
        played_cut is'' answer stops_before comes cut =
            let c = (comes_now (Some answer) comes).1 in
            let one = reports_one s line before c.now answer scenario_run' c.reports c.follows c.setup in
            let t : Turn = turn_of s line before c.now in
            let more : Grows t.run.happened (rest_of s line t.remaining t.run).happened = rest_grows s line t.remaining t.run in
            let all : (run_after s line start).happened ≡ more.more ++ (one.this ∷ c.now.happened) = ap (λ (r : Run). r.happened) (sym (rest_after (Some answer) c)) ∙ more.is ∙ ap (λ l. more.more ++ l) one.same in
            subst (λ l. Stops was s start.happened l fault is'') (sym all)
            (stops_on was is' is'' s start.happened c.now.happened (more.more ++ (one.this ∷ c.now.happened)) fault (observed_to (Some answer) c)
            (stops_before is' is'' s c.now.happened (one.this ∷ c.now.happened) more.more fault (cut s c.now.happened one.this one.happens)))

    -- a fault before the turn
    pub played_torn : (is' : L) (Stops : L → Setup → List Happening → List Happening → Fault → L → Type 0) → ((a b c : L) (s : Setup) (x y z : List Happening) (fault : Fault) → Observes a s x y b → Stops b s y z fault c → Stops a s x z fault c) → (fault : Fault) →
        ((run : Run) → Follows scenario_run run → Stops is scenario_run.world.setup run.happened (rest_of scenario_run.world.setup line scenario_run.remaining run).happened fault is') → Stops was s start.happened (run_after s line start).happened fault is'
    played_torn is' Stops stops_on fault cut =
        subst (λ (r : Run). Stops was s start.happened r.happened fault is') u.rest
        (stops_on was is is' s start.happened u.now.happened (rest_of s line scenario_run.remaining u.now).happened fault u.observes
        (subst (λ s. Stops is s u.now.happened (rest_of s line scenario_run.remaining u.now).happened fault is') u.setup (cut u.now u.follows)))

-- a fault before the observer has observed anything
pub unobserved : {L : Type 0} (Stops : L → Setup → List Happening → List Happening → Fault → L → Type 0) (s : Setup) (line : Line) (remaining : ℕ) (run : Run) (a : L) (fault : Fault) → ((a b : L) (s : Setup) (x y more : List Happening) (fault : Fault) → Stops a s x y fault b → Stops a s x (more ++ y) fault b) →
    Stops a s run.happened run.happened fault a → Stops a s run.happened (rest_of s line remaining run).happened fault a
unobserved Stops s line remaining run a fault stops_before cut =
    let more : Grows run.happened (rest_of s line remaining run).happened = rest_grows s line remaining run in
    subst (λ l. Stops a s run.happened l fault a) (sym more.is) (stops_before a a s run.happened run.happened more.more fault cut)

-- the setup of a run that was played is good, and its events are in range
pub played_good : {L : Type 0} {Observes : L → Setup → List Happening → List Happening → L → Type 0} {s : Setup} {before after : Run} {scenario_run : ScenarioRunState} {was is : L} → Plays Observes s before after scenario_run was is → (checked s ≡ Ok tt) × AreGiven s (tried after.happened)
played_good {L} {Observes} {s} {before} {after} {scenario_run} plays = good_of s scenario_run after plays.setup plays.follows

-- Room, and faults that are passed on.

-- a fact that holds anyway holds of a success
pub any_ok : {A E : Type 0} (r : Result A E) (P : Type 0) → P → IfOk r (λ a. P)
any_ok (Ok a) P p = p
any_ok (Err e) P p = tt

-- the room needed after a turn is at most the number of turns left before it
pub wanted_by : {E : Type 0} (r : Result (Option TurnReport) E) (n m : ℕ) → (r ≡ Ok None → m ≡ n) → ((r ≡ Ok None → ⊥) → m ≡ n + 1) → IfOk r (λ reported. room_wanted reported n ≤ m)
wanted_by (Ok None) n m none some = let same = none refl in omega (arith, same)
wanted_by (Ok (Some reported)) n m none some = let more = some (λ no. absurd (cc)) in omega (arith, more)
wanted_by (Err e) n m none some = tt

pub ok_same : {A E : Type 0} (a b : A) → ◌≡◌ {A = Result A E} (Ok a) (Ok b) → a ≡ b
ok_same a b same = cc

-- facts of a result, by its success or its fault
pub where_ok : {A : Type 0} (r : Result A Fault) (P Q : A → Type 0) → IfOk r P → ((a : A) → r ≡ Ok a → P a → Q a) → IfOk r Q
where_ok (Ok a) P Q p f = f a refl p
where_ok (Err x) P Q p f = tt

pub both_err : {A : Type 0} (r : Result A Fault) (P Q : Fault → Type 0) → IfErr r P → IfErr r Q → IfErr r (λ x. P x × Q x)
both_err (Ok a) P Q p q = tt
both_err (Err x) P Q p q = (p, q)

pub where_err : {A : Type 0} (r : Result A Fault) (P Q : Fault → Type 0) → IfErr r P → ((x : Fault) → P x → Q x) → IfErr r Q
where_err (Ok a) P Q p f = tt
where_err (Err x) P Q p f = f x p

-- if only events happen, they are the events that were tried
pub tried_all : (events : List Event) → tried (map Tries events) ≡ events
tried_all [] = refl
tried_all (event ∷ events) = ap (λ l. event ∷ l) (tried_all events)
