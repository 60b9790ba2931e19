-- One turn of a scenario run, by the result of the world.
use Rattle.std.proofs.Common.{◌≡◌, ℕ, zero, suc, arith, ◌-◌, ◌<◌, ◌≤◌, Bool, true, false, nat_lt, cond, length, List, [], ◌∷◌, IfOk, Result, Ok, Err, Option, None, Some, option_map, refl, ap, sym, subst, ◌∙◌, inl, inr}
use Rattle.std.proofs.lemmas.Bool.Decides.{nat_tests}
use Rattle.std.specs.declared.alloc.AllocError.{AllocError}
use Rattle.plain_store.specs.{Setup}
use Rattle.model.specs.{Access, Entry, Event, Mark, Past, Refusal, Stage, Taken, added, entry_of, history, is_at_work, is_event, marked, moves_of, past_of, process_of, refused, stage}
use Rattle.model.specs.declared.refusals.Refusal.TheVariants.{NoProcess, Memory}
use Rattle.model.specs.declared.events.Event.TheVariants as event
use Rattle.scenario.specs.{Line, Target}
use Rattle.scenario.specs.declared.lines.Line.TheVariants as line
use Rattle.world.specs.process.{act_of}
use Rattle.world.specs.{Adds, GoesOn, IsTurnedAway, ends_overlapped, ends_overlapped_read, entry_with, stage_in}
use Rattle.world.specs.choices.{Flick, FlickState, after_set}
use Rattle.world.specs.Shows.{Shows, WorldState}
use Rattle.scenario_run.specs.{Accepted, ScenarioRunState, Follows, IsMarked, Lacks, Looks, Makes, Run, ReportsOf, TurnReport, Tries, Turn, scenario_run, ends, entry_made, go_turn, happens, is_step, is_there, next_turn, on_turn, past_in, tried, turn_of}
use Rattle.scenario_run.specs.declared.reports.TurnReport.TheVariants as reported
use Rattle.scenario_run.proofs.Refusals.{shows_refused}

-- the world keeps as many commands as were taken before an event
pub place_is : (w : WorldState) (events : List Event) (taken : List Taken) (place : ℕ) → Shows w events → taken ≡ history w.setup (past_of w.setup events) → place ≡ length taken → length w.history ≡ place
place_is w events taken place shows are is = ap (λ (w : WorldState). length w.history) shows.shown ∙ ap length (sym are) ∙ sym is

-- an event other than a Step has a mark
one_marked : (p : ℕ) (mark : Mark) (e : Entry) → marked p mark ≡ Some e → e.marks ≡ [] → ⊥
one_marked p mark e is none = let same : Some (mark ∷ []) ≡ Some e.marks = ap (option_map (λ (e : Entry). e.marks)) is in absurd (cc)

added_marked : (s : Setup) (past : Past) (event : Event) (e : Entry) → is_step event ≡ false → added s past event ≡ Some e → e.marks ≡ [] → ⊥
added_marked s past (event.Call p c) e still is none = one_marked p _ e is none
added_marked s past (event.Step p flick) e still is none = absurd (cc)
added_marked s past (event.Fail p) e still is none = one_marked p _ e is none
added_marked s past (event.Withdraw p) e still is none = one_marked p _ e is none
added_marked s past (event.Restart p) e still is none = one_marked p _ e is none

event_marked : (s : Setup) (past : Past) (event : Event) (e : Entry) → is_step event ≡ false → entry_of s past event ≡ Some e → e.marks ≡ [] → ⊥
event_marked s past event e still is none = by (refused s past event) is
  where
    by : (o : Option Refusal) → (elim o as (λ _. Option Entry) [ Some r ↦ None | None ↦ added s past event ]) ≡ Some e → ⊥
    by (Some r) is = absurd (cc)
    by None is = added_marked s past event e still is none

-- it makes no access, so it does not end a read
one_unread : (p : ℕ) (mark : Mark) (past : Past) (e : Entry) → marked p mark ≡ Some e → false ≡ ends_overlapped_read past e
one_unread p mark past e is = let same : Some None ≡ Some e.access = ap (option_map (λ (e : Entry). e.access)) is in let none : None ≡ e.access = cc in ap (λ (o : Option Access). elim o as (λ _. Bool) [ None ↦ false | Some a ↦ ends_overlapped (moves_of a past) a.how ]) none

added_unread : (s : Setup) (past : Past) (event : Event) (e : Entry) → is_step event ≡ false → added s past event ≡ Some e → false ≡ ends_overlapped_read past e
added_unread s past (event.Call p c) e still is = one_unread p _ past e is
added_unread s past (event.Step p flick) e still is = absurd (cc)
added_unread s past (event.Fail p) e still is = one_unread p _ past e is
added_unread s past (event.Withdraw p) e still is = one_unread p _ past e is
added_unread s past (event.Restart p) e still is = one_unread p _ past e is

event_unread : (s : Setup) (past : Past) (event : Event) (e : Entry) → is_step event ≡ false → entry_of s past event ≡ Some e → false ≡ ends_overlapped_read past e
event_unread s past event e still is = by (refused s past event) is
  where
    by : (o : Option Refusal) → (elim o as (λ _. Option Entry) [ Some r ↦ None | None ↦ added s past event ]) ≡ Some e → false ≡ ends_overlapped_read past e
    by (Some r) is = absurd (cc)
    by None is = added_unread s past event e still is

-- an event that is accepted
pub event_accepted : (w w' : WorldState) (flicks : FlickState) (remaining : ℕ) (made : Accepted) (taken : List Taken) → ((events : List Event) → Shows w events → taken ≡ history w.setup (past_of w.setup events)) → made.place ≡ length taken →
    Adds w made.event (process_of made.event) (act_of (length w.history) (record { access = made.access; effect = made.effect })) → GoesOn w made.event w' → w'.setup ≡ w.setup → is_step made.event ≡ false → made.overlapped ≡ false →
    (run : Run) → Follows (scenario_run w flicks remaining) run → Makes (scenario_run w flicks remaining) run (happens (Tries made.event) (remaining - 1) run) (Some (reported.Accepted made)) (scenario_run w' flicks (remaining - 1))
event_accepted w w' flicks remaining made taken taken_is place_at adds on same still unread run follows =
    let at : length w.history ≡ made.place = place_is w (tried run.happened) taken made.place follows.shows (taken_is (tried run.happened) follows.shows) place_at in
    let family : ℕ → Type 0 = λ n. entry_of w.setup (past_in w.setup run) made.event ≡ Some (entry_with (process_of made.event) (act_of n (record { access = made.access; effect = made.effect }))) in
    let entry : family made.place = subst family at (adds (tried run.happened) follows.shows) in
    record {
      reports = ((refl, entry, unread ∙ event_unread w.setup (past_in w.setup run) made.event (entry_made made) still entry), event_marked w.setup (past_in w.setup run) made.event _ still entry);
      follows = record { shows = on (tried run.happened) follows.shows; flicks = follows.flicks };
      remaining = refl;
      setup = same;
    }

-- an event that is refused
pub event_refused : (w w' : WorldState) (flicks : FlickState) (remaining p : ℕ) (event : Event) (r : Refusal) → p ≡ process_of event → is_event event ≡ true → IsTurnedAway w event r → (r ≡ Memory → ⊥) → w' ≡ w →
    (run : Run) → Follows (scenario_run w flicks remaining) run → Makes (scenario_run w flicks remaining) run (happens (Tries event) (remaining - 1) run) (Some (reported.Refused p r)) (scenario_run w' flicks (remaining - 1))
event_refused w w' flicks remaining p event r is given (inr away) other same run follows = absurd (other away.1)
event_refused w w' flicks remaining p event r is given (inl away) other same run follows =
    let why : refused w.setup (past_of w.setup (tried run.happened)) event ≡ Some r = away (tried run.happened) follows.shows in
    record {
      reports = ((is, why), tt);
      follows = record {
        shows = subst (λ (w : WorldState). Shows w (event ∷ tried run.happened)) (sym same) (shows_refused w (tried run.happened) event r follows.shows given why);
        flicks = follows.flicks;
      };
      remaining = refl;
      setup = ap (λ (w : WorldState). w.setup) same;
    }

-- an event that is refused, where the refusal is reported
pub event_refused_by : (w w' : WorldState) (flicks : FlickState) (remaining p : ℕ) (event : Event) (r : Refusal) (result : Result (Option TurnReport) AllocError) → p ≡ process_of event → is_event event ≡ true → IsTurnedAway w event r → w' ≡ w →
    IfOk result (λ answer. (answer ≡ Some (reported.Refused p r)) × (r ≡ Memory → ⊥)) →
    IfOk result (λ answer. (run : Run) → Follows (scenario_run w flicks remaining) run → Makes (scenario_run w flicks remaining) run (happens (Tries event) (remaining - 1) run) answer (scenario_run w' flicks (remaining - 1)))
event_refused_by w w' flicks remaining p event r (Err e) is given away same answered = tt
event_refused_by w w' flicks remaining p event r (Ok answer) is given away same answered =
    let family : Option TurnReport → Type 0 = λ answer. (run : Run) → Follows (scenario_run w flicks remaining) run → Makes (scenario_run w flicks remaining) run (happens (Tries event) (remaining - 1) run) answer (scenario_run w' flicks (remaining - 1)) in
    subst family (sym answered.0) (event_refused w w' flicks remaining p event r is given away answered.1 same)

-- a process that does not exist
pub beyond_reported : (w : WorldState) (p : ℕ) (events : List Event) → Shows w events → stage_in w.setup (past_of w.setup events) p ≡ None → nat_lt p w.setup.processes ≡ false
beyond_reported w p events shows none = by (nat_lt p w.setup.processes) refl
  where
    by : (b : Bool) → nat_lt p w.setup.processes ≡ b → nat_lt p w.setup.processes ≡ false
    by false h = h
    by true h =
        let no : Some (stage p (past_of w.setup events)) ≡ None = sym (ap (λ b. cond b (Some (stage p (past_of w.setup events))) None) h) ∙ none in absurd (cc)

-- a process that exists, and its stage
pub stage_reported : (w : WorldState) (p : ℕ) (at : Stage) (events : List Event) → Shows w events → stage_in w.setup (past_of w.setup events) p ≡ Some at → (nat_lt p w.setup.processes ≡ true) × (stage p (past_of w.setup events) ≡ at)
stage_reported w p at events shows some = by (nat_lt p w.setup.processes) refl
  where
    by : (b : Bool) → nat_lt p w.setup.processes ≡ b → (nat_lt p w.setup.processes ≡ true) × (stage p (past_of w.setup events) ≡ at)
    by false h = let no : None ≡ Some at = sym (ap (λ b. cond b (Some (stage p (past_of w.setup events))) None) h) ∙ some in absurd (cc)
    by true h = let same : Some (stage p (past_of w.setup events)) ≡ Some at = sym (ap (λ b. cond b (Some (stage p (past_of w.setup events))) None) h) ∙ some in (h, (cc))

-- `go` of a process that does not exist
pub go_lacks : (w : WorldState) (flicks : FlickState) (had remaining p : ℕ) (target : Target) → ((events : List Event) → Shows w events → None ≡ stage_in w.setup (past_of w.setup events) p) →
    (run : Run) → Follows (scenario_run w flicks had) run → Makes (scenario_run w flicks had) run (go_turn w.setup p target remaining run) (Some (reported.Refused p NoProcess)) (scenario_run w flicks 0)
go_lacks w flicks had remaining p target none run follows =
    let no : nat_lt p w.setup.processes ≡ false = beyond_reported w p (tried run.happened) follows.shows (sym (none (tried run.happened) follows.shows)) in
    subst (λ b. Makes (scenario_run w flicks had) run (elim b as (λ _. Turn) [ false ↦ happens (Lacks p) 0 run | true ↦ elim (is_there target (stage p (past_in w.setup run))) [ true ↦ ends run | false ↦ on_turn w.setup p remaining run ] ]) (Some (reported.Refused p NoProcess)) (scenario_run w flicks 0))
    (sym no) (record { reports = ((refl, refl), tt); follows = record { shows = follows.shows; flicks = follows.flicks }; remaining = refl; setup = refl })

-- if the process exists, the turn depends on whether it is at its target
pub go_turn_there : (w : WorldState) (remaining p : ℕ) (target : Target) (at : Stage) (b : Bool) → is_there target at ≡ b → ((events : List Event) → Shows w events → Some at ≡ stage_in w.setup (past_of w.setup events) p) → (run : Run) → Shows w (tried run.happened) →
    go_turn w.setup p target remaining run ≡ (elim b as (λ _. Turn) [ true ↦ ends run | false ↦ on_turn w.setup p remaining run ])
go_turn_there w remaining p target at b is some run shows =
    let there : (nat_lt p w.setup.processes ≡ true) × (stage p (past_in w.setup run) ≡ at) = stage_reported w p at (tried run.happened) shows (sym (some (tried run.happened) shows)) in
    ap (λ b. elim b as (λ _. Turn) [ false ↦ happens (Lacks p) 0 run | true ↦ elim (is_there target (stage p (past_in w.setup run))) [ true ↦ ends run | false ↦ on_turn w.setup p remaining run ] ]) there.0
    ∙ ap (λ b. elim b as (λ _. Turn) [ true ↦ ends run | false ↦ on_turn w.setup p remaining run ]) (ap (is_there target) there.1 ∙ is)

-- `go` of a process that is at its target
pub go_ends : (w : WorldState) (flicks : FlickState) (had remaining p : ℕ) (target : Target) (at : Stage) → is_there target at ≡ true → ((events : List Event) → Shows w events → Some at ≡ stage_in w.setup (past_of w.setup events) p) →
    (run : Run) → Follows (scenario_run w flicks had) run → Makes (scenario_run w flicks had) run (go_turn w.setup p target remaining run) None (scenario_run w flicks 0)
go_ends w flicks had remaining p target at is some run follows =
    subst (λ t. Makes (scenario_run w flicks had) run t None (scenario_run w flicks 0)) (sym (go_turn_there w remaining p target at true is some run follows.shows))
    (record { reports = tt; follows = record { shows = follows.shows; flicks = follows.flicks }; remaining = refl; setup = refl })

-- whether a process that exists has a Step to make depends on its stage
pub enabled_reported : (w : WorldState) (p : ℕ) (at : Stage) → ((events : List Event) → Shows w events → Some at ≡ stage_in w.setup (past_of w.setup events) p) → (flicks : FlickState) (remaining : ℕ) →
    (run : Run) → Follows (scenario_run w flicks remaining) run → is_at_work at ≡ is_at_work (stage p (past_in w.setup run))
enabled_reported w p at some flicks remaining run follows = ap is_at_work (sym (stage_reported w p at (tried run.happened) follows.shows (sym (some (tried run.happened) follows.shows))).1)

-- a process that does not exist is not below the number of processes
pub enabled_beyond : (w : WorldState) (p : ℕ) → ((events : List Event) → Shows w events → None ≡ stage_in w.setup (past_of w.setup events) p) → (flicks : FlickState) (remaining : ℕ) →
    (run : Run) → Follows (scenario_run w flicks remaining) run → p < w.setup.processes → ⊥
enabled_beyond w p none flicks remaining run follows within =
    let no : nat_lt p w.setup.processes ≡ false = beyond_reported w p (tried run.happened) follows.shows (sym (none (tried run.happened) follows.shows)) in
    grind (arith, nat_tests)

-- the next turn of a line that has one left
pub turn_next : (s : Setup) (line : Line) (remaining : ℕ) (run : Run) → (remaining ≡ 0 → ⊥) → turn_of s line remaining run ≡ next_turn s line (remaining - 1) run
turn_next s line zero run some_remaining = absurd (some_remaining refl)
turn_next s line (suc remaining) run some_remaining = ap (λ n. next_turn s line n run) (omega arith)

-- the next turn of a line is the next turn of the line that it equals
pub turn_made : (old new : ScenarioRunState) (line l : Line) (answer : Option TurnReport) → (old.remaining ≡ 0 → ⊥) → line ≡ l →
    ((run : Run) → Follows old run → Makes old run (next_turn old.world.setup l (old.remaining - 1) run) answer new) → (run : Run) → Follows old run → Makes old run (turn_of old.world.setup line old.remaining run) answer new
turn_made old new line l answer some_remaining is makes run follows =
    subst (λ (turn : Turn). Makes old run turn answer new) (sym (ap (λ line. turn_of old.world.setup line old.remaining run) is ∙ turn_next old.world.setup l old.remaining run some_remaining)) (makes run follows)

-- the turn of a result that is not an allocation failure
pub turn_made_by : (old new : ScenarioRunState) (line l : Line) (result : Result (Option TurnReport) AllocError) → (old.remaining ≡ 0 → ⊥) → line ≡ l →
    IfOk result (λ answer. (run : Run) → Follows old run → Makes old run (next_turn old.world.setup l (old.remaining - 1) run) answer new) → IfOk result (λ answer. (run : Run) → Follows old run → Makes old run (turn_of old.world.setup line old.remaining run) answer new)
turn_made_by old new line l (Ok answer) some_remaining is makes = turn_made old new line l answer some_remaining is makes
turn_made_by old new line l (Err e) some_remaining is makes = tt

-- a line that has ended
pub turn_ended : (old : ScenarioRunState) (line : Line) → old.remaining ≡ 0 → (run : Run) → Follows old run → Makes old run (turn_of old.world.setup line old.remaining run) None old
turn_ended old line none run follows =
    subst (λ n. Makes old run (turn_of old.world.setup line n run) None old) (sym none) (record { reports = tt; follows = record { shows = follows.shows; flicks = follows.flicks }; remaining = none; setup = refl })

-- a line that sets the source of flicks
pub flick_made : (w : WorldState) (flicks flicks' : FlickState) (remaining : ℕ) (flick : Flick) → remaining ≤ 1 → flicks' ≡ after_set flick flicks →
    (run : Run) → Follows (scenario_run w flicks remaining) run → Makes (scenario_run w flicks remaining) run (next_turn w.setup (line.Flick flick) (remaining - 1) run) None (scenario_run w flicks' (remaining - 1))
flick_made w flicks flicks' remaining flick few is run follows = record {
  reports = tt;
  follows = record { shows = follows.shows; flicks = is ∙ ap (after_set flick) follows.flicks };
  remaining = omega (arith, few);
  setup = refl;
}

-- a line that shows the newest store
pub show_made : (w : WorldState) (flicks : FlickState) (remaining : ℕ) (answer : TurnReport) → ((events : List Event) → Shows w events → ReportsOf w.setup (past_of w.setup events) Looks answer) → IsMarked answer →
    (run : Run) → Follows (scenario_run w flicks remaining) run → Makes (scenario_run w flicks remaining) run (next_turn w.setup line.Show (remaining - 1) run) (Some answer) (scenario_run w flicks (remaining - 1))
show_made w flicks remaining answer is marked run follows = record {
  reports = (is (tried run.happened) follows.shows, marked);
  follows = record { shows = follows.shows; flicks = follows.flicks };
  remaining = refl;
  setup = refl;
}
