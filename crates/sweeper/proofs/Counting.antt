-- The counts of a sweep after one more run and after one more event.
use Rattle.std.proofs.Common.{◌≡◌, ℕ, ◌+◌, ◌*◌, ◌<◌, ◌≤◌, ◌&&◌, Bool, true, false, cond, List, [], ◌∷◌, ◌++◌, filter, length, reverse, take, get_or, Option, None, Some, refl, ap, sym, subst, ◌∙◌, arith, append-nil, append_assoc}
use Rattle.std.specs.Prelude.{not, option_map}
use Rattle.std.proofs.lemmas.List.{length-append, length_push, reverse-append, take_more}
use Rattle.std.proofs.lemmas.List.Elements.{All-push, filter-append}
use Rattle.std.proofs.lemmas.List.Filters.{length-filter_both}
use Rattle.plain_store.specs.{Command, Setup}
use Rattle.model.specs.{Event, KeepsMainTheoremThroughout, past_of, process_of}
use Rattle.model.specs.declared.events.Event.TheVariants.{Fail}
use Rattle.auditor.specs.{AllKeep}
use Rattle.world.proofs.history_laws_proofs.MainTheorems.{throughout}
use Rattle.auditor.proofs.Whole.{good_of}
use Rattle.sweeper.specs.{Accepts, AreKnown, AreOfSetup, BadRun, CanRun, CanSweep, Counts, CountsRun, Cut, EndsRun, Follows, HasEnded, HasSwept, KnownOutcome, LearnsFrom, OfSweep, RunnerState, RunsBy, RunsOn, Swept, Sweeper, SweepsOn, at_rest, bad_run, counted, cut, cut_off, cuts, ended, is_accepted, is_cut, on_from}
use Rattle.sweeper.proofs.Dues.{few_due}

-- One run.

-- the stuck runs with one more run
stuck_more : (cs : List Cut) (c : Cut) → length (filter (λ (c : Cut). c.run.stuck) (cs ++ c ∷ [])) ≡ length (filter (λ (c : Cut). c.run.stuck) cs) + cond c.run.stuck 1 0
stuck_more cs c =
    ap length (filter-append (λ (c : Cut). c.run.stuck) cs (c ∷ [])) ∙ length-append (filter (λ (c : Cut). c.run.stuck) cs) (filter (λ (c : Cut). c.run.stuck) (c ∷ []))
    ∙ ap (λ n. length (filter (λ (c : Cut). c.run.stuck) cs) + n) (by c.run.stuck)
  where
    by : (b : Bool) → length (cond b (c ∷ []) []) ≡ cond b 1 0
    by true = refl
    by false = refl

-- one more run, which has ended
counts_more : (s : Setup) (cs : List Cut) (found : Swept) (c : Cut) (number : ℕ) (value met : Bool) → HasEnded s met c.run → Counts s cs found → Counts s (cs ++ c ∷ []) (counted found number value met None)
counts_more s cs found c number value met run counts = record {
  good = All-push (λ (c : Cut). AllKeep s (past_of s c.run.events)) cs c counts.good (good_of s run.good c.run.events run.given);
  main_theorem = All-push (λ (c : Cut). KeepsMainTheoremThroughout s (past_of s c.run.events)) cs c counts.main_theorem (throughout s run.good c.run.events run.given);
  runs = ap (λ n. n + 1) counts.runs ∙ sym (length_push cs c);
  all = ap (λ n. n + 1) counts.all ∙ sym (length_push cs c);
  stuck = (λ i. counts.stuck i + cond (run.stuck i) 1 0) ∙ sym (stuck_more cs c);
  none_bad = ap (λ (o : Option BadRun). elim o as (λ _. Option BadRun) [ Some first ↦ Some first | None ↦ option_map (bad_run number value) None ]) counts.none_bad;
}

-- a run that was made from the state of the walker up to `rest`, and then ended
pub run_counts : (calls : List (ℕ × Command)) (old : Sweeper) (copy rest new : RunnerState) (known : List KnownOutcome) (found : Swept) (v : Bool) (p number : ℕ) (met : Bool) → copy ≡ old.walker → rest.core.setup ≡ copy.core.setup →
    new.core.setup ≡ rest.core.setup → RunsBy copy rest (λ s. at_rest s p v) → EndsRun rest old.known calls v met → LearnsFrom rest calls old.known known → found ≡ counted old.found number v met None →
    CountsRun p v calls old (record { walker = old.walker; runner = new; known = known; found = found })
run_counts calls old copy rest new known found v p number met same kept went makes ends learns is s event before cs own swept = record {
  follows = swept.follows;
  walker_setup = swept.walker_setup;
  runner_setup = went ∙ setup;
  known = subst (λ (s : Setup). AreKnown s calls old.known → AreKnown s calls known) setup (learns (at_rest s (process_of event) v (event ∷ before)) there) swept.known;
  counts = subst (Counts s (cs ++ cut s calls event before v ∷ [])) (sym is) (counts_more s cs old.found (cut s calls event before v) number v met run swept.counts);
}
  where
    setup : rest.core.setup ≡ s
    setup = kept ∙ ap (λ (r : RunnerState). r.core.setup) same ∙ swept.walker_setup

    there : Follows rest (at_rest s (process_of event) v (event ∷ before))
    there = subst (λ p. Follows rest (at_rest s p v (event ∷ before))) own
        (subst (λ s. Follows rest (at_rest s p v (event ∷ before))) swept.walker_setup
        (subst (λ (r : RunnerState). RunsBy r rest (λ s. at_rest s p v)) same makes (event ∷ before) swept.follows))

    run : HasEnded s met (on_from s calls v (cut_off s (process_of event) v (event ∷ before)))
    run = subst (λ (s : Setup). AreKnown s calls old.known → (events : List Event) → Follows rest events → HasEnded s met (ended s calls v events)) setup ends swept.known (at_rest s (process_of event) v (event ∷ before)) there

-- One more event.

-- known outcomes are those of cores of the setup
known_setup : (s t : Setup) (calls : List (ℕ × Command)) (known : List KnownOutcome) → s ≡ t → AreKnown s calls known → AreOfSetup t known
known_setup s t calls known is all k d within = (all k d within).setup ∙ is

-- there is then room for one event fewer
pub room_on : (calls : List (ℕ × Command)) (event : Event) (old new : Sweeper) → SweepsOn calls event old new → (more : ℕ) → CanSweep calls (more + 1) old → CanSweep calls more new
room_on calls event old new on more room = record {
  setup = room.setup;
  before = event ∷ room.before;
  swept = on room.setup room.before room.swept;
  few_events = let few = room.few_events in omega (arith, few);
  few_calls = room.few_calls;
}

-- at most two runs are cut after each event
few_cuts : (s : Setup) (calls : List (ℕ × Command)) (events : List Event) → length (cuts s calls events) ≤ 2 * length events
few_cuts s calls [] = omega arith
few_cuts s calls (event ∷ before) = by (is_cut s event before) (few_cuts s calls before)
  where
    two : List Cut
    two = cut s calls event before false ∷ cut s calls event before true ∷ []

    by : (b : Bool) → length (cuts s calls before) ≤ 2 * length before → length (cuts s calls before ++ cond b two []) ≤ 2 * length (event ∷ before)
    by true few = let long = length-append (cuts s calls before) two in omega (arith, few, long)
    by false few = let long = ap length (append-nil (cuts s calls before)) in omega (arith, few, long)

-- the walker takes the event, and `reported` is whether it is accepted
module _ (calls : List (ℕ × Command)) (event : Event) (old : Sweeper) (walker : RunnerState) (reported : Bool) (goes : RunsOn old.walker walker (λ events. event ∷ events)) (kept : walker.core.setup ≡ old.walker.core.setup) (reports : Accepts old.walker event reported) where
  abbrev pub mid : Sweeper
  mid = record { walker = walker; runner = old.runner; known = old.known; found = old.found }

  walked : (s : Setup) (calls : List (ℕ × Command)) (before : List Event) (cs : List Cut) → HasSwept s calls before cs old → HasSwept s calls (event ∷ before) cs mid
  walked s calls before cs swept = record { follows = goes before swept.follows; walker_setup = kept ∙ swept.walker_setup; runner_setup = swept.runner_setup; known = swept.known; counts = swept.counts }

  accepted_as : (b : Bool) → reported ≡ b → OfSweep old (λ s calls before. is_accepted s before event ≡ b)
  accepted_as b is s calls before swept = sym (reports before swept.follows ∙ ap (λ s. is_accepted s before event) swept.walker_setup) ∙ is

  -- there is room for a run after the event, and for one more
  room_for : (room : CanSweep calls 1 old) (cs : List Cut) (sweeper : Sweeper) → length cs ≤ length (cuts room.setup calls room.before) + 1 → HasSwept room.setup calls (event ∷ room.before) cs sweeper → CanRun calls sweeper
  room_for room cs sweeper one swept =
      let few = few_cuts room.setup calls room.before in
      let events = room.few_events in
      let counts = swept.counts in
      record {
        setup = swept.runner_setup ∙ sym swept.walker_setup;
        known = known_setup room.setup sweeper.walker.core.setup calls sweeper.known (sym swept.walker_setup) swept.known;
        due = let due = few_due sweeper.walker (event ∷ room.before) swept.follows in let ended = room.few_calls in omega (arith, due, events, ended);
        few = record {
          runs = let is = counts.runs in omega (arith, is, one, few, events);
          good = let is = counts.all in omega (arith, is, one, few, events);
          stuck =
              let is = counts.stuck in
              let both = length-filter_both (λ (c : Cut). c.run.stuck) (λ (c : Cut). not c.run.stuck) (λ c. refl) cs in
              omega (arith, is, both, one, few, events);
        };
      }

  pub room_for_first : CanSweep calls 1 old → CanRun calls mid
  room_for_first room = let runs = cuts room.setup calls room.before in room_for room runs mid (omega arith) (walked room.setup calls room.before runs room.swept)

  pub room_for_second : (once : Sweeper) (p : ℕ) → p ≡ process_of event → CountsRun p false calls mid once → CanSweep calls 1 old → CanRun calls once
  room_for_second once p own first room =
      let runs = cuts room.setup calls room.before in
      let run = cut room.setup calls event room.before false in
      let one = length_push runs run in
      room_for room (runs ++ run ∷ []) once (omega (arith, one)) (first room.setup event room.before runs own (walked room.setup calls room.before runs room.swept))

  -- no run is cut
  uncut_on : OfSweep old (λ s calls before. is_cut s event before ≡ false) → SweepsOn calls event old mid
  uncut_on none s before swept =
      subst (λ cs. HasSwept s calls (event ∷ before) cs mid)
      (sym (ap (λ b. cuts s calls before ++ cond b (cut s calls event before false ∷ cut s calls event before true ∷ []) []) (none s calls before swept) ∙ append-nil (cuts s calls before)))
      (walked s calls before (cuts s calls before) swept)

  pub refused_on : reported ≡ false → SweepsOn calls event old mid
  refused_on is = uncut_on (λ s calls before swept. ap (λ b. b && is_accepted s (event ∷ before) (Fail (process_of event))) (accepted_as false is s calls before swept))

  -- it is accepted, and then its process may fail or not
  cut_as : (p : ℕ) (may b : Bool) → reported ≡ true → p ≡ process_of event → Accepts walker (Fail p) may → may ≡ b → OfSweep old (λ s calls before. is_cut s event before ≡ b)
  cut_as p may b is own asks fails s calls before swept =
      let then = walked s calls before (cuts s calls before) swept in
      ap (λ b. b && is_accepted s (event ∷ before) (Fail (process_of event))) (accepted_as true is s calls before swept)
      ∙ sym (asks (event ∷ before) then.follows ∙ (λ i. is_accepted (then.walker_setup i) (event ∷ before) (Fail (own i)))) ∙ fails

  pub unfailing_on : (p : ℕ) (may : Bool) → reported ≡ true → p ≡ process_of event → Accepts walker (Fail p) may → may ≡ false → SweepsOn calls event old mid
  unfailing_on p may is own asks fails = uncut_on (cut_as p may false is own asks fails)

  -- two runs are cut
  pub cut_on : (once new : Sweeper) (p : ℕ) (may : Bool) → reported ≡ true → p ≡ process_of event → Accepts walker (Fail p) may → may ≡ true → CountsRun p false calls mid once → CountsRun p true calls once new → SweepsOn calls event old new
  cut_on once new p may is own asks fails first second s before swept =
      let runs = cuts s calls before in
      let run = cut s calls event before false in
      let last = cut s calls event before true in
      subst (λ cs. HasSwept s calls (event ∷ before) cs new)
      (append_assoc runs (run ∷ []) (last ∷ []) ∙ sym (ap (λ b. runs ++ cond b (run ∷ last ∷ []) []) (cut_as p may true is own asks fails s calls before swept)))
      (second s event before (runs ++ run ∷ []) own (first s event before runs own (walked s calls before runs swept)))

-- the events up to the next one
pub events_more : (events : List Event) (k : ℕ) (event : Event) → k < length events → event ≡ get_or events k event → reverse (take (k + 1) events) ≡ event ∷ reverse (take k events)
events_more events k event within is =
    ap reverse (take_more events k event within) ∙ reverse-append (take k events) (get_or events k event ∷ []) ∙ ap (λ e. e ∷ reverse (take k events)) (sym is)
