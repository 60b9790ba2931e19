-- Lines that are played one after the other, up to an event.
use Rattle.std.proofs.Common.{◌≡◌, inl, inr, ℕ, zero, suc, ◌+◌, ◌-◌, ◌^◌, ◌<◌, ◌≤◌, List, [], ◌∷◌, ◌++◌, take, drop, length, Option, None, Some, Ok, refl, ap, sym, subst, ◌∙◌, arith, append_assoc}
use Rattle.std.specs.Prelude.{◌⊎◌}
use Rattle.std.proofs.lemmas.List.{length-take-le, take-append-drop, take_all}
use Rattle.plain_store.specs.{Setup, checked}
use Rattle.model.specs.{Entry, Past, entry_of}
use Rattle.scenario.specs.{Line}
use Rattle.scenario.specs.files.{Fault}
use Rattle.scenario_run.specs.{ScenarioRunState, Follows, Happening, IsFront, IsLineMade, IsPart, Lacks, LineMade, Looks, MadeNewest, Plays, PlaysPart, Run, StopsLine, Tires, Tries, PlayLimit, events_in, events_to, part_of_line, past_after, rest_of, run_after, runs, turns_in}
use Rattle.scenario_run.specs.declared.play_limit.PlayLimit.TheVariants.{End, Event}
use Rattle.scenario_run.proofs.EventsMade.{FrontMade, all_made, front_made, none_made}
use Rattle.scenario_run.proofs.Grows.{Grows, line_grows, lines_grow}
use Rattle.scenario_run.proofs.Played.{good_of}
use Rattle.scenario_run.proofs.TurnLaw.{rest_whole}

-- Lists.

take_next : {X : Type 0} (xs : List X) (k : ℕ) (x : X) (more : List X) → drop k xs ≡ x ∷ more → take (suc k) xs ≡ take k xs ++ x ∷ []
take_next [] zero x more is = absurd (cc)
take_next [] (suc k) x more is = absurd (cc)
take_next (y ∷ ys) zero x more is = let same : y ≡ x = cc in ap (λ z. z ∷ []) same
take_next (y ∷ ys) (suc k) x more is = ap (λ l. y ∷ l) (take_next ys k x more is)

-- Runs.

-- some lines, and then others
runs_both : (s : Setup) (before after : List Line) (run : Run) → runs s (before ++ after) run ≡ runs s after (runs s before run)
runs_both s [] after run = refl
runs_both s (line ∷ before) after run = runs_both s before after (run_after s line run)

-- a happening does not make the record shorter
happening_more : (s : Setup) (before : List Happening) (this : Happening) → length (past_after s before) ≤ length (past_after s (this ∷ before))
happening_more s before (Tries event) = by (entry_of s (past_after s before) event)
  where
    by : (o : Option Entry) → length (past_after s before) ≤ length (elim o as (λ _. Past) [ None ↦ past_after s before | Some e ↦ e ∷ past_after s before ])
    by None = omega arith
    by (Some e) = omega arith
happening_more s before (Lacks p) = omega arith
happening_more s before (Tires p) = omega arith
happening_more s before Looks = omega arith

past_more : (s : Setup) (before more : List Happening) → length (past_after s before) ≤ length (past_after s (more ++ before))
past_more s before [] = omega arith
past_more s before (this ∷ more) = let rest = past_more s before more in let one = happening_more s (more ++ before) this in omega (arith, rest, one)

events_more : (s : Setup) (now whole : Run) (more : List Happening) → whole.happened ≡ more ++ now.happened → events_in s now ≤ events_in s whole
events_more s now whole more is =
    let same : events_in s whole ≡ length (past_after s (more ++ now.happened)) = ap (λ h. length (past_after s h)) is in
    let less = past_more s now.happened more in
    omega (arith, same, less)

-- A part of a run.

-- if events are still to be made, all of the lines so far were played
all_so_far : (s : Setup) (until : PlayLimit) (start now whole : Run) (made : ℕ) → events_in s now ≡ events_in s start + made → 0 < events_to until made → IsPart s until start now whole → now ≡ whole
all_so_far s End start now whole made events more part = part
all_so_far s (Event n) start now whole made events more part = elim part.ends [ inl many ↦ absurd (omega (arith, many, events, more)) | inr all ↦ sym all ]

-- one more line is played
part_on : (s : Setup) → checked s ≡ Ok tt → (until : PlayLimit) (line : Line) (start now whole : Run) (made : ℕ) → turns_in line < 2 ^ 32 → events_in s now ≡ events_in s start + made → IsPart s until start now whole →
    IsPart s until start (part_of_line s (events_to until made) line now) (run_after s line whole)
part_on s good End line start now whole made few events part =
    all_made s good line (2 ^ 64 - 1) (turns_in line) now (omega (arith, few)) (omega arith) ∙ rest_whole s line now ∙ ap (run_after s line) part
part_on s good (Event n) line start now whole made few events part = by part.ends
  where
    most : events_in s now ≤ events_in s start + n
    most = part.most

    by : (events_in s start + n ≤ events_in s now) ⊎ (whole ≡ now) → IsFront s n start (part_of_line s (n - made) line now) (run_after s line whole)
    by (inl many) =
        let none : n - made ≡ 0 = omega (arith, many, events) in
        let still : part_of_line s (n - made) line now ≡ now = ap (λ m. part_of_line s m line now) none ∙ none_made s good line (turns_in line) now in
        let grows : Grows whole.happened (run_after s line whole).happened = line_grows s line whole in
        subst (λ (r : Run). IsFront s n start r (run_after s line whole)) (sym still) (record {
          more = grows.more ++ part.more;
          is = grows.is ∙ ap (λ l. grows.more ++ l) part.is ∙ sym (append_assoc grows.more part.more now.happened);
          most = most;
          ends = inl many;
        })
    by (inr all) =
        let f : FrontMade s good line (n - made) now (part_of_line s (n - made) line now) (rest_of s line (turns_in line) now) = front_made s good line (n - made) (turns_in line) now (omega arith) in
        let same : run_after s line whole ≡ rest_of s line (turns_in line) now = ap (run_after s line) all ∙ sym (rest_whole s line now) in
        let few = f.most in
        record {
          more = f.more;
          is = ap (λ (r : Run). r.happened) same ∙ f.is;
          most = omega (arith, few, events, most);
          ends = elim f.ends [ inl many ↦ inl (omega (arith, many, events, most)) | inr end ↦ inr (same ∙ end) ];
        }

-- The line that made the newest event.

-- a run with as many events has the same newest line
newest_same : (s : Setup) (lines : List Line) (start now now' : Run) (newest : Option LineMade) → events_in s now' ≡ events_in s now → MadeNewest s lines start now newest → MadeNewest s lines start now' newest
newest_same s lines start now now' None same made = same ∙ made
newest_same s lines start now now' (Some line) same made =
    let fewer = made.fewer in
    let enough = made.enough in
    record { before = made.before; line = made.line; after = made.after; is = made.is; index = made.index; events = made.events; fewer = omega (arith, fewer, same); enough = omega (arith, enough, same) }

-- a line that makes events
newest_new : (s : Setup) → checked s ≡ Ok tt → (until : PlayLimit) (lines : List Line) (start now : Run) (made k : ℕ) (line : Line) (more : ℕ) → k < length lines → drop k lines ≡ line ∷ drop (k + 1) lines → events_in s now ≡ events_in s start + made → IsPart s until start now (runs s (take k lines) start) →
    events_in s (part_of_line s (events_to until made) line now) ≡ events_in s now + more → 0 < more → IsLineMade s lines start (part_of_line s (events_to until made) line now) (record { line = k; before = made })
newest_new s good until lines start now made k line more within next events part longer some =
    let most : ℕ = events_to until made in
    let f : FrontMade s good line most now (part_of_line s most line now) (rest_of s line (turns_in line) now) = front_made s good line most (turns_in line) now (omega arith) in
    let few = f.most in
    let all : now ≡ runs s (take k lines) start = all_so_far s until start now (runs s (take k lines) start) made events (omega (arith, few, longer, some)) part in
    let at : events_in s (runs s (take k lines) start) ≡ events_in s now = ap (events_in s) (sym all) in
    let after : events_in s (run_after s line (runs s (take k lines) start)) ≡ events_in s (rest_of s line (turns_in line) now) = ap (λ r. events_in s (run_after s line r)) (sym all) ∙ ap (events_in s) (sym (rest_whole s line now)) in
    let grown = events_more s (part_of_line s most line now) (rest_of s line (turns_in line) now) f.more f.is in
    record {
      before = take k lines;
      line = line;
      after = drop (k + 1) lines;
      is = sym (take-append-drop k lines) ∙ ap (λ l. take k lines ++ l) next;
      index = sym (length-take-le k lines (omega (arith, within)));
      events = at ∙ events;
      fewer = omega (arith, at, longer, some);
      enough = omega (arith, after, grown);
    }

-- Lines.

-- the first k lines were played: the run now, what was observed, the number of events made, and the line that made the newest
pub record PlayedTo {L : Type 0} (Observes : L → Setup → List Happening → List Happening → L → Type 0) (s : Setup) (lines : List Line) (until : PlayLimit) (k : ℕ) (start : Run) (scenario_run : ScenarioRunState) (was is : L) (made : ℕ) (newest : Option LineMade) : Type 0 where
  pub now : Run
  pub plays : Plays Observes s start now scenario_run was is
  pub part : IsPart s until start now (runs s (take k lines) start)
  pub events : events_in s now ≡ events_in s start + made
  pub newest_made : MadeNewest s lines start now newest

module _ {L : Type 0} (Observes : L → Setup → List Happening → List Happening → L → Type 0) (s : Setup) (lines : List Line) (until : PlayLimit) (start : Run) (was : L) where
  -- before the first
  pub lines_start : (scenario_run : ScenarioRunState) → ((a : L) (s : Setup) (x : List Happening) → Observes a s x x a) → scenario_run.world.setup ≡ s → Follows scenario_run start → PlayedTo Observes s lines until 0 start scenario_run was was 0 None
  lines_start scenario_run nothing setup follows = record {
    now = start;
    plays = record { follows = record { shows = follows.shows; flicks = follows.flicks }; setup = setup; observes = nothing was s start.happened };
    part = by until;
    events = omega arith;
    newest_made = refl;
  }
    where
      by : (until : PlayLimit) → IsPart s until start start start
      by End = refl
      by (Event n) = record { more = []; is = refl; most = omega arith; ends = inr refl }

  -- after the last
  pub lines_ended : (k : ℕ) (scenario_run : ScenarioRunState) (is : L) (made : ℕ) (newest : Option LineMade) → length lines ≤ k → PlayedTo Observes s lines until k start scenario_run was is made newest → PlaysPart Observes s lines until start scenario_run was is newest
  lines_ended k scenario_run is made newest last u = record {
    now = u.now;
    plays = record { follows = u.plays.follows; setup = u.plays.setup; observes = u.plays.observes };
    part = subst (λ l. IsPart s until start u.now (runs s l start)) (take_all k lines last) u.part;
    newest_made = u.newest_made;
  }

  module _ (k : ℕ) (line : Line) (scenario_run : ScenarioRunState) (is is' : L) (made : ℕ) (newest : Option LineMade) (within : k < length lines) (next : drop k lines ≡ line ∷ drop (k + 1) lines) (u : PlayedTo Observes s lines until k start scenario_run was is made newest) where
    good : checked s ≡ Ok tt
    good = (good_of s scenario_run u.now u.plays.setup u.plays.follows).0

    -- the first k + 1 lines are the first k lines and the next one
    one_more : runs s (take (k + 1) lines) start ≡ run_after s line (runs s (take k lines) start)
    one_more = let same : k + 1 ≡ suc k = omega arith in ap (λ n. runs s (take n lines) start) same ∙ ap (λ l. runs s l start) (take_next lines k line (drop (k + 1) lines) next) ∙ runs_both s (take k lines) (line ∷ []) start

    -- one more line, which was observed: if it makes events, it made the newest
    pub lines_on : (scenario_run' : ScenarioRunState) (more : ℕ) (newest' : Option LineMade) → ((a b c : L) (s : Setup) (x y z : List Happening) → Observes a s x y b → Observes b s y z c → Observes a s x z c) → turns_in line < 2 ^ 32 →
        ((run : Run) → Follows scenario_run run → Plays Observes scenario_run.world.setup run (part_of_line scenario_run.world.setup (events_to until made) line run) scenario_run' is is') →
        ((run : Run) → Follows scenario_run run → events_in scenario_run.world.setup (part_of_line scenario_run.world.setup (events_to until made) line run) ≡ events_in scenario_run.world.setup run + more) →
        ((0 < more) × (newest' ≡ Some (record { line = k; before = made }))) ⊎ ((more ≡ 0) × (newest' ≡ newest)) →
        PlayedTo Observes s lines until (k + 1) start scenario_run' was is' (made + more) newest'
    lines_on scenario_run' more newest' observes_on few plays counts made_by =
        let most : ℕ = events_to until made in
        let after : Run = part_of_line s most line u.now in
        let p : Plays Observes s u.now after scenario_run' is is' = subst (λ s. Plays Observes s u.now (part_of_line s most line u.now) scenario_run' is is') u.plays.setup (plays u.now u.plays.follows) in
        let count : events_in s after ≡ events_in s u.now + more = subst (λ s. events_in s (part_of_line s most line u.now) ≡ events_in s u.now + more) u.plays.setup (counts u.now u.plays.follows) in
        let events = u.events in
        record {
          now = after;
          plays = record { follows = p.follows; setup = p.setup; observes = observes_on was is is' s start.happened u.now.happened after.happened u.plays.observes p.observes };
          part = subst (λ (whole : Run). IsPart s until start after whole) (sym one_more) (part_on s good until line start u.now (runs s (take k lines) start) made few u.events u.part);
          events = omega (arith, count, events);
          newest_made = elim made_by [
            | inl (some, new) ↦ subst (λ n. MadeNewest s lines start after n) (sym new) (newest_new s good until lines start u.now made k line more within next u.events u.part count some)
            | inr (none, same) ↦ subst (λ n. MadeNewest s lines start after n) (sym same) (newest_same s lines start u.now after newest (omega (arith, count, none)) u.newest_made)
          ];
        }

    -- a fault in the next line
    pub lines_cut : (Stops : L → Setup → List Happening → List Happening → Fault → L → Type 0) (fault : Fault) → ((a b : L) (s : Setup) (x y more : List Happening) (fault : Fault) → Stops a s x y fault b → Stops a s x (more ++ y) fault b) →
        ((a b c : L) (s : Setup) (x y z : List Happening) (fault : Fault) → Observes a s x y b → Stops b s y z fault c → Stops a s x z fault c) → StopsLine Stops scenario_run line is is' fault → 0 < events_to until made → Stops was s start.happened (runs s lines start).happened fault is'
    lines_cut Stops fault stops_before stops_on cut some =
        let after : Run = run_after s line u.now in
        let rest : List Line = drop (k + 1) lines in
        let torn : Stops is s u.now.happened after.happened fault is' = subst (λ s. Stops is s u.now.happened (run_after s line u.now).happened fault is') u.plays.setup (cut u.now u.plays.follows) in
        let grows : Grows after.happened (runs s rest after).happened = lines_grow s rest after in
        let whole : runs s lines start ≡ runs s rest after =
        ap (λ l. runs s l start) (sym (take-append-drop k lines) ∙ ap (λ l. take k lines ++ l) next) ∙ runs_both s (take k lines) (line ∷ rest) start
        ∙ ap (λ r. runs s rest (run_after s line r)) (sym (all_so_far s until start u.now (runs s (take k lines) start) made u.events some u.part)) in
        let all : (runs s lines start).happened ≡ grows.more ++ after.happened = ap (λ (r : Run). r.happened) whole ∙ grows.is in
        subst (λ l. Stops was s start.happened l fault is') (sym all)
        (stops_on was is is' s start.happened u.now.happened (grows.more ++ after.happened) fault u.plays.observes (stops_before is is' s u.now.happened after.happened grows.more fault torn))

-- lines that are played to the end
pub plays_whole : {L : Type 0} (Observes : L → Setup → List Happening → List Happening → L → Type 0) (s : Setup) (lines : List Line) (until : PlayLimit) (start : Run) (scenario_run : ScenarioRunState) (was is : L) (newest : Option LineMade) → until ≡ End → PlaysPart Observes s lines until start scenario_run was is newest → Plays Observes s start (runs s lines start) scenario_run was is
plays_whole Observes s lines until start scenario_run was is newest end u =
    let part : u.now ≡ runs s lines start = subst (λ until. IsPart s until start u.now (runs s lines start)) end u.part in
    subst (λ (r : Run). Plays Observes s start r scenario_run was is) part u.plays

-- if a line may make all its turns, its part is the whole line
pub line_whole : {L : Type 0} (Observes : L → Setup → List Happening → List Happening → L → Type 0) (s : Setup) (l : Line) (most : ℕ) (run : Run) (scenario_run : ScenarioRunState) (was is : L) → turns_in l ≤ most → Plays Observes s run (part_of_line s most l run) scenario_run was is → Plays Observes s run (run_after s l run) scenario_run was is
line_whole Observes s l most run scenario_run was is all plays =
    let good : checked s ≡ Ok tt = (good_of s scenario_run (part_of_line s most l run) plays.setup plays.follows).0 in
    subst (λ (r : Run). Plays Observes s run r scenario_run was is) (all_made s good l most (turns_in l) run all (omega arith) ∙ rest_whole s l run) plays
