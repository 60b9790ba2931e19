-- A run is drawn line by line.
use Rattle.std.proofs.Common.{◌≡◌, ℕ, suc, ◌+◌, ◌-◌, List, [], ◌∷◌, ◌++◌, length, Option, None, refl, ap, sym, subst, ◌∙◌, append-nil, append_assoc, arith}
use Rattle.model.specs.plain_store.{Setup}
use Rattle.model.specs.{Past}
use Rattle.scenario.specs.{Line}
use Rattle.picture.specs.{WindowPlan}
use Rattle.scenario_run.specs.{ScenarioRunState, Follows, Happening, Run, Summary, past_after, run_after, run_at_start, runs, summary_of, text_of}
use Rattle.scenario_run.specs.Writing.{Counts}
use Rattle.scenario_run.proofs.Onwards.{Onward}
use Rattle.draw.specs.{Advances, DrawsBands, DrawsLast, DrawsLine, DrawsOn, Gives, HasDrawn, HasOpening, Kept, Recalls, RunDrawing, AccessView, entries_among, first_line, given_at_end, given_by, given_from, given_last, kept, kept_at_first, lines_given, parts_of, reads_since, says_end, store_before, store_words, tally}
use Rattle.draw.proofs.Drawings.{recalls_at}
use Rattle.draw.proofs.Drawn.{draws_bands, draws_on_both, draws_on_none}
use Rattle.draw.proofs.RunReported.{entries_of_run}

-- a drawing at the next line of the printed scenario
abbrev pub at_next : RunDrawing → RunDrawing
at_next run = record run { drawing = record run.drawing { source = run.drawing.source + 1 } }

module _ (plan : WindowPlan) (view : AccessView) (s : Setup) (lines : List Line) where
  -- from the start of a run on, between two lines
  pub record Drawn (rest : List Line) (scenario_run : ScenarioRunState) (run : RunDrawing) (old new : Option (List ℕ)) : Type 0 where
    pub gives : List Gives
    pub draws : DrawsOn (kept_at_first plan) (kept run.drawing.canvas) old new gives
    pub onward : Onward s lines rest scenario_run (tally run) None None
    pub are : gives ++ given_by view s (run.drawing.source + 1) rest onward.now ≡ given_by view s (first_line s) lines run_at_start
    pub number : run.drawing.source + 1 + length rest ≡ first_line s + length lines
    pub recalls : Recalls view s (parts_of s onward.now.happened) run.drawing

  -- at the start
  pub drawn_start : (scenario_run : ScenarioRunState) (run : RunDrawing) (a : Option (List ℕ)) → scenario_run.world.setup ≡ s → Follows scenario_run run_at_start → tally run ≡ record { events = 0; taken = 0; refused = 0 } →
      kept run.drawing.canvas ≡ kept_at_first plan → run.drawing.source + 1 ≡ first_line s → Recalls view s [] run.drawing → Drawn lines scenario_run run a a
  drawn_start scenario_run run a setup follows none first begins recalls = record {
    gives = [];
    draws = subst (λ (k : Kept). DrawsOn (kept_at_first plan) k a a []) (sym first) (draws_on_none (kept_at_first plan) a);
    onward = record {
      now = run_at_start;
      follows = follows;
      setup = setup;
      counts = record { events = ap (λ (s : Summary). s.events) none; refused = ap (λ (s : Summary). s.refused) none };
      text = [];
      is = refl;
      taken = tt;
      whole = refl;
    };
    are = ap (λ n. given_by view s n lines run_at_start) begins;
    number = ap (λ n. n + length lines) begins;
    recalls = recalls;
  }

  -- a line more
  pub drawn_on : (rest : List Line) (line : Line) (scenario_run scenario_run' : ScenarioRunState) (run run' : RunDrawing) (a b c : Option (List ℕ)) →
      Drawn (line ∷ rest) scenario_run run a b → DrawsLine line scenario_run scenario_run' (at_next run) run' b c → run'.drawing.source ≡ run.drawing.source + 1 → Drawn rest scenario_run' run' a c
  drawn_on rest line scenario_run scenario_run' run run' a b c d draws here =
      let u = d.onward in
      let source : ℕ = run.drawing.source in
      let after : Run = run_after s line u.now in
      let family : Setup → Type 0 = λ s. Counts s u.now.happened (tally run) → Recalls view s (parts_of s u.now.happened) (at_next run).drawing → Advances view s u.now (run_after s line u.now) scenario_run' (at_next run) run' b c in
      let more : Advances view s u.now after scenario_run' (at_next run) run' b c = subst family u.setup (draws view u.now u.follows) u.counts (recalls_at view s (parts_of s u.now.happened) run.drawing (source + 1) d.recalls) in
      let h : HasDrawn view s (parts_of s u.now.happened) (kept run.drawing.canvas) b (parts_of s after.happened) run'.drawing c = more.drawn.drawn in
      let long : length (parts_of s after.happened) - length (parts_of s u.now.happened) ≡ h.more = omega (arith, h.long) in
      let given : List Gives = given_from view s (source + 1) (parts_of s u.now.happened) (parts_of s after.happened) in
      let next : run'.drawing.source + 1 ≡ suc (source + 1) = omega (arith, here) in
      record {
        gives = d.gives ++ given;
        draws = draws_on_both (kept_at_first plan) (kept run.drawing.canvas) (kept run'.drawing.canvas) a b c d.gives given d.draws
            (subst (λ l. DrawsOn (kept run.drawing.canvas) (kept run'.drawing.canvas) b c l) {x = given_last view s run'.drawing.source h.more (parts_of s after.happened)} {y = given} (λ i. given_last view s (here i) (sym long i) (parts_of s after.happened)) h.draws);
        onward = record { now = after; follows = more.follows; setup = more.setup; counts = more.drawn.counts; text = text_of s after.happened; is = refl; taken = tt; whole = u.whole };
        are = ap (λ n. (d.gives ++ given) ++ given_by view s n rest after) next ∙ append_assoc d.gives given (given_by view s (suc (source + 1)) rest after) ∙ d.are;
        number = omega (arith, d.number, here);
        recalls = h.recalls;
      }

  -- the whole run, once the last line and what was held back are drawn
  pub drawn_end : (scenario_run : ScenarioRunState) (run : RunDrawing) (last : Summary) (a b c : Option (List ℕ)) (height : ℕ) → Drawn [] scenario_run run a b →
      last ≡ summary_of s (runs s lines run_at_start).happened → DrawsLast run.drawing.canvas b c (run.drawing.source + 1) run.drawing.entries [] (says_end last) height →
      DrawsBands plan a c (given_by view s (first_line s) lines run_at_start ++ given_at_end view s (first_line s + length lines) (runs s lines run_at_start).happened) height
  drawn_end scenario_run run last a b c height d numbers ends =
      let source : ℕ = run.drawing.source in
      let whole : List Happening = (runs s lines run_at_start).happened in
      let here : List Happening = d.onward.now.happened in
      let same : here ≡ whole = ap (λ (r : Run). r.happened) d.onward.whole in
      let at : source + 1 ≡ first_line s + length lines = omega (arith, d.number) in
      let count : run.drawing.entries ≡ length (past_after s whole) = d.recalls.entries ∙ ap length (entries_of_run s here) ∙ ap (λ (l : List Happening). length (past_after s l)) same in
      let ended : List Gives = lines_given view.reads (source + 1) run.drawing.entries (reads_since s (parts_of s here)) (says_end last ∷ []) in
      let is : ended ≡ given_at_end view s (first_line s + length lines) whole = λ i. lines_given view.reads (at i) (count i) (reads_since s (parts_of s (same i))) (says_end (numbers i) ∷ []) in
      let given : d.gives ≡ given_by view s (first_line s) lines run_at_start = sym (append-nil d.gives) ∙ d.are in
      subst (λ l. DrawsBands plan a c l height) {x = d.gives ++ ended} (λ i. given i ++ is i)
      (draws_bands plan (kept run.drawing.canvas) a b c d.gives ended height d.draws (ends view.reads s (entries_among (parts_of s here)) (reads_since s (parts_of s here)) d.recalls.waits))

  -- the store before the window
  pub drawn_opening : (scenario_run : ScenarioRunState) (run : RunDrawing) (opening : List ℕ) (a b : Option (List ℕ)) → Drawn [] scenario_run run a b → HasOpening (at_next run).drawing opening →
      opening ≡ store_words (store_before view.window s (past_after s (runs s lines run_at_start).happened))
  drawn_opening scenario_run run opening a b d opens =
      let here : List Happening = d.onward.now.happened in
      let same : here ≡ (runs s lines run_at_start).happened = ap (λ (r : Run). r.happened) d.onward.whole in
      opens view s (parts_of s here) (recalls_at view s (parts_of s here) run.drawing (run.drawing.source + 1) d.recalls) ∙ ap (λ (past : Past). store_words (store_before view.window s past)) (entries_of_run s here ∙ ap (past_after s) same)
