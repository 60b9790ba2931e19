-- The line that made an event, as a script's lines are run one after another.
use Rattle.std.proofs.Common.{◌≡◌, inl, inr, ℕ, suc, ◌+◌, ◌-◌, ◌<◌, ◌≤◌, nat_le, Bool, true, false, List, [], ◌∷◌, ◌++◌, drop, get_or, length, slice_index, Option, None, Some, refl, ap, sym, ◌∙◌, arith, append_assoc, get_or-append-add}
use Rattle.std.specs.Prelude.{IfSome}
use Rattle.std.proofs.Math.Seq.{drop-append_seam}
use Rattle.std.proofs.lemmas.Bool.Decides.{nat_tests}
use Rattle.std.proofs.lemmas.List.{length-append}
use Rattle.plain_store.specs.{Setup}
use Rattle.model.specs.{Entry, Past, entry_of}
use Rattle.calls.specs.scenario.{Line}
use Rattle.calls.specs.scenario_run.{Happening, IsFront, IsLineMade, Lacks, LineMade, Looks, MadeNewest, Run, Tires, Tries, events_in, past_after, past_in, run_after, run_at_start, runs}
use Rattle.calls.proofs.scenario_run_proofs.Grows.{Grows, lines_grow}
use Rattle.run_state.specs.{EventsAreMade, IsMade, first_of, made_line, makes_event, making_line, number_in}

-- The events of a run.

-- each happening only adds to the past
one_longer : (s : Setup) (before : List Happening) (this : Happening) → (es : Past) × (past_after s (this ∷ before) ≡ es ++ past_after s before)
one_longer s before (Tries event) = by (entry_of s (past_after s before) event)
  where
    by : (o : Option Entry) → (es : Past) × ((elim o as (λ _. Past) [ None ↦ past_after s before | Some e ↦ e ∷ past_after s before ]) ≡ es ++ past_after s before)
    by None = ([], refl)
    by (Some e) = (e ∷ [], refl)
one_longer s before (Lacks p) = ([], refl)
one_longer s before (Tires p) = ([], refl)
one_longer s before Looks = ([], refl)

past_longer : (s : Setup) (before more : List Happening) → (es : Past) × (past_after s (more ++ before) ≡ es ++ past_after s before)
past_longer s before [] = ([], refl)
past_longer s before (this ∷ more) =
    let u = past_longer s before more in
    let v = one_longer s (more ++ before) this in
    (v.0 ++ u.0, v.1 ∙ ap (λ l. v.0 ++ l) u.1 ∙ sym (append_assoc v.0 u.0 (past_after s before)))

-- a run that goes on has the past of the run before it at the end of its own
run_longer : (s : Setup) (now whole : Run) (more : List Happening) → whole.happened ≡ more ++ now.happened → (es : Past) × (past_in s whole ≡ es ++ past_in s now) × (events_in s whole ≡ length es + events_in s now)
run_longer s now whole more is =
    let m = past_longer s now.happened more in
    let all : past_in s whole ≡ m.0 ++ past_in s now = ap (past_after s) is ∙ m.1 in
    (m.0, all, ap (λ (p : Past). length p) all ∙ length-append m.0 (past_in s now))

-- a prefix of a whole run has its first events
pub front_is : (s : Setup) (n : ℕ) (now whole : Run) → IsFront s n run_at_start now whole → past_in s now ≡ first_of n (past_in s whole)
front_is s n now whole u = elim u.ends [
  | inr same ↦
      let long : length (past_in s whole) ≡ length (past_in s now) = ap (events_in s) same in
      let most = u.most in
      let none : length (past_in s whole) - n ≡ 0 = omega (arith, long, most) in
      sym (ap (λ k. drop k (past_in s whole)) none ∙ ap (past_in s) same)
  | inl many ↦
      let m = run_longer s now whole u.more u.is in
      let long : length (past_in s whole) ≡ length m.0 + length (past_in s now) = m.2 in
      let most = u.most in
      let over : length (past_in s whole) - n ≡ length m.0 = omega (arith, long, many, most) in
      sym (ap (λ k. drop k (past_in s whole)) over ∙ ap (drop (length m.0)) m.1 ∙ drop-append_seam m.0 (past_in s now))
]

-- The line that makes an event.

-- a line makes an event or not
at_test : (numbers : List ℕ) (s : Setup) (e : ℕ) (run : Run) (l : Line) (after : List Line) (b : Bool) → makes_event s e l run ≡ b →
    making_line numbers s e run (l ∷ after) ≡ elim b as (λ _. List ℕ) [ true ↦ made_line (number_in numbers (length after)) (e - events_in s run) l | false ↦ making_line numbers s e (run_after s l run) after ]
at_test numbers s e run l after b is = ap (λ (b : Bool). elim b as (λ _. List ℕ) [ true ↦ made_line (number_in numbers (length after)) (e - events_in s run) l | false ↦ making_line numbers s e (run_after s l run) after ]) is

makes : (s : Setup) (e : ℕ) (run : Run) (l : Line) → events_in s run < e → e ≤ events_in s (run_after s l run) → makes_event s e l run ≡ true
makes s e run l fewer enough = grind (arith, nat_tests)

not_yet : (s : Setup) (e : ℕ) (run : Run) (l : Line) → events_in s (run_after s l run) < e → makes_event s e l run ≡ false
not_yet s e run l fewer = grind (arith, nat_tests)

-- no line makes event 0
pub none_made : (numbers : List ℕ) (s : Setup) (run : Run) (lines : List Line) → making_line numbers s 0 run lines ≡ []
none_made numbers s run [] = refl
none_made numbers s run (l ∷ lines) = let none : makes_event s 0 l run ≡ false = grind (arith, nat_tests) in at_test numbers s 0 run l lines false none ∙ none_made numbers s (run_after s l run) lines

-- the lines before it make fewer events
made_at : (numbers : List ℕ) (s : Setup) (e : ℕ) (run : Run) (before : List Line) (l : Line) (after : List Line) → events_in s (runs s before run) < e → e ≤ events_in s (run_after s l (runs s before run)) →
    making_line numbers s e run (before ++ l ∷ after) ≡ made_line (number_in numbers (length after)) (e - events_in s (runs s before run)) l
made_at numbers s e run [] l after fewer enough = at_test numbers s e run l after true (makes s e run l fewer enough)
made_at numbers s e run (first ∷ before) l after fewer enough =
    let next : Run = run_after s first run in
    let grows : Grows next.happened (runs s before next).happened = lines_grow s before next in
    let longer : events_in s (runs s before next) ≡ length (run_longer s next (runs s before next) grows.more grows.is).0 + events_in s next = (run_longer s next (runs s before next) grows.more grows.is).2 in
    at_test numbers s e run first (before ++ l ∷ after) false (not_yet s e run first (omega (arith, longer, fewer))) ∙ made_at numbers s e next before l after fewer enough

-- an event that one of the later lines makes
made_later : (numbers : List ℕ) (s : Setup) (e : ℕ) (run : Run) (l : Line) (lines : List Line) → events_in s (run_after s l run) < e → IsMade numbers s e (run_after s l run) lines → IsMade numbers s e run (l ∷ lines)
made_later numbers s e run l lines still m = record {
  before = l ∷ m.before;
  line = m.line;
  after = m.after;
  is = ap (λ ls. l ∷ ls) m.is;
  fewer = m.fewer;
  enough = m.enough;
  written = at_test numbers s e run l lines false (not_yet s e run l still) ∙ m.written;
}

-- each event is made by a line
event_made : (numbers : List ℕ) (s : Setup) (e : ℕ) (run : Run) (lines : List Line) → events_in s run < e → e ≤ events_in s (runs s lines run) → IsMade numbers s e run lines
event_made numbers s e run [] fewer enough = absurd (omega (arith, fewer, enough))
event_made numbers s e run (l ∷ lines) fewer enough = by (nat_le e (events_in s (run_after s l run))) refl (event_made numbers s e (run_after s l run) lines)
  where
    by : (b : Bool) → nat_le e (events_in s (run_after s l run)) ≡ b → (events_in s (run_after s l run) < e → e ≤ events_in s (runs s lines (run_after s l run)) → IsMade numbers s e (run_after s l run) lines) → IsMade numbers s e run (l ∷ lines)
    by true is others =
        let here : e ≤ events_in s (run_after s l run) = grind (arith, nat_tests) in
        record { before = []; line = l; after = lines; is = refl; fewer = fewer; enough = here; written = at_test numbers s e run l lines true (makes s e run l fewer here) }
    by false is others =
        let still : events_in s (run_after s l run) < e = grind (arith, nat_tests) in
        made_later numbers s e run l lines still (others still enough)

pub events_made : EventsAreMade
events_made numbers said e some few = event_made numbers said.setup e run_at_start said.lines some few

-- The line that made the newest event.

module _ (lines : List Line) (s : Setup) (run : Run) (made : LineMade) (u : IsLineMade s lines run_at_start run made) where
  long : length lines ≡ made.line + suc (length u.after)
  long = let all : length lines ≡ length u.before + suc (length u.after) = ap (λ (ls : List Line). length ls) u.is ∙ length-append u.before (u.line ∷ u.after) in let index = u.index in omega (arith, all, index)

  pub line_within : made.line < length lines
  line_within = let all = long in omega (arith, all)

  pub line_there : (d : Line) → get_or lines made.line d ≡ u.line
  line_there d =
      let index = u.index in
      let at : made.line ≡ length u.before + 0 = omega (arith, index) in
      (λ i. get_or (u.is i) (at i) d) ∙ get_or-append-add u.before (u.line ∷ u.after) 0 d

  -- it is the one that is written
  pub newest_written : (numbers : List ℕ) → length numbers ≡ length lines → making_line numbers s (events_in s run) run_at_start lines ≡ made_line (slice_index numbers made.line) (events_in s run - made.before) u.line
  newest_written numbers numbered =
      let all = long in
      let place : length numbers - suc (length u.after) ≡ made.line = omega (arith, all, numbered) in
      let had : events_in s (runs s u.before run_at_start) ≡ made.before = let events = u.events in omega (arith, events) in
      ap (making_line numbers s (events_in s run) run_at_start) u.is ∙ made_at numbers s (events_in s run) run_at_start u.before u.line u.after u.fewer u.enough
      ∙ (λ i. made_line (slice_index numbers (place i)) (events_in s run - had i) u.line)

-- the line that made the newest event exists
pub lines_within : (lines : List Line) (s : Setup) (run : Run) (newest : Option LineMade) → MadeNewest s lines run_at_start run newest → IfSome newest (λ made. made.line < length lines)
lines_within lines s run None u = tt
lines_within lines s run (Some made) u = line_within lines s run made u
