-- The knots of the marks of a record are the commands of its history.
use Rattle.std.proofs.Common.{◌≡◌, ◌≤◌, ℕ, suc, ◌+◌, List, [], ◌∷◌, ◌++◌, length, map, Option, None, Some, Contains, refl, ap, sym, ◌∙◌, add-zero, arith}
use Rattle.std.proofs.lemmas.Grind.{flat_map-append}
use Rattle.std.proofs.lemmas.List.{length-append, length-map}
use Rattle.model.specs.plain_store.{Reply, Setup}
use Rattle.model.specs.{Entry, Event, Mark, Past, Taken, entry_of, history, last_call, own, past_of, reply_taken, takings}
use Rattle.model.specs.declared.marks.Mark.TheVariants as mark
use Rattle.model.proofs.Width.{IsGood, is_good}
use Rattle.scenario_run.specs.history_laws.{taken_with}
use Rattle.scenario_run.proofs.history_laws.Places.{at_its_place, grows_by_the_taken}
use Rattle.picture.specs.picture_layout.{marks_in}
use Rattle.draw.specs.{ChainIsTheHistory, Knot, knot_of, knots, numbered}

-- the knot of a command that is taken
abbrev tied : ℕ → ℕ × Reply → Knot
tied p t = record { process = p; place = t.0; reply = t.1 }

-- the knots of an entry's marks
entry_knots : (p : ℕ) (marks : List Mark) → knots (map (λ (m : Mark). (p, m)) marks) ≡ map (tied p) (takings marks)
entry_knots p [] = refl
entry_knots p (mark.Taken k r ∷ marks) = ap (λ l. tied p (k, r) ∷ l) (entry_knots p marks)
entry_knots p (m ∷ marks) = entry_knots p marks

-- the numbers of commands, and then of more
numbered_on : (k : ℕ) (taken more : List Taken) → numbered k (taken ++ more) ≡ numbered k taken ++ numbered (length taken + k) more
numbered_on k [] more = let same : k ≡ 0 + k = omega arith in ap (λ n. numbered n more) same
numbered_on k (t ∷ taken) more =
    let same : length taken + suc k ≡ suc (length taken) + k = omega arith in
    ap (λ (l : List Knot). record { process = t.process; place = k; reply = t.reply } ∷ l)
    (numbered_on (suc k) taken more ∙ ap (λ n. numbered (suc k) taken ++ numbered n more) same)

-- at most one command is taken at this position, and its knot has this position
placed_knots : (s : Setup) (past : Past) (e : Entry) (n : ℕ) (taken : List (ℕ × Reply)) → length taken ≤ 1 → ((k : ℕ) (r : Reply) → Contains taken (k, r) → k ≡ n) →
    map (tied e.process) taken ≡ numbered n (map (λ (t : ℕ × Reply). taken_with s past e t.1) taken)
placed_knots s past e n [] few at = refl
placed_knots s past e n (t ∷ []) few at = ap (λ k. tied e.process (k, t.1) ∷ []) (at t.0 t.1 (0, omega arith, refl))
placed_knots s past e n (t ∷ next ∷ taken) few at = absurd (omega (arith, few))

-- an entry takes at most one command
grown : (s : Setup) (past : Past) (e : Entry) → length (history s (e ∷ past)) ≤ length (history s past) + 1
grown s past e = go (reply_taken e.marks)
  where
    go : (o : Option Reply) → length (elim o as (λ _. List Taken) [
      | None ↦ history s past
      | Some r ↦ history s past ++ record { process = e.process; command = (last_call s e.process (own e.process past)).command; reply = r; number = (last_call s e.process (own e.process past)).number } ∷ []
    ]) ≤ length (history s past) + 1
    go None = omega arith
    go (Some r) = let long = length-append (history s past) (record { process = e.process; command = (last_call s e.process (own e.process past)).command; reply = r; number = (last_call s e.process (own e.process past)).number } ∷ []) in omega (arith, long)

pub few_taken : (s : Setup) (past : Past) (e : Entry) → history s (e ∷ past) ≡ history s past ++ map (λ (t : ℕ × Reply). taken_with s past e t.1) (takings e.marks) → length (takings e.marks) ≤ 1
few_taken s past e grows =
    let long = ap length grows ∙ length-append (history s past) (map (λ (t : ℕ × Reply). taken_with s past e t.1) (takings e.marks)) in
    let same = length-map (takings e.marks) (λ (t : ℕ × Reply). taken_with s past e t.1) in
    let most = grown s past e in omega (arith, long, same, most)

-- one more entry
entry_more : (s : Setup) (past : Past) (e : Entry) → ((k : ℕ) (r : Reply) → Contains (takings e.marks) (k, r) → k ≡ length (history s past)) →
    history s (e ∷ past) ≡ history s past ++ map (λ (t : ℕ × Reply). taken_with s past e t.1) (takings e.marks) →
    knots (marks_in past) ≡ numbered 0 (history s past) → knots (marks_in (e ∷ past)) ≡ numbered 0 (history s (e ∷ past))
entry_more s past e at grows before =
    flat_map-append knot_of (marks_in past) (map (λ (m : Mark). (e.process, m)) e.marks)
    ∙ (λ i. before i ++ (entry_knots e.process e.marks ∙ placed_knots s past e (length (history s past)) (takings e.marks) (few_taken s past e grows) at) i)
    ∙ ap (λ n. numbered 0 (history s past) ++ numbered n (map (λ (t : ℕ × Reply). taken_with s past e t.1) (takings e.marks))) (sym (add-zero (length (history s past))))
    ∙ sym (numbered_on 0 (history s past) (map (λ (t : ℕ × Reply). taken_with s past e t.1) (takings e.marks)))
    ∙ ap (numbered 0) (sym grows)

-- one more event
event_more : (s : Setup) → IsGood s → (event : Event) (events : List Event) (o : Option Entry) → entry_of s (past_of s events) event ≡ o → knots (marks_in (past_of s events)) ≡ numbered 0 (history s (past_of s events)) →
    knots (marks_in (elim o as (λ _. List Entry) [ None ↦ past_of s events | Some e ↦ e ∷ past_of s events ])) ≡ numbered 0 (history s (elim o as (λ _. List Entry) [ None ↦ past_of s events | Some e ↦ e ∷ past_of s events ]))
event_more s good event events None is before = before
event_more s good event events (Some e) is before = entry_more s (past_of s events) e (at_its_place s good events event e is) (grows_by_the_taken s good events event e is) before

pub knots_are : (s : Setup) → IsGood s → (events : List Event) → knots (marks_in (past_of s events)) ≡ numbered 0 (history s (past_of s events))
knots_are s good [] = refl
knots_are s good (event ∷ events) = event_more s good event events (entry_of s (past_of s events) event) refl (knots_are s good events)

pub chain_is : ChainIsTheHistory
chain_is s checked events lines say = ap knots say ∙ knots_are s (is_good s checked) events
