-- Each process before a process inside, in the line of tickets of a picture, no longer waits.
use Rattle.std.proofs.Common.{◌≡◌, ◌≢◌, ◌⊎◌, inl, inr, ◌<◌, ℕ, ◌==◌, ◌&&◌, ◌||◌, nat_lt, Bool, true, false, cond, List, [], ◌∷◌, Contains, IsTrue, Some, None, length, refl, ap, sym, subst, ◌∙◌, true≢false, arith, eqb-true, eq-eqb}
use Rattle.std.specs.Prelude.{fold}
use Rattle.std.specs.List.{list_any}
use Rattle.std.proofs.lemmas.Bool.{ltb-true}
use Rattle.std.proofs.lemmas.Grind.{fold-append}
use Rattle.model.specs.plain_store.{Setup, changes}
use Rattle.record_accesses.proofs.plain_store.GoodSetups.{few-processes}
use Rattle.model.specs.{Call, Entry, Event, Past, Stage, Wait, bits_with, entered_if_none, entry_of, has, history, inside, is_below, is_entered, is_fresh, is_last, lets_by, marks_of, past_of, reply, stage, stage_after, store_read, value_of, waits_of}
use Rattle.model.specs.declared.marks.Mark.TheVariants.{Taken}
use Rattle.model.specs.declared.stages.Stage.TheVariants.{Idle, Doorway, Waiting, Inside, Leaving, Settling, Down}
use Rattle.model.specs.Parts.{Part, Lowers, Waits, AsksImage, first_marks, last_marks}
use Rattle.model.proofs.Staging.{stage-placed}
use Rattle.model.proofs.Width.{IsGood, is_good}
use Rattle.scenario_run.specs.laws.{call, doing, is_inside, ticket_reported}
use Rattle.scenario_run.proofs.laws.Always.{inv_of}
use Rattle.scenario_run.proofs.laws.AtPlaces.{any-stepping}
use Rattle.scenario_run.proofs.laws.DoorwayParts.{both}
use Rattle.scenario_run.proofs.laws.FrameEvents.{accepted}
use Rattle.scenario_run.proofs.laws.FrameInside.{inside-is}
use Rattle.scenario_run.proofs.laws.Invariant.{Inv}
use Rattle.scenario_run.proofs.laws.Theorems.{Enters, enters, mutual_exclusion, of_entered}
use Rattle.picture.specs.{Accesses, Item, Judges, Reads, Reports, line_contents, state_after}
use Rattle.picture.specs.picture_layout.{StagesAreTheRecords, State, at_first, before_in, line_of_first, marks_in, stage_among, state_reported, ticket_in}
use Rattle.scenario_run.proofs.laws.FirstInLine.{first_inside}
use Rattle.scenario_run.proofs.laws.HeldTickets.{insiders}
use Rattle.draw.specs.{IsFirstInLine, WaitsNoMore, WhoEntersIsFirst, WhoIsInsideIsDrawnFirst, WhoIsInsideIsFirst, state_of_lines}
use Rattle.draw.proofs.Insides as insides
use Rattle.draw.proofs.LineOrder.{Below, HasTicket, comes_before_in_line}
use Rattle.draw.proofs.SeatTickets.{lines_processes, lines_stages, tickets_are}
use Rattle.draw.proofs.TicketsShown.{ShownAt, record_shown, shown_reported, shows, ticket_shown}

-- no two pairs are each below the other
crossed : (a p b q : ℕ) → is_below a p b q ≡ true → (b < a) ⊎ ((b ≡ a) × (q < p)) → ⊥
crossed a p b q is other = go (nat_lt a b) refl
  where
    not_both : (a < b) ⊎ ((a ≡ b) × (p < q)) → (b < a) ⊎ ((b ≡ a) × (q < p)) → ⊥
    not_both (inl x) (inl y) = omega (arith, x, y)
    not_both (inl x) (inr (same, y)) = omega (arith, x, same)
    not_both (inr (same, x)) (inl y) = omega (arith, same, y)
    not_both (inr (same, x)) (inr (again, y)) = omega (arith, x, y)

    go : (t : Bool) → nat_lt a b ≡ t → ⊥
    go true lower = not_both (inl (ltb-true a b lower)) other
    go false up =
        let tie : ((a == b) ≡ true) × (nat_lt p q ≡ true) = both (a == b) (nat_lt p q) (sym (ap (λ t. t || ((a == b) && nat_lt p q)) up) ∙ is) in
        not_both (inr (eqb-true a b tie.0, ltb-true p q tie.1)) other

-- the marks report a ticket for a process that is inside
insider-positive : (s : Setup) → IsGood s → (events : List Event) (p : ℕ) → p < s.processes → inside p (past_of s events) ≡ true → 0 < ticket_reported p (past_of s events)
insider-positive s g events p pN within =
    let inv : Inv s (past_of s events) = inv_of s g events in
    let here : is_inside (doing s p (past_of s events)) ≡ true = sym (inside-is s g events p) ∙ within in
    subst (λ t. 0 < t) (sym (insiders s g events p within)) ((inv.own p pN).senior.positive ((inv.own p pN).senior.held here))

-- By the record: a process whose ticket is below the ticket of a process inside no longer waits.
no_more : (s : Setup) → IsGood s → (events : List Event) (p q : ℕ)
    → let past : Past = past_of s events in
    stage p past ≡ Inside → ticket_shown q past ≢ 0 → (ticket_shown q past < ticket_shown p past) ⊎ ((ticket_shown q past ≡ ticket_shown p past) × (q < p)) → WaitsNoMore (stage q past)
no_more s g events p q at holds below = go (stage q past) refl (shows s g events q)
  where
    past : Past
    past = past_of s events

    within : inside p past ≡ true
    within = insides.is_inside p past at

    mine : ticket_shown p past ≡ ticket_reported p past
    mine = subst (λ x. ShownAt x (ticket_shown p past) (ticket_reported p past)) at (shows s g events p)

    apart : (ticket_shown q past < ticket_shown p past) ⊎ ((ticket_shown q past ≡ ticket_shown p past) × (q < p)) → q ≢ p
    apart (inl lower) same = let e : ticket_shown q past ≡ ticket_shown p past = ap (λ r. ticket_shown r past) same in omega (arith, lower, e)
    apart (inr (tie, lower)) same = omega (arith, lower, same)

    go : (st : Stage) → stage q past ≡ st → ShownAt (stage q past) (ticket_shown q past) (ticket_reported q past) → WaitsNoMore (stage q past)
    go Idle is shown = absurd (holds (subst (λ x. ShownAt x (ticket_shown q past) (ticket_reported q past)) is shown))
    go Doorway is shown = absurd (holds (subst (λ x. ShownAt x (ticket_shown q past) (ticket_reported q past)) is shown))
    go Down is shown = absurd (holds (subst (λ x. ShownAt x (ticket_shown q past) (ticket_reported q past)) is shown))
    go Inside is shown = absurd (apart below (mutual_exclusion s g (inv_of s g) events q p (insides.is_inside q past is) within))
    go Leaving is shown = inl is
    go Settling is shown = inr is
    go Waiting is shown =
        let its : ticket_shown q past ≡ ticket_reported q past = subst (λ x. ShownAt x (ticket_shown q past) (ticket_reported q past)) is shown in
        absurd (crossed (ticket_reported p past) p (ticket_reported q past) q (first_inside s g events p within q is)
        (subst (λ t. (t < ticket_reported p past) ⊎ ((t ≡ ticket_reported p past) × (q < p))) its (subst (λ u. (ticket_shown q past < u) ⊎ ((ticket_shown q past ≡ u) × (q < p))) mine below)))

-- By the lines of a picture.
pub inside_first : StagesAreTheRecords → WhoIsInsideIsFirst
inside_first are s good events lines say p pN at q before =
    subst WaitsNoMore (sym (stage_is q qN)) (no_more s g events p q stage_p (λ none. found.0.1 (ticket_is q qN ∙ none))
    (subst (λ t. (t < ticket_shown p past) ⊎ ((t ≡ ticket_shown p past) × (q < p))) (ticket_is q qN) (subst (λ u. (ticket_in state q < u) ⊎ ((ticket_in state q ≡ u) × (q < p))) (ticket_is p pN) found.1)))
  where
    g : IsGood s
    g = is_good s good

    past : Past
    past = past_of s events

    state : State
    state = state_of_lines s.processes lines

    few : (r : ℕ) → r < s.processes → r < 16
    few r rN = let most = few-processes s good in omega (arith, most, rN)

    stage_is : (r : ℕ) → r < s.processes → stage_among state.stages r ≡ stage r past
    stage_is r rN = ap (λ l. stage_among l r) (lines_stages (at_first s.processes) lines) ∙ are s.processes lines past say r rN (few r rN)

    ticket_is : (r : ℕ) → r < s.processes → ticket_in state r ≡ ticket_shown r past
    ticket_is r rN = tickets_are s.processes lines r rN (few r rN) ∙ ap (fold (shown_reported r) 0) say ∙ record_shown r past

    stage_p : stage p past ≡ Inside
    stage_p = sym (stage_is p pN) ∙ at

    holds : ticket_in state p ≢ 0
    holds none =
        let reported : ticket_shown p past ≡ ticket_reported p past = subst (λ x. ShownAt x (ticket_shown p past) (ticket_reported p past)) stage_p (shows s g events p) in
        let positive = insider-positive s g events p pN (insides.is_inside p past stage_p) in
        let shown = ticket_is p pN in
        omega (arith, none, reported, positive, shown)

    found : HasTicket state s.processes q × Below state q p
    found = comes_before_in_line state s.processes p pN holds q (subst (λ n. Contains (before_in p (line_of_first state n)) q) (lines_processes (at_first s.processes) lines) before)

    qN : q < s.processes
    qN = found.0.0

-- Entering.

-- after the marks of an entry with which its process enters, the process is inside
ends-inside : (c : Call) (x : Part) (bits : List Bool) (st : Stage) → list_any is_entered (last_marks c x bits) ≡ true → fold stage_after st (last_marks c x bits) ≡ Inside
ends-inside c (Lowers t) bits st h = go (waits_of c) h
  where
    go : (ws : List Wait) → list_any is_entered (entered_if_none ws) ≡ true → fold stage_after Waiting (entered_if_none ws) ≡ Inside
    go [] k = refl
    go (w ∷ ws) k = absurd (true≢false (sym k))
ends-inside c (Waits t w ws) bits st h = go (lets_by c t w bits) ws h
  where
    go : (b : Bool) (ws : List Wait) → list_any is_entered (cond b (entered_if_none ws) []) ≡ true → fold stage_after st (cond b (entered_if_none ws) []) ≡ Inside
    go true [] k = refl
    go true (w ∷ ws) k = absurd (true≢false (sym k))
    go false ws k = absurd (true≢false (sym k))
ends-inside c (AsksImage vs) bits st h = absurd (true≢false (sym h ∙ go (changes (store_read c bits) c.command)))
  where
    go : (b : Bool) → list_any is_entered (cond b [] (Taken 0 (reply c (store_read c bits)) ∷ [])) ≡ false
    go true = refl
    go false = refl
ends-inside c _ bits st h = absurd (true≢false (sym h))

enters-stage : (s : Setup) → IsGood s → (events : List Event) (event : Event) (e : Entry) → entry_of s (past_of s events) event ≡ Some e → IsTrue (has is_entered e) → stage e.process (e ∷ past_of s events) ≡ Inside
enters-stage s g events event e is h =
    ap (λ b. cond b (fold stage_after was e.marks) was) (eq-eqb p p refl)
    ∙ ap (fold stage_after was) x.stepping.marks
    ∙ stage-placed (length (history s past)) was (marks_of c x.at v)
    ∙ fold-append stage_after was (cond (is_fresh x.at.run) (first_marks x.at.part) []) (cond (is_last c x.at.part x.at.run) (last_marks c x.at.part bits) [])
    ∙ ap (λ b. fold stage_after first (cond b (last_marks c x.at.part bits) [])) tests.0
    ∙ ends-inside c x.at.part bits first tests.1
  where
    past : Past
    past = past_of s events

    p : ℕ
    p = e.process

    was : Stage
    was = stage p past

    x : Enters s past p e
    x = enters s past p e (accepted s g events event e is).happens h

    c : Call
    c = call s p x.command x.number

    v : Bool
    v = value_of x.stepping.access.how

    bits : List Bool
    bits = bits_with x.at.run v

    first : Stage
    first = fold stage_after was (cond (is_fresh x.at.run) (first_marks x.at.part) [])

    tests : (is_last c x.at.part x.at.run ≡ true) × (list_any is_entered (last_marks c x.at.part bits) ≡ true)
    tests = both (is_last c x.at.part x.at.run) (list_any is_entered (last_marks c x.at.part bits)) (sym (any-stepping is_entered of_entered s past p e x.command x.number x.at x.stepping) ∙ h)

pub entering_first : StagesAreTheRecords → WhoEntersIsFirst
entering_first are s good events event e is h lines say = inside_first are s good (event ∷ events) lines (say ∙ ap marks_in (sym then)) p pN
    (ap (λ l. stage_among l p) (lines_stages (at_first s.processes) lines) ∙ are s.processes lines (e ∷ past_of s events) say p pN (let most = few-processes s good in omega (arith, most, pN))
    ∙ enters-stage s (is_good s good) events event e is h)
  where
    p : ℕ
    p = e.process

    pN : p < s.processes
    pN = (accepted s (is_good s good) events event e is).below

    then : past_of s (event ∷ events) ≡ e ∷ past_of s events
    then = ap (λ o. elim o as (λ _. Past) [ None ↦ past_of s events | Some x ↦ x ∷ past_of s events ]) is

-- By the items of a picture.
items_report : (processes : ℕ) (items : List Item) → state_after (at_first processes) items ≡ state_of_lines processes (line_contents items)
items_report processes [] = refl
items_report processes (Reports line ∷ before) = ap (λ state. state_reported state line.line_content) (items_report processes before) ∙ sym (fold-append state_reported (at_first processes) (line_contents before) (line.line_content ∷ []))
items_report processes (Reads read ∷ before) = items_report processes before
items_report processes (Accesses access ∷ before) = items_report processes before
items_report processes (Judges at verdict ∷ before) = items_report processes before

pub drawn_first : StagesAreTheRecords → WhoIsInsideIsDrawnFirst
drawn_first are s good events items say p pN = subst (λ (state : State). stage_among state.stages p ≡ Inside → IsFirstInLine state p) (sym (items_report s.processes items)) (inside_first are s good events (line_contents items) say p pN)
