-- The two theorems of the lock, from the invariant: no two processes are inside, and a process that enters overtakes no other.
use Rattle.std.proofs.Common.{◌≡◌, ◌≢◌, ◌⊎◌, ℕ, suc, ◌<◌, ◌≤◌, ◌==◌, ◌&&◌, nat_lt, Bool, true, false, cond, List, [], ◌∷◌, Option, Some, None, refl, sym, ap, subst, ◌∙◌, true≢false, arith, inl, inr, eqb-true, IsTrue, IsFalse, length}
use Rattle.std.proofs.lemmas.Bool.{eqb-false}
use Rattle.std.proofs.lemmas.Bool.Decides.{nat_tests}
use Rattle.std.specs.List.{list_any}
use Rattle.plain_store.specs.{Command, Setup, changes}
use Rattle.model.specs.{Call, Closing, Entry, Event, Past, Place, Version, Wait, Withdraws, bits_with, doorway_begin, doorway_end, enter, entered_if_none, entry_of, has, inside, is_ahead, is_before, is_entered, is_fresh, is_last, is_waiting_stage, lets_by, past_of, place_after, processes, reply, run_after, stage, store_read, value_of, waits_of}
use Rattle.model.specs.declared.marks.Mark.TheVariants.{Taken}
use Rattle.model.specs.Closings as closing
use Rattle.model.specs.Parts.{Part, Lowers, Waits, AsksImage, Clears, last_marks, part_after, to_d, to_e}
use Rattle.model.specs.Parts as part
use Rattle.model.proofs.Width.{IsGood}
use Rattle.laws.specs.{Doing, Rests, Lies, Runs, Closes, call, doing, is_inside, is_inside_at}
use Rattle.laws.proofs.Doings.{stage_of}
use Rattle.laws.proofs.Notes.{Notes, notes, notes_after}
use Rattle.laws.proofs.Invariant.{Inv, Passed, Corresponds, PartCorresponds, InWaiting, wires}
use Rattle.laws.proofs.Frame.{Happens, a_call, a_withdrawal, a_failure, a_restart, a_step, a_closing, notes-other, notes-goes}
use Rattle.laws.proofs.FrameEvents.{accepted}
use Rattle.laws.proofs.FrameInside.{stage-is, inside-is, inside-runs, enter-fresh}
use Rattle.laws.proofs.FrameSteps.{doing-above}
use Rattle.laws.proofs.AtPlaces.{AtPlace, Stepping, IsOfLock, any-stepping, any-closing, any-placed}
use Rattle.laws.proofs.DoorwayParts.{has_begun, has_finished, began-kept, both}
use Rattle.laws.proofs.Numbers.{IsNumber, NumbersAre, NumbersAt, numbers}

-- i has passed j, and both hold a ticket: i's ticket, and on a tie its number, is below j's. Early: j read i's ticket in its doorway once it was whole, and took a greater one. Late: i read j's ticket once it was whole, and found it above its own
pub below : (s : Setup) (past : Past) (i j : ℕ) → Inv s past → i < s.processes → j < s.processes → i ≢ j → (notes s i past).holds ≡ true → (notes s j past).holds ≡ true
    → let a : Notes = notes s i past in
    let b : Notes = notes s j past in
    Passed i a.ticket a.held_at a.choosing_from a.choosing_to a.let_from a.let_by j → (a.ticket < b.ticket) ⊎ ((a.ticket ≡ b.ticket) × (i < j))
below s past i j inv iN jN ne hi hj p =
    let a : Notes = notes s i past in
    let b : Notes = notes s j past in
    let senior = (inv.own j jN).senior in
    let from : a.held_at ≤ a.choosing_from j = p.from in
    let to : a.choosing_to j ≤ a.let_from j = p.then in
    let positive : 0 < b.ticket = senior.positive hj in
    elim ((inv.pair i j iN jN ne).knows.pass hj) [
      | inl early ↦ (
          let asked : b.announced_at ≤ b.asked_from i = senior.from hj i iN ne in
          let same : b.asked i ≡ a.ticket = (inv.pair j i jN iN (λ e. ne (sym e))).knows.doorway hi (omega arith) in
          let above : b.asked i < b.ticket = senior.above hj i iN ne in
          inl (omega arith))
      | inr late ↦ (
          let same : a.let_by j ≡ b.ticket = (inv.pair i j iN jN ne).knows.waiting hj (omega arith) in
          elim p.beyond [ inl none ↦ absurd (omega arith) | inr q ↦ elim q [ inl lt ↦ inl (omega arith) | inr e ↦ (let tie : a.ticket ≡ a.let_by j = e.0 in inr (omega arith, e.1)) ] ])
    ]

-- two processes that are inside have passed each other, and each is below the other
pub together : (s : Setup) (past : Past) (i j : ℕ) → Inv s past → i < s.processes → j < s.processes → i ≢ j → is_inside (doing s i past) ≡ true → is_inside (doing s j past) ≡ true → ⊥
together s past i j inv iN jN ne hi hj =
    let ji : j ≢ i = λ e. ne (sym e) in
    let si = (inv.own i iN).senior in
    let sj = (inv.own j jN).senior in
    let x = below s past i j inv iN jN ne (si.held hi) (sj.held hj) (si.passed hi j jN ji) in
    let y = below s past j i inv jN iN ji (sj.held hj) (si.held hi) (sj.passed hj i iN ne) in
    omega arith

-- a process that is inside and began its doorway after j had finished its own has read j's ticket in it, and took a greater one; yet its ticket is below j's, which it has passed
pub overtaken : (s : Setup) (past : Past) (p j : ℕ) → Inv s past → p < s.processes → j < s.processes → p ≢ j → is_inside (doing s p past) ≡ true →
    (notes s j past).holds ≡ true → (notes s j past).held_at ≤ (notes s j past).ended → (notes s j past).ended < (notes s p past).began → ⊥
overtaken s past p j inv pN jN ne hp hj held first =
    let a : Notes = notes s p past in
    let b : Notes = notes s j past in
    let jp : j ≢ p = λ e. ne (sym e) in
    let senior = (inv.own p pN).senior in
    let mine = senior.held hp in
    let began : a.began ≤ a.announced_at = senior.began_before mine in
    let asked : a.announced_at ≤ a.asked_from j = senior.from mine j jN jp in
    let same : a.asked j ≡ b.ticket = (inv.pair p j pN jN ne).knows.doorway hj (omega arith) in
    let above : a.asked j < a.ticket = senior.above mine j jN jp in
    let x = below s past p j inv pN jN ne mine hj (senior.passed hp j jN jp) in
    omega arith

-- The definitions of `record` for processes that are inside, wait or enter.

pub less : (i n : ℕ) → nat_lt i n ≡ true → i < n
less i n h = grind (arith, nat_tests)

pub not_less : (i n : ℕ) → nat_lt i n ≡ false → n ≤ i
not_less i n h = grind (arith, nat_tests)

-- only existing processes act
pub is_process : (s : Setup) → IsGood s → (events : List Event) (p : ℕ) → doing s p (past_of s events) ≢ Rests → p < s.processes
is_process s g events p h = go (nat_lt p s.processes) refl
  where
    go : (b : Bool) → nat_lt p s.processes ≡ b → p < s.processes
    go true k = less p s.processes k
    go false k = absurd (h (doing-above s g events p (not_less p s.processes k)))

pub insider : (s : Setup) → IsGood s → (events : List Event) (p : ℕ) → inside p (past_of s events) ≡ true → p < s.processes
insider s g events p h = is_process s g events p (λ r. true≢false (sym (sym (inside-is s g events p) ∙ h) ∙ ap is_inside r))

-- the place of a process that waits
pub record WaitsAt (d : Doing) : Type 0 where
  pub command : Command
  pub number : ℕ
  pub at : Place
  pub does : d ≡ Runs command number at
  pub ticket : ℕ
  pub wait : Wait
  pub waits : List Wait
  pub part_is : at.part ≡ Waits ticket wait waits

waiting-part : (x : Part) (fresh : Bool) → is_waiting_stage (part.stage_of x fresh) ≡ true → (t : ℕ) × (w : Wait) × (ws : List Wait) × (x ≡ Waits t w ws)
waiting-part (Waits t w ws) fresh h = (t, w, ws, refl)
waiting-part (Clears a) true h = absurd (true≢false (sym h))
waiting-part (Clears a) false h = absurd (true≢false (sym h))
waiting-part _ fresh h = absurd (true≢false (sym h))

waiting-closing : (at : Closing) → is_waiting_stage (closing.closing_stage at) ≡ false
waiting-closing (Withdraws w) = refl
waiting-closing _ = refl

pub waiting-at : (d : Doing) → is_waiting_stage (stage_of d) ≡ true → WaitsAt d
waiting-at Rests h = absurd (true≢false (sym h))
waiting-at Lies h = absurd (true≢false (sym h))
waiting-at (Closes command number at) h = absurd (true≢false (sym h ∙ waiting-closing at))
waiting-at (Runs command number at) h =
    let (t, w, ws, is) = waiting-part at.part (is_fresh at.run) h in
    record { command = command; number = number; at = at; does = refl; ticket = t; wait = w; waits = ws; part_is = is }

pub waiter : (s : Setup) → IsGood s → (events : List Event) (p : ℕ) → is_waiting_stage (stage p (past_of s events)) ≡ true → WaitsAt (doing s p (past_of s events))
waiter s g events p h = waiting-at (doing s p (past_of s events)) (ap is_waiting_stage (sym (stage-is s g events p)) ∙ h)

-- the numbers of its doorway
pub waiter-numbers : (s : Setup) → IsGood s → (events : List Event) (p : ℕ) → WaitsAt (doing s p (past_of s events)) →
    let past : Past = past_of s events in
    NumbersAre true true (doorway_begin p past) (doorway_end p past) (notes s p past).began (notes s p past).ended (length past)
waiter-numbers s g events p x =
    let past : Past = past_of s events in
    let h : NumbersAt s past p x.command x.number x.at = subst (AtPlace (NumbersAt s past p)) x.does (numbers s g events p) in
    subst (λ y. NumbersAre (has_begun y (is_fresh x.at.run)) (has_finished y) (doorway_begin p past) (doorway_end p past) (notes s p past).began (notes s p past).ended (length past)) x.part_is h.1

-- it holds a ticket, which was whole as its doorway ended
pub waiter-holds : (s : Setup) (past : Past) (p : ℕ) → Inv s past → p < s.processes → WaitsAt (doing s p past) → ((notes s p past).holds ≡ true) × ((notes s p past).held_at ≤ (notes s p past).ended)
waiter-holds s past p inv pN x =
    let n : Notes = notes s p past in
    let corresponds : Corresponds s p n (wires s past p) (Runs x.command x.number x.at) = subst (Corresponds s p n (wires s past p)) x.does (inv.own p pN).corresponds in
    let waits : InWaiting s p n x.ticket x.wait x.waits = subst (λ y. PartCorresponds s p n y (is_fresh x.at.run)) x.part_is corresponds.1 in
    (waits.holding, waits.ended_after)

-- no process is ahead of itself
pub not_ahead_of_itself : (s : Setup) → IsGood s → (events : List Event) (p : ℕ) → is_ahead (past_of s events) p p ≡ false
not_ahead_of_itself s g events p = go (is_waiting_stage (stage p past)) refl
  where
    past : Past
    past = past_of s events

    later : (begin end : Option ℕ) (began ended : ℕ) → IsNumber begin began → IsNumber end ended → began < ended → is_before end begin ≡ false
    later begin end began ended b e lt =
        let k : began ≡ suc b.0 = b.2 in
        let m : ended ≡ suc e.0 = e.2 in
        let no : nat_lt e.0 b.0 ≡ false = not_below e.0 b.0 (omega (arith, lt, k, m)) in
        (λ i. is_before (e.1 i) (b.1 i)) ∙ no
      where
        not_below : (i n : ℕ) → n ≤ i → nat_lt i n ≡ false
        not_below i n h = grind (arith, nat_tests)

    go : (w : Bool) → is_waiting_stage (stage p past) ≡ w → (w && is_before (doorway_end p past) (doorway_begin p past)) ≡ false
    go false h = refl
    go true h =
        let x = waiter-numbers s g events p (waiter s g events p h) in
        later (doorway_begin p past) (doorway_end p past) (notes s p past).began (notes s p past).ended (x.begun_is refl) (x.finished_is refl) (x.order refl)

-- a process enters with a step of its call, once its doorway has begun
pub record Enters (s : Setup) (past : Past) (p : ℕ) (e : Entry) : Type 0 where
  pub command : Command
  pub number : ℕ
  pub at : Place
  pub stepping : Stepping s past p e command number at
  pub begun : (fresh : Bool) → has_begun at.part fresh ≡ true
  pub inside_then : is_inside (doing s p (e ∷ past)) ≡ true

abbrev pub of_entered : IsOfLock is_entered
of_entered = record { taken = λ k r. refl; remaining = refl; settled = λ v. refl; down = refl; withdrawn = refl }

entered-to_d : (c : Call) (t : ℕ) (ws : List Wait) → list_any is_entered (entered_if_none ws) ≡ true → is_inside_at (to_d c t ws) true ≡ true
entered-to_d c t [] h = go (processes c.setup) []
  where
    go : (ks : List ℕ) (vs : List Version) → is_inside_at (to_e ks vs) true ≡ true
    go [] vs = refl
    go (k ∷ ks) vs = refl
entered-to_d c t (w ∷ ws) h = absurd (true≢false (sym h))

entered-last : (c : Call) (x : Part) (bits : List Bool) → list_any is_entered (last_marks c x bits) ≡ true → ((fresh : Bool) → has_begun x fresh ≡ true) × (is_inside_at (part_after c x bits) true ≡ true)
entered-last c (Lowers t) bits h = (λ _. refl, entered-to_d c t (waits_of c) h)
entered-last c (Waits t w ws) bits h = (λ _. refl, go (lets_by c t w bits) h)
  where
    go : (b : Bool) → list_any is_entered (cond b (entered_if_none ws) []) ≡ true → is_inside_at (to_d c t (cond b ws (w ∷ ws))) true ≡ true
    go true k = entered-to_d c t ws k
    go false k = absurd (true≢false (sym k))
entered-last c (AsksImage vs) bits h = absurd (true≢false (sym h ∙ go (changes (store_read c bits) c.command)))
  where
    go : (b : Bool) → list_any is_entered (cond b [] (Taken 0 (reply c (store_read c bits)) ∷ [])) ≡ false
    go true = refl
    go false = refl
entered-last c _ bits h = absurd (true≢false (sym h))

pub enters : (s : Setup) (past : Past) (p : ℕ) (e : Entry) → Happens s past p e (doing s p past) (doing s p (e ∷ past)) → has is_entered e ≡ true → Enters s past p e
enters s past p e (a_call command number i a m k) h = absurd (true≢false (sym h ∙ ap (list_any is_entered) m))
enters s past p e (a_withdrawal command number t w ws run i a m k) h = absurd (true≢false (sym h ∙ ap (list_any is_entered) m))
enters s past p e (a_failure command number i a m k) h = absurd (true≢false (sym h ∙ ap (list_any is_entered) m))
enters s past p e (a_restart i a m k) h = absurd (true≢false (sym h ∙ ap (list_any is_entered) m))
enters s past p e (a_closing command number at flick n i next is v m k) h =
    absurd (true≢false (sym h ∙ ap (list_any is_entered) m ∙ any-placed is_entered of_entered _ n.marks ∙ any-closing is_entered of_entered (call s p command number) at flick n next))
enters s past p e (a_step command number at a flick i o is made m k) h = record {
  command = command;
  number = number;
  at = at;
  stepping = stepping;
  begun = facts.0;
  inside_then = ap is_inside k ∙ inside-runs command number to ∙ then;
}
  where
    c : Call
    c = call s p command number

    v : Bool
    v = value_of a.how

    to : Place
    to = place_after c at v

    stepping : Stepping s past p e command number at
    stepping = record { access = a; flick = flick; does = i; not_over = o; is = is; made = made; marks = m }

    tests : (is_last c at.part at.run ≡ true) × (list_any is_entered (last_marks c at.part (bits_with at.run v)) ≡ true)
    tests = both (is_last c at.part at.run) (list_any is_entered (last_marks c at.part (bits_with at.run v))) (sym (any-stepping is_entered of_entered s past p e command number at stepping) ∙ h)

    facts : ((fresh : Bool) → has_begun at.part fresh ≡ true) × (is_inside_at (part_after c at.part (bits_with at.run v)) true ≡ true)
    facts = entered-last c at.part (bits_with at.run v) tests.1

    at_end : to ≡ enter c (part_after c at.part (bits_with at.run v))
    at_end = ap (λ b. cond b (enter c (part_after c at.part (bits_with at.run v))) (record { part = at.part; run = run_after c at.part at.run v })) tests.0

    then : is_inside_at to.part (is_fresh to.run) ≡ true
    then = ap (λ (y : Place). is_inside_at y.part (is_fresh y.run)) at_end ∙ ap (is_inside_at (part_after c at.part (bits_with at.run v))) (enter-fresh c (part_after c at.part (bits_with at.run v))) ∙ facts.1

-- The two theorems of every record whose pasts keep the invariant.

-- every past of every record of the setup keeps the invariant
abbrev pub IsKept : Setup → Type 0
IsKept s = (events : List Event) → Inv s (past_of s events)

pub mutual_exclusion : (s : Setup) → IsGood s → IsKept s → (events : List Event) (i j : ℕ) → IsTrue (inside i (past_of s events)) → IsTrue (inside j (past_of s events)) → i ≡ j
mutual_exclusion s g kept events i j hi hj = go (i == j) refl
  where
    go : (b : Bool) → (i == j) ≡ b → i ≡ j
    go true e = eqb-true i j e
    go false e = absurd (together s (past_of s events) i j (kept events) (insider s g events i hi) (insider s g events j hj) (eqb-false i j e)
        (sym (inside-is s g events i) ∙ hi) (sym (inside-is s g events j) ∙ hj))

pub no_overtaking : (s : Setup) → IsGood s → IsKept s → (events : List Event) (event : Event) (e : Entry) → entry_of s (past_of s events) event ≡ Some e →
    IsTrue (has is_entered e) → (j : ℕ) → IsFalse (is_ahead (past_of s events) j e.process)
no_overtaking s g kept events event e is h j = go (is_waiting_stage (stage j past)) refl (is_before (doorway_end j past) (doorway_begin p past)) refl
  where
    past : Past
    past = past_of s events

    p : ℕ
    p = e.process

    enter_p : Enters s past p e
    enter_p = enters s past p e (accepted s g events event e is).happens h

    inv : Inv s (e ∷ past)
    inv = subst (λ o. Inv s (elim o as (λ _. Past) [ None ↦ past | Some x ↦ x ∷ past ])) is (kept (event ∷ events))

    begin : IsNumber (doorway_begin p past) (notes s p past).began
    begin =
        let k : NumbersAt s past p enter_p.command enter_p.number enter_p.at = subst (AtPlace (NumbersAt s past p)) enter_p.stepping.does (numbers s g events p) in
        k.1.begun_is (enter_p.begun (is_fresh enter_p.at.run))

    -- it began its doorway before
    began : (notes s p (e ∷ past)).began ≡ (notes s p past).began
    began =
        let c : Call = call s p enter_p.command enter_p.number in
        ap (λ (n : Notes). n.began) (notes-goes s p e past refl ∙ ap (λ a. notes_after s p (suc (length past)) a (doing s p past) (notes s p past)) enter_p.stepping.is
        ∙ ap (λ d. notes_after s p (suc (length past)) (Some enter_p.stepping.access) d (notes s p past)) enter_p.stepping.does)
        ∙ began-kept enter_p.at.part (is_fresh enter_p.at.run) (suc (length past)) (notes s p past).began (enter_p.begun (is_fresh enter_p.at.run))

    before : (end begin : Option ℕ) (ended began : ℕ) → IsNumber end ended → IsNumber begin began → is_before end begin ≡ true → ended < began
    before end begin ended began x y h =
        let k : ended ≡ suc x.0 = x.2 in
        let m : began ≡ suc y.0 = y.2 in
        let l = less x.0 y.0 (sym (λ i. is_before (x.1 i) (y.1 i)) ∙ h) in
        omega (arith, k, m, l)

    apart : is_waiting_stage (stage j past) ≡ true → is_before (doorway_end j past) (doorway_begin p past) ≡ true → p ≢ j → ⊥
    apart w b ne =
        let x : WaitsAt (doing s j past) = waiter s g events j w in
        let jN : j < s.processes = is_process s g events j (λ r. true≢false (sym (ap is_waiting_stage (sym (stage-is s g events j)) ∙ w) ∙ ap (λ d. is_waiting_stage (stage_of d)) r)) in
        let pN : p < s.processes = (accepted s g events event e is).below in
        let same : notes s j (e ∷ past) ≡ notes s j past = notes-other s j e past ne in
        let held = waiter-holds s past j (kept events) jN x in
        let first : (notes s j past).ended < (notes s p past).began = before (doorway_end j past) (doorway_begin p past) (notes s j past).ended (notes s p past).began ((waiter-numbers s g events j x).finished_is refl) begin b in
        overtaken s (e ∷ past) p j inv pN jN ne enter_p.inside_then
        (subst (λ (n : Notes). n.holds ≡ true) (sym same) held.0)
        (subst (λ (n : Notes). n.held_at ≤ n.ended) (sym same) held.1)
        (subst (λ (n : Notes). n.ended < (notes s p (e ∷ past)).began) (sym same) (subst (λ t. (notes s j past).ended < t) (sym began) first))

    not_both : is_waiting_stage (stage j past) ≡ true → is_before (doorway_end j past) (doorway_begin p past) ≡ true → ⊥
    not_both w b = at (p == j) refl
      where
        at : (c : Bool) → (p == j) ≡ c → ⊥
        at true i = let one : p ≡ j = eqb-true p j i in
            true≢false (sym (λ k. w k && b k) ∙ ap (is_ahead past j) one ∙ not_ahead_of_itself s g events j)
        at false i = apart w b (eqb-false p j i)

    go : (w : Bool) → is_waiting_stage (stage j past) ≡ w → (b : Bool) → is_before (doorway_end j past) (doorway_begin p past) ≡ b → (is_waiting_stage (stage j past) && is_before (doorway_end j past) (doorway_begin p past)) ≡ false
    go true k true l = absurd (not_both k l)
    go true k false l = λ i. k i && l i
    go false k b l = ap (λ w. w && is_before (doorway_end j past) (doorway_begin p past)) k
