-- How an entry changes the state of a table.
use Rattle.std.proofs.Common.{◌≡◌, ◌≢◌, ℕ, zero, suc, ◌+◌, ◌-◌, ◌^◌, ◌<◌, ◌≤◌, not, ◌&&◌, cond, List, [], ◌∷◌, Option, None, Some, length, map, ◌++◌, slice_get, slice_set, refl, sym, ap, ◌∙◌, subst, arith, add-one, inl, inr, ne_eqb, length-set}
use Rattle.std.proofs.lemmas.Bool.{cases_eq, cases_lt}
use Rattle.std.proofs.lemmas.Option.{slice_get-get_or, slice_get_past, slice_get_within}
use Rattle.std.proofs.lemmas.List.{get_or-set_same, get_or-set_other}
use Rattle.std.proofs.lemmas.List.FromFn.{get_or-map-range_with_len, length-map-range_with_len, map-range_with_len_more}
use Rattle.std.specs.List.{range_with_len}
use Rattle.plain_store.specs.{Setup}
use Rattle.model.specs.safe_bit.{Move, is_begin_of_read, is_begin_of_write}
use Rattle.model.specs.{Access, Entry, Mark, Past}
use Rattle.calls.specs.{AreFew, CallState, Called, ComesInTurn, EntryFacts, GoesBy, GoesOn, HasObserved, HasNotFailed, HaveRoom, Passes, TableState, at_rest, ended_call, observed, makes_itself, passed, reads_begun, call_state, writes_begun}
use Rattle.world.specs.{ends_overlapped_read}
use Rattle.calls.proofs.InCall.{calls-few, count-few}
use Rattle.calls.proofs.Passing.{HasPassed, passed_by, passes, reads_few, writes_few}
use Rattle.calls.proofs.Steps.{call_state-observed, call_state-other}

-- a look into a list that was set
pub slice_get-set_same : {A : Type 0} (xs : List A) (i : ℕ) (x : A) → i < length xs → slice_get (slice_set xs i x) i ≡ Some x
slice_get-set_same {A} xs i x within =
    slice_get-get_or {X = A} (slice_set xs i x) i x (subst (λ n. i < n) (sym (length-set {A = A} xs i x)) within) ∙ ap Some (get_or-set_same {A = A} xs i x x within)

pub slice_get-set_other : {A : Type 0} (xs : List A) (i j : ℕ) (x : A) → j ≢ i → slice_get (slice_set xs i x) j ≡ slice_get xs j
slice_get-set_other {A} xs i j x apart = elim (cases_lt j (length xs)) [
  | inl within ↦ slice_get-get_or {X = A} (slice_set xs i x) j x (subst (λ n. j < n) (sym (length-set {A = A} xs i x)) within)
      ∙ ap Some (get_or-set_other {A = A} xs i j x x apart) ∙ sym (slice_get-get_or {X = A} xs j x within)
  | inr past ↦ slice_get_past {X = A} (slice_set xs i x) j (subst (λ n. n ≤ j) (sym (length-set {A = A} xs i x)) past) ∙ sym (slice_get_past {X = A} xs j past)
]

-- at the start each process is at rest
pub at_rest_more : (k : ℕ) → map at_rest (range_with_len 0 (k + 1)) ≡ map at_rest (range_with_len 0 k) ++ at_rest k ∷ []
at_rest_more k = let same : 0 + k ≡ k = omega arith in map-range_with_len_more at_rest 0 k k same

pub at_rest-there : (n p : ℕ) → p < n → slice_get (map at_rest (range_with_len 0 n)) p ≡ Some (at_rest p)
at_rest-there n p below =
    let same : 0 + p ≡ p = omega arith in
    slice_get-get_or (map at_rest (range_with_len 0 n)) p (at_rest p) (subst (λ m. p < m) (sym (length-map-range_with_len at_rest 0 n)) below)
    ∙ ap Some (get_or-map-range_with_len at_rest 0 n p p (at_rest p) below same)

-- counts of no entry have room for one more
pub has_room : (s : Setup) (p : ℕ) (past : Past) (k : CallState) → k ≡ call_state s p past → length past < 2 ^ 64 - 1 → (k.last.call < 2 ^ 64 - 1) × AreFew k.last.accesses
has_room s p past k is few =
    subst (λ (k : CallState). (k.last.call < 2 ^ 64 - 1) × AreFew k.last.accesses) (sym is) (
      omega (arith, calls-few p past, few),
      record {
        reads = omega (arith, count-few p (makes_itself p is_begin_of_read) past, few);
        writes = omega (arith, count-few p (makes_itself p is_begin_of_write) past, few);
        overlapped = omega (arith, count-few p ends_overlapped_read past, few);
      },
    )

-- the state with an entry
abbrev pub table_with : TableState → ℕ → CallState → TableState
table_with t p k = record { setup = t.setup; call_states = slice_set t.call_states p k; entries = t.entries + 1 }

pub observes_on : (t : TableState) (past : Past) (e : Entry) (before then : CallState) (known : EntryFacts) → slice_get t.call_states e.process ≡ Some before →
    ComesInTurn t.setup past e known → t.entries < 2 ^ 64 - 1 →
    (before.last.call < 2 ^ 64 - 1 → AreFew before.last.accesses → then ≡ observed t.setup t.entries known e.access e.marks before) → HasObserved t past →
    HasObserved (table_with t e.process then) (e ∷ past) × (before ≡ call_state t.setup e.process past) × (then ≡ call_state t.setup e.process (e ∷ past))
observes_on t past e before then known there turn few on h = (record { call_states = each; entries = ap (λ n. n + 1) h.entries ∙ add-one (length past) }, was, now)
  where
    s : Setup
    s = t.setup

    was : before ≡ call_state s e.process past
    was = let both : Some before ≡ Some (call_state s e.process past) = sym there ∙ h.call_states e.process turn.process in cc

    room : (before.last.call < 2 ^ 64 - 1) × AreFew before.last.accesses
    room = has_room s e.process past before was (subst (λ n. n < 2 ^ 64 - 1) h.entries few)

    now : then ≡ call_state s e.process (e ∷ past)
    now = on room.0 room.1 ∙ (λ i. observed s (h.entries i) known e.access e.marks (was i)) ∙ sym (call_state-observed s e past known turn.reports)

    each : (q : ℕ) → q < s.processes → slice_get (slice_set t.call_states e.process then) q ≡ Some (call_state s q (e ∷ past))
    each q inside = elim (cases_eq q e.process) [
      | inl same ↦ ap (slice_get (slice_set t.call_states e.process then)) same ∙ slice_get-set_same t.call_states e.process then (slice_get_within t.call_states e.process before there)
          ∙ ap Some (now ∙ ap (λ n. call_state s n (e ∷ past)) (sym same))
      | inr apart ↦ slice_get-set_other t.call_states e.process q then apart ∙ h.call_states q inside
          ∙ ap Some (sym (call_state-other s q e past (ne_eqb e.process q (λ h. apart (sym h)))))
    ]

-- the call that ended
pub ended_is : (s : Setup) (past : Past) (e : Entry) (before then : CallState) → before ≡ call_state s e.process past → then ≡ call_state s e.process (e ∷ past) →
    cond (before.calling && not then.calling) (Some then.last) None ≡ ended_call s past e
ended_is s past e before then was now = λ i. cond ((was i).calling && not (now i).calling) (Some (now i).last) None

-- How an entry changes a table after any past.
abbrev pub Observes : TableState → TableState → ℕ → EntryFacts → Option Access → List Mark → Option Called → Type 0
Observes old new q known access marks ended =
    (past : Past) (e : Entry) → e.process ≡ q → e.access ≡ access → e.marks ≡ marks → HasObserved old past → ComesInTurn old.setup past e known → HasObserved new (e ∷ past) × (ended ≡ ended_call old.setup past e)

pub observes_entry : (old new : TableState) (q : ℕ) (known : EntryFacts) (access : Option Access) (marks : List Mark) (ended : Option Called) →
    new.setup ≡ old.setup → new.entries ≡ old.entries + 1 → old.entries < 2 ^ 64 - 1 →
    ((before : CallState) → slice_get old.call_states q ≡ Some before → GoesOn old q known access marks before ended new.call_states) → Observes old new q known access marks ended
observes_entry old new q known access marks ended setup count few goes past e p a m h turn =
    let s : Setup = old.setup in
    let e0 : Entry = record { process = q; access = access; marks = marks } in
    let whole : e ≡ e0 = λ i. record { process = p i; access = a i; marks = m i } in
    let before : CallState = call_state s q past in
    let here : ComesInTurn s past e0 known = subst (λ (e : Entry). ComesInTurn s past e known) whole turn in
    let there : slice_get old.call_states q ≡ Some before = h.call_states q here.process in
    let g : GoesOn old q known access marks before ended new.call_states = goes before there in
    let all = observes_on old past e0 before g.then known there here few g.observed h in
    let same : new ≡ table_with old q g.then = λ i. record { setup = setup i; call_states = g.set i; entries = count i } in
    let made : HasObserved new (e0 ∷ past) × (ended ≡ ended_call s past e0) = (subst (λ (t : TableState). HasObserved t (e0 ∷ past)) (sym same) all.0, g.is ∙ ended_is s past e0 before g.then refl all.2) in
    subst (λ (e : Entry). HasObserved new (e ∷ past) × (ended ≡ ended_call s past e)) (sym whole) made

-- How entries that pass by, many at once, change a table.

has_room_for : (s : Setup) (p : ℕ) (past : Past) (n : ℕ) (how : Move) (overlapped : ℕ) → length past + n < 2 ^ 64 → overlapped ≤ n → HaveRoom (call_state s p past).last.accesses (reads_begun n how) (writes_begun n how) overlapped
has_room_for s p past n how overlapped room few =
    let reads = reads_few n how in
    let writes = writes_few n how in
    record {
      reads_fit = omega (arith, count-few p (makes_itself p is_begin_of_read) past, reads, room);
      writes_fit = omega (arith, count-few p (makes_itself p is_begin_of_write) past, writes, room);
      overlapped_fit = omega (arith, count-few p ends_overlapped_read past, few, room);
    }

pub observes_passing : (t : TableState) (p n : ℕ) (newest : Access) (overlapped : ℕ) (past after : Past) (then : CallState) → 0 < n → p < t.setup.processes → t.entries + n < 2 ^ 64 → Passes t.setup p n newest overlapped past after → HasNotFailed p past → HasObserved t past →
    (HaveRoom (call_state t.setup p past).last.accesses (reads_begun n newest.how) (writes_begun n newest.how) overlapped → then ≡ passed_by t.entries n newest.how overlapped (call_state t.setup p past)) →
    HasObserved (record t { call_states = slice_set t.call_states p then; entries = t.entries + n }) after
observes_passing t p zero newest overlapped past after then some below room by none h on = absurd (omega (arith, some))
observes_passing t p (suc m) newest overlapped past after then some below room by none h on = record { call_states = each; entries = ap (λ n. n + suc m) h.entries ∙ sym all.long }
  where
    s : Setup
    s = t.setup

    all : HasPassed s p (suc m) newest overlapped past after
    all = passes m s p newest overlapped past after none by

    now : then ≡ call_state s p after
    now = on (has_room_for s p past (suc m) newest.how overlapped (subst (λ n. n + suc m < 2 ^ 64) h.entries room) all.few) ∙ ap (λ k. passed_by k (suc m) newest.how overlapped (call_state s p past)) h.entries ∙ sym all.call_state_is

    each : (q : ℕ) → q < s.processes → slice_get (slice_set t.call_states p then) q ≡ Some (call_state s q after)
    each q inside = elim (cases_eq q p) [
      | inl same ↦ ap (slice_get (slice_set t.call_states p then)) same ∙ slice_get-set_same t.call_states p then (slice_get_within t.call_states p (call_state s p past) (h.call_states p below))
          ∙ ap Some (now ∙ ap (λ n. call_state s n after) (sym same))
      | inr apart ↦ slice_get-set_other t.call_states p q then apart ∙ h.call_states q inside
          ∙ ap Some (sym (all.others q (ne_eqb p q (λ h. apart (sym h)))))
    ]

-- How entries that pass by change a table after any past, by how many of them begin a read or a write.
pub observes_by : (old new : TableState) (p n : ℕ) (how : Move) (reads writes overlapped : ℕ) → 0 < n → old.entries + n < 2 ^ 64 → reads ≡ reads_begun n how → writes ≡ writes_begun n how → new.setup ≡ old.setup → new.entries ≡ old.entries + n →
    ((before : CallState) → slice_get old.call_states p ≡ Some before → GoesBy old p reads writes overlapped before new.call_states) →
    (past after : Past) (newest : Access) → newest.how ≡ how → Passes old.setup p n newest overlapped past after → p < old.setup.processes → HasNotFailed p past → HasObserved old past → HasObserved new after
observes_by old new p n how reads writes overlapped some room reads_are writes_are setup count goes past after newest is by below none h =
    let s : Setup = old.setup in
    let g : GoesBy old p reads writes overlapped (call_state s p past) new.call_states = goes (call_state s p past) (h.call_states p below) in
    let reads_of : reads ≡ reads_begun n newest.how = reads_are ∙ ap (reads_begun n) (sym is) in
    let writes_of : writes ≡ writes_begun n newest.how = writes_are ∙ ap (writes_begun n) (sym is) in
    let then = λ (room : HaveRoom (call_state s p past).last.accesses (reads_begun n newest.how) (writes_begun n newest.how) overlapped).
    g.passes (subst (λ k. HaveRoom (call_state s p past).last.accesses k writes overlapped) (sym reads_of) (subst (λ k. HaveRoom (call_state s p past).last.accesses (reads_begun n newest.how) k overlapped) (sym writes_of) room))
    ∙ (λ i. passed old.entries (reads_of i) (writes_of i) overlapped (call_state s p past)) in
    subst (λ (t : TableState). HasObserved t after) (sym (λ i. record { setup = setup i; call_states = g.set i; entries = count i }))
    (observes_passing old p n newest overlapped past after g.then some below room by none h then)
