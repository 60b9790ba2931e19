-- The state of a process is what the look-backs find: an entry changes both in the same way.
use Rattle.std.proofs.Common.{◌≡◌, ℕ, suc, ◌==◌, Bool, true, false, ◌&&◌, cond, ◌∷◌, Option, None, Some, fold, is_none, is_some, length, refl, sym, ap, ◌∙◌, eq-eqb, add-one}
use Rattle.plain_store.specs.{Answer, Command, Setup}
use Rattle.model.specs.safe_bit.{is_begin_of_read, is_begin_of_write}
use Rattle.model.specs.{Access, Entry, Mark, Past, called_in, calls_in, has, is_called, is_entered, is_failed, is_waiting, last_command, moves_of, number_in_call, own, width}
use Rattle.world.specs.laws.{doing}
use Rattle.world.specs.process.{number_read}
use Rattle.world.specs.{ends_overlapped, ends_overlapped_read}
use Rattle.calls.specs.{Accesses, CallState, EntryFacts, IsKnown, Marked, ReportsRead, accessed_by, accesses, accesses_itself, answer_after, begun, called, called_at, count_in_call, ends_number, ends_waiting, first_if, first_in_call, observed, holds_up, is_answered, is_calling, is_left, is_taken, is_unmarked, is_withdrawal, makes_itself, marked, marked_all, more_if, no_accesses, no_marks, number_after, over_call, place_after, call_state, reports_waiting, ticket_after, ticket_in_call, waited_for, waits_by, with_access, with_mark}
use Rattle.calls.proofs.Folds.{answer-on, answered-on, called_has, door_end-on, entered-on, failed-on, fold-field, fold-first, remaining-on, marked_all-is, place-on, taken-on, ticket-on, wait_end-on, with_marks, withdrew-on}
use Rattle.calls.proofs.InCall.{first-called, first-mine, first-other, number-called, number-mine, number-other, over-called, over-mine, over-other}

-- Marks.

-- the number of the first entry of a call with such a mark
number-on : (p : ℕ) (test : Mark → Bool) (get : Marked → Option ℕ) (e : Entry) (past : Past) → e.process ≡ p → has is_called e ≡ false →
    ((k : Marked) (m : Mark) → get (with_mark (length past) k m) ≡ first_if (test m) (length past) (get k)) → get (marked p past) ≡ number_in_call p (has test) past →
    number_in_call p (has test) (e ∷ past) ≡ get (fold (with_mark (length past)) (marked p past) e.marks)
number-on p test get e past h none on is =
    number-mine p (has test) e past h none (has test e) refl
    ∙ sym (fold-first test (length past) (number_in_call p (has test) past) e.marks)
    ∙ ap (λ found. fold (λ found m. first_if (test m) (length past) found) found e.marks) (sym is)
    ∙ sym (fold-field get (λ found m. first_if (test m) (length past) found) (length past) on (marked p past) e.marks)

-- a column from marks
given-on : {A : Type 0} (p : ℕ) (after : Option A → Mark → Option A) (get : Marked → Option A) (e : Entry) (past : Past) → e.process ≡ p → has is_called e ≡ false →
    ((k : Marked) (m : Mark) → get (with_mark (length past) k m) ≡ after (get k) m) → get (marked p past) ≡ over_call p None (λ before e found. fold after found e.marks) past →
    over_call p None (λ before e found. fold after found e.marks) (e ∷ past) ≡ get (fold (with_mark (length past)) (marked p past) e.marks)
given-on {A} p after get e past h none on is =
    over-mine {A = Option A} p None (λ before e found. fold after found e.marks) e past h none
    ∙ ap (λ (found : Option A). fold after found e.marks) (sym is)
    ∙ sym (fold-field {A = Option A} get after (length past) on (marked p past) e.marks)

pub marked-mine : (p : ℕ) (e : Entry) (past : Past) → e.process ≡ p → has is_called e ≡ false → marked p (e ∷ past) ≡ fold (with_mark (length past)) (marked p past) e.marks
marked-mine p e past h none =
    let n : ℕ = length past in
    let door_end = number-on p is_waiting (λ k. k.door_end) e past h none (door_end-on n) refl in
    let entered = number-on p is_entered (λ k. k.entered) e past h none (entered-on n) refl in
    let wait_end = number-on p ends_waiting (λ k. k.wait_end) e past h none (wait_end-on n) refl in
    let taken = number-on p is_taken (λ k. k.taken) e past h none (taken-on n) refl in
    let place = given-on {A = ℕ} p place_after (λ k. k.place) e past h none (place-on n) refl in
    let remaining = number-on p is_left (λ k. k.remaining) e past h none (remaining-on n) refl in
    let answered = number-on p is_answered (λ k. k.answered) e past h none (answered-on n) refl in
    let failed = number-on p is_failed (λ k. k.failed) e past h none (failed-on n) refl in
    let withdrew = number-on p is_withdrawal (λ k. k.withdrew) e past h none (withdrew-on n) refl in
    let ticket = given-on {A = ℕ} p ticket_after (λ k. k.ticket) e past h none (ticket-on n) refl in
    let answer = given-on {A = Answer} p answer_after (λ k. k.answer) e past h none (answer-on n) refl in
    λ i. record {
      door_end = door_end i;
      entered = entered i;
      wait_end = wait_end i;
      taken = taken i;
      place = place i;
      remaining = remaining i;
      answered = answered i;
      failed = failed i;
      withdrew = withdrew i;
      ticket = ticket i;
      answer = answer i;
    }

pub marked-called : (p : ℕ) (e : Entry) (past : Past) → e.process ≡ p → has is_called e ≡ true → marked p (e ∷ past) ≡ no_marks
marked-called p e past h some =
    let place = over-called {A = Option ℕ} p None (λ before e found. fold place_after found e.marks) e past h some in
    let ticket = over-called {A = Option ℕ} p None (λ before e found. fold ticket_after found e.marks) e past h some in
    let answer = over-called {A = Option Answer} p None (λ before e found. fold answer_after found e.marks) e past h some in
    λ i. record {
      door_end = number-called p (has is_waiting) e past h some i;
      entered = number-called p (has is_entered) e past h some i;
      wait_end = number-called p (has ends_waiting) e past h some i;
      taken = number-called p (has is_taken) e past h some i;
      place = place i;
      remaining = number-called p (has is_left) e past h some i;
      answered = number-called p (has is_answered) e past h some i;
      failed = number-called p (has is_failed) e past h some i;
      withdrew = number-called p (has is_withdrawal) e past h some i;
      ticket = ticket i;
      answer = answer i;
    }

pub marked-other : (p : ℕ) (e : Entry) (past : Past) → (e.process == p) ≡ false → marked p (e ∷ past) ≡ marked p past
marked-other p e past h =
    let place = over-other {A = Option ℕ} p None (λ before e found. fold place_after found e.marks) e past h in
    let ticket = over-other {A = Option ℕ} p None (λ before e found. fold ticket_after found e.marks) e past h in
    let answer = over-other {A = Option Answer} p None (λ before e found. fold answer_after found e.marks) e past h in
    λ i. record {
      door_end = number-other p (has is_waiting) e past h i;
      entered = number-other p (has is_entered) e past h i;
      wait_end = number-other p (has ends_waiting) e past h i;
      taken = number-other p (has is_taken) e past h i;
      place = place i;
      remaining = number-other p (has is_left) e past h i;
      answered = number-other p (has is_answered) e past h i;
      failed = number-other p (has is_failed) e past h i;
      withdrew = number-other p (has is_withdrawal) e past h i;
      ticket = ticket i;
      answer = answer i;
    }

-- Accesses.

-- the functions that go over a call's entries
abbrev counting : (Past → Entry → Bool) → Past → Entry → ℕ → ℕ
counting test before e n = more_if (test before e) n

abbrev waiting : Setup → ℕ → Past → Entry → Option ℕ → Option ℕ
waiting s p before e newest = elim e.access as (λ _. Option ℕ) [
  | None ↦ newest
  | Some a ↦ cond (is_unmarked e.marks && reports_waiting s p (ticket_in_call p before) (number_in_call p (has ends_waiting) before) a (number_after a.bit a.how (number_read (doing s p before)))) (Some a.owner) newest
]

-- whether an access shows that it waits depends on a number only where the whole number was read
waits-same : (s : Setup) (p : ℕ) (ticket wait_end : Option ℕ) (a : Access) (n m : ℕ) → (ends_number (width s a.field) a.bit a.how ≡ true → n ≡ m) →
    reports_waiting s p ticket wait_end a (number_after a.bit a.how n) ≡ reports_waiting s p ticket wait_end a (number_after a.bit a.how m)
waits-same s p None wait_end a n m same = refl
waits-same s p (Some t) wait_end a n m same = by (ends_number (width s a.field) a.bit a.how) refl same
  where
    test : ℕ → Bool → Bool
    test k b = is_none wait_end && (b && holds_up p t a.owner a.field (number_after a.bit a.how k))

    by : (b : Bool) → ends_number (width s a.field) a.bit a.how ≡ b → (ends_number (width s a.field) a.bit a.how ≡ true → n ≡ m) → test n (ends_number (width s a.field) a.bit a.how) ≡ test m (ends_number (width s a.field) a.bit a.how)
    by true is same = ap (λ k. test k (ends_number (width s a.field) a.bit a.how)) (same is)
    by false is same = ap (test n) is ∙ sym (ap (test m) is)

-- an access that ends no number shows no process that is waited for
waits-none : (s : Setup) (p : ℕ) (ticket wait_end : Option ℕ) (a : Access) (n : ℕ) → ends_number (width s a.field) a.bit a.how ≡ false → reports_waiting s p ticket wait_end a n ≡ false
waits-none s p None wait_end a n is = refl
waits-none s p (Some t) wait_end a n is = ap (λ b. is_none wait_end && (b && holds_up p t a.owner a.field n)) is ∙ never (is_none wait_end)
  where
    never : (b : Bool) → (b && false) ≡ false
    never true = refl
    never false = refl

-- the number that is reported suffices
waits-reported : (s : Setup) (p : ℕ) (ticket wait_end : Option ℕ) (past : Past) (e : Entry) (a : Access) (read : Option ℕ) → e.process ≡ p → ReportsRead s past e a read →
    waits_by s p ticket wait_end a read ≡ (is_unmarked e.marks && reports_waiting s p ticket wait_end a (number_after a.bit a.how (number_read (doing s p past))))
waits-reported s p ticket wait_end past e a None h reports = by (is_unmarked e.marks) reports
  where
    number : ℕ
    number = number_after a.bit a.how (number_read (doing s p past))

    by : (b : Bool) → (b && ends_number (width s a.field) a.bit a.how) ≡ false → false ≡ (b && reports_waiting s p ticket wait_end a number)
    by true ends = sym (waits-none s p ticket wait_end a number ends)
    by false ends = refl
waits-reported s p ticket wait_end past e a (Some n) h (none, same) =
    waits-same s p ticket wait_end a n (number_read (doing s p past)) (λ ends. same ends ∙ ap (λ q. number_read (doing s q past)) h)
    ∙ sym (ap (λ b. b && reports_waiting s p ticket wait_end a (number_after a.bit a.how (number_read (doing s p past)))) none)

accesses-with : (s : Setup) (p : ℕ) (e : Entry) (past : Past) → e.process ≡ p → has is_called e ≡ false → (o : Option Access) → e.access ≡ o → (known : EntryFacts) → IsKnown s past e known →
    accesses s p (e ∷ past) ≡ elim o as (λ _. Accesses) [ None ↦ accesses s p past | Some a ↦ with_access s p (length past) known (marked p past) a (accesses s p past) ]
accesses-with s p e past h called None none known turn =
    let doorway = first-mine p (accesses_itself p) e past h called
    ∙ ap (λ (o : Option Access). first_if (is_some o && is_none (number_in_call p (has is_failed) past)) (length past) (first_in_call p (accesses_itself p) past)) none in
    let reads = over-mine {A = ℕ} p 0 (counting (makes_itself p is_begin_of_read)) e past h called
    ∙ ap (λ (o : Option Access). more_if (elim o as (λ _. Bool) [ None ↦ false | Some a ↦ is_begin_of_read a.how && is_none (number_in_call p (has is_failed) past) ]) (count_in_call p (makes_itself p is_begin_of_read) past)) none in
    let writes = over-mine {A = ℕ} p 0 (counting (makes_itself p is_begin_of_write)) e past h called
    ∙ ap (λ (o : Option Access). more_if (elim o as (λ _. Bool) [ None ↦ false | Some a ↦ is_begin_of_write a.how && is_none (number_in_call p (has is_failed) past) ]) (count_in_call p (makes_itself p is_begin_of_write) past)) none in
    let overlapped = over-mine {A = ℕ} p 0 (counting ends_overlapped_read) e past h called
    ∙ ap (λ (o : Option Access). more_if (elim o as (λ _. Bool) [ None ↦ false | Some a ↦ ends_overlapped (moves_of a past) a.how ]) (count_in_call p ends_overlapped_read past)) none in
    let waited = over-mine {A = Option ℕ} p None (waiting s p) e past h called
    ∙ ap (λ (o : Option Access). elim o as (λ _. Option ℕ) [
      | None ↦ waited_for s p past
      | Some a ↦ cond (is_unmarked e.marks && reports_waiting s p (ticket_in_call p past) (number_in_call p (has ends_waiting) past) a (number_after a.bit a.how (number_read (doing s p past)))) (Some a.owner) (waited_for s p past)
    ]) none in
    λ i. record { doorway = doorway i; reads = reads i; writes = writes i; overlapped = overlapped i; waited_for = waited i }
accesses-with s p e past h called (Some a) some known turn =
    let doorway = first-mine p (accesses_itself p) e past h called
    ∙ ap (λ (o : Option Access). first_if (is_some o && is_none (number_in_call p (has is_failed) past)) (length past) (first_in_call p (accesses_itself p) past)) some in
    let reads = over-mine {A = ℕ} p 0 (counting (makes_itself p is_begin_of_read)) e past h called
    ∙ ap (λ (o : Option Access). more_if (elim o as (λ _. Bool) [ None ↦ false | Some a ↦ is_begin_of_read a.how && is_none (number_in_call p (has is_failed) past) ]) (count_in_call p (makes_itself p is_begin_of_read) past)) some in
    let writes = over-mine {A = ℕ} p 0 (counting (makes_itself p is_begin_of_write)) e past h called
    ∙ ap (λ (o : Option Access). more_if (elim o as (λ _. Bool) [ None ↦ false | Some a ↦ is_begin_of_write a.how && is_none (number_in_call p (has is_failed) past) ]) (count_in_call p (makes_itself p is_begin_of_write) past)) some in
    let overlapped = over-mine {A = ℕ} p 0 (counting ends_overlapped_read) e past h called
    ∙ ap (λ t. more_if t (count_in_call p ends_overlapped_read past)) (sym turn.overlapped) in
    let waited = over-mine {A = Option ℕ} p None (waiting s p) e past h called
    ∙ ap (λ (o : Option Access). elim o as (λ _. Option ℕ) [
      | None ↦ waited_for s p past
      | Some a ↦ cond (is_unmarked e.marks && reports_waiting s p (ticket_in_call p past) (number_in_call p (has ends_waiting) past) a (number_after a.bit a.how (number_read (doing s p past)))) (Some a.owner) (waited_for s p past)
    ]) some
    ∙ ap (λ b. cond b (Some a.owner) (waited_for s p past)) (sym (waits-reported s p (ticket_in_call p past) (number_in_call p (has ends_waiting) past) past e a known.read h (turn.read a some))) in
    λ i. record { doorway = doorway i; reads = reads i; writes = writes i; overlapped = overlapped i; waited_for = waited i }

accesses-called : (s : Setup) (p : ℕ) (e : Entry) (past : Past) → e.process ≡ p → has is_called e ≡ true → accesses s p (e ∷ past) ≡ no_accesses
accesses-called s p e past h some =
    let reads = over-called {A = ℕ} p 0 (counting (makes_itself p is_begin_of_read)) e past h some in
    let writes = over-called {A = ℕ} p 0 (counting (makes_itself p is_begin_of_write)) e past h some in
    let overlapped = over-called {A = ℕ} p 0 (counting ends_overlapped_read) e past h some in
    let waited = over-called {A = Option ℕ} p None (waiting s p) e past h some in
    λ i. record { doorway = first-called p (accesses_itself p) e past h some i; reads = reads i; writes = writes i; overlapped = overlapped i; waited_for = waited i }

accesses-other : (s : Setup) (p : ℕ) (e : Entry) (past : Past) → (e.process == p) ≡ false → accesses s p (e ∷ past) ≡ accesses s p past
accesses-other s p e past h =
    let reads = over-other {A = ℕ} p 0 (counting (makes_itself p is_begin_of_read)) e past h in
    let writes = over-other {A = ℕ} p 0 (counting (makes_itself p is_begin_of_write)) e past h in
    let overlapped = over-other {A = ℕ} p 0 (counting ends_overlapped_read) e past h in
    let waited = over-other {A = Option ℕ} p None (waiting s p) e past h in
    λ i. record { doorway = first-other p (accesses_itself p) e past h i; reads = reads i; writes = writes i; overlapped = overlapped i; waited_for = waited i }

-- The whole state.

call_state_by : (k m : CallState) → k.calling ≡ m.calling → k.last.process ≡ m.last.process → k.last.call ≡ m.last.call → k.last.command ≡ m.last.command → k.last.called ≡ m.last.called →
    k.last.accesses ≡ m.last.accesses → k.last.marks ≡ m.last.marks → k ≡ m
call_state_by k m a b c d e f g = λ i. record { calling = a i; last = record { process = b i; call = c i; command = d i; called = e i; accesses = f i; marks = g i } }

own-mine : (p : ℕ) (e : Entry) (past : Past) → e.process ≡ p → own p (e ∷ past) ≡ e ∷ own p past
own-mine p e past h = ap (λ b. cond b (e ∷ own p past) (own p past)) (eq-eqb e.process p h)

pub call_state-other : (s : Setup) (p : ℕ) (e : Entry) (past : Past) → (e.process == p) ≡ false → call_state s p (e ∷ past) ≡ call_state s p past
call_state-other s p e past h =
    let mine : own p (e ∷ past) ≡ own p past = ap (λ b. cond b (e ∷ own p past) (own p past)) h in
    call_state_by (call_state s p (e ∷ past)) (call_state s p past)
    (rw (h, is_calling) refl)
    refl
    (ap calls_in mine)
    (ap last_command mine)
    (rw (h, called_at) refl)
    (accesses-other s p e past h)
    (marked-other p e past h)

pub call_state-called : (s : Setup) (p : ℕ) (e : Entry) (past : Past) (c : Command) → e.process ≡ p → called_in e.marks ≡ Some c → call_state s p (e ∷ past) ≡ begun (length past) c (call_state s p past)
call_state-called s p e past c h is =
    let some : has is_called e ≡ true = called_has e.marks ∙ ap is_some is in
    let here : (e.process == p) ≡ true = eq-eqb e.process p h in
    let mine = own-mine p e past h in
    call_state_by (call_state s p (e ∷ past)) (begun (length past) c (call_state s p past))
    (rw (here, some, is_calling) refl)
    refl
    (ap calls_in mine ∙ ap (λ b. elim b as (λ _. ℕ) [ true ↦ suc (calls_in (own p past)) | false ↦ calls_in (own p past) ]) some ∙ sym (add-one (calls_in (own p past))))
    (ap last_command mine ∙ ap (λ (o : Option Command). elim o as (λ _. Command) [ None ↦ last_command (own p past) | Some c ↦ c ]) is)
    (rw (here, some, called_at) refl)
    (accesses-called s p e past h some)
    (marked-called p e past h some)

pub call_state-mine : (s : Setup) (p : ℕ) (e : Entry) (past : Past) → e.process ≡ p → called_in e.marks ≡ None → (known : EntryFacts) → IsKnown s past e known →
    call_state s p (e ∷ past) ≡ marked_all (length past) (accessed_by s (length past) known e.access (call_state s p past)) e.marks
call_state-mine s p e past h is known turn =
    let none : has is_called e ≡ false = called_has e.marks ∙ ap is_some is in
    let here : (e.process == p) ≡ true = eq-eqb e.process p h in
    let mine = own-mine p e past h in
    let n : ℕ = length past in
    go none here mine (ap calls_in mine ∙ ap (λ b. elim b as (λ _. ℕ) [ true ↦ suc (calls_in (own p past)) | false ↦ calls_in (own p past) ]) none)
    (ap last_command mine ∙ ap (λ (o : Option Command). elim o as (λ _. Command) [ None ↦ last_command (own p past) | Some c ↦ c ]) is)
    e.access refl
  where
    go : has is_called e ≡ false → (e.process == p) ≡ true → own p (e ∷ past) ≡ e ∷ own p past → calls_in (own p (e ∷ past)) ≡ calls_in (own p past) → last_command (own p (e ∷ past)) ≡ last_command (own p past) →
        (o : Option Access) → e.access ≡ o → call_state s p (e ∷ past) ≡ marked_all (length past) (accessed_by s (length past) known o (call_state s p past)) e.marks
    go none here mine calls command None access =
        call_state_by (call_state s p (e ∷ past)) (with_marks (length past) (call_state s p past) e.marks)
        (rw (here, none, is_calling) refl)
        refl
        calls
        command
        (rw (here, none, called_at) refl)
        (accesses-with s p e past h none None access known turn)
        (marked-mine p e past h none)
        ∙ sym (marked_all-is (length past) (call_state s p past) e.marks)
    go none here mine calls command (Some a) access =
        call_state_by (call_state s p (e ∷ past)) (with_marks (length past) (accessed_by s (length past) known (Some a) (call_state s p past)) e.marks)
        (rw (here, none, is_calling) refl)
        refl
        calls
        command
        (rw (here, none, called_at) refl)
        (accesses-with s p e past h none (Some a) access known turn)
        (marked-mine p e past h none)
        ∙ sym (marked_all-is (length past) (accessed_by s (length past) known (Some a) (call_state s p past)) e.marks)

-- with whatever entry of its own
pub call_state-observed : (s : Setup) (e : Entry) (past : Past) (known : EntryFacts) → IsKnown s past e known →
    call_state s e.process (e ∷ past) ≡ observed s (length past) known e.access e.marks (call_state s e.process past)
call_state-observed s e past known turn = go (called_in e.marks) refl
  where
    p : ℕ
    p = e.process

    go : (o : Option Command) → called_in e.marks ≡ o → call_state s p (e ∷ past) ≡ elim o as (λ _. CallState) [
      | Some c ↦ begun (length past) c (call_state s p past)
      | None ↦ marked_all (length past) (accessed_by s (length past) known e.access (call_state s p past)) e.marks
    ]
    go None is = call_state-mine s p e past refl is known turn
    go (Some c) is = call_state-called s p e past c refl is

-- these facts exist for each entry
pub known_of : (s : Setup) (past : Past) (e : Entry) → (known : EntryFacts) × IsKnown s past e known
known_of s past e = by (is_unmarked e.marks) refl
  where
    by : (b : Bool) → is_unmarked e.marks ≡ b → (known : EntryFacts) × IsKnown s past e known
    by true none = (record { overlapped = ends_overlapped_read past e; read = Some (number_read (doing s e.process past)) }, record { overlapped = refl; read = λ a some. (none, λ ends. refl) })
    by false some_marks = (record { overlapped = ends_overlapped_read past e; read = None }, record { overlapped = refl; read = λ a some. ap (λ b. b && ends_number (width s a.field) a.bit a.how) some_marks })
