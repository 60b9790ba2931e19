-- The state of a process is what the look-backs find: an entry changes both in the same way.
use Rattle.std.proofs.Common.{◌≡◌, ℕ, zero, suc, ◌+◌, ◌-◌, ◌^◌, ◌<◌, ◌==◌, Bool, true, false, cond, List, [], ◌∷◌, ◌++◌, Option, None, Some, length, map, refl, sym, ap, subst, ◌∙◌, eq-eqb, arith, add-one, inl, inr, ne_eqb, slice_get, slice_set}
use Rattle.std.proofs.lemmas.Bool.{cases_eq}
use Rattle.std.proofs.lemmas.List.FromFn.{get_or-map-range_with_len, length-map-range_with_len, map-range_with_len_more}
use Rattle.std.proofs.lemmas.Option.{get_or_from_slice_get, slice_get-get_or, slice_get_within}
use Rattle.std.specs.List.{list_any, range_with_len}
use Rattle.std.specs.Prelude.{is_none, is_some, slice_index_or}
use Rattle.plain_store.specs.{Command, Setup}
use Rattle.model.specs.{Access, Entry, Mark, Past, called_in, calls_in, has, is_failed, own, width}
use Rattle.run_state.specs.{FinishedRead, HasObserved, Passes, ProcessSummary, SnapshotState, ReportsNumber, failed_at, has_accessed, kept, kept_marked, kept_stepped, nothing_kept, opened_if, read_after, read_last, read_with, without_accesses}
use Rattle.calls.specs.{CallState, EntryFacts, accessed_by, begun, ends_number, first_if, observed, marked_all, call_state}
use Rattle.calls.specs.world.laws.{doing}
use Rattle.calls.proofs.Folds.{marked_all-is}
use Rattle.calls.proofs.Observed.{slice_get-set_other, slice_get-set_same}
use Rattle.calls.proofs.InCall.{calls-few}
use Rattle.calls.proofs.Steps.{known_of, call_state-observed, call_state-other}
use Rattle.calls.specs.world.process.{number_read}

-- Before the first entry.

pub nothing_more : (k : ℕ) → map nothing_kept (range_with_len 0 (k + 1)) ≡ map nothing_kept (range_with_len 0 k) ++ nothing_kept k ∷ []
nothing_more k = let same : 0 + k ≡ k = omega arith in map-range_with_len_more nothing_kept 0 k k same

pub nothing_there : (n p : ℕ) → p < n → slice_get (map nothing_kept (range_with_len 0 n)) p ≡ Some (nothing_kept p)
nothing_there n p below =
    let same : 0 + p ≡ p = omega arith in
    slice_get-get_or (map nothing_kept (range_with_len 0 n)) p (nothing_kept p) (subst (λ m. p < m) (sym (length-map-range_with_len nothing_kept 0 n)) below)
    ∙ ap Some (get_or-map-range_with_len nothing_kept 0 n p p (nothing_kept p) below same)

-- One entry.

kept_by : (k m : ProcessSummary) → k.call_state ≡ m.call_state → k.failed ≡ m.failed → k.read ≡ m.read → k ≡ m
kept_by k m a b c = λ i. record { call_state = a i; failed = b i; read = c i }

-- the entry of another process
pub kept_other : (s : Setup) (p : ℕ) (e : Entry) (past : Past) → (e.process == p) ≡ false → kept s p (e ∷ past) ≡ kept s p past
kept_other s p e past h =
    kept_by (kept s p (e ∷ past)) (kept s p past) (ap without_accesses (call_state-other s p e past h))
    (ap (λ b. cond b (cond (has is_failed e) (length past) (failed_at p past)) (failed_at p past)) h)
    (ap (λ b. cond b (read_after s (number_read (doing s p past)) e (read_last s p past)) (read_last s p past)) h)

-- how an access changes a call
opened_by : (s : Setup) (number : ℕ) (known : EntryFacts) (o : Option Access) (k : CallState) → without_accesses (accessed_by s number known o k) ≡ opened_if (is_some o) number (without_accesses k)
opened_by s number known None k = refl
opened_by s number known (Some a) k = refl

-- and marks
marked_by : (number : ℕ) (k : CallState) (marks : List Mark) → without_accesses (marked_all number k marks) ≡ marked_all number (without_accesses k) marks
marked_by number k marks = ap without_accesses (marked_all-is number k marks) ∙ sym (marked_all-is number (without_accesses k) marks)

observed_by : (s : Setup) (number : ℕ) (known : EntryFacts) (o : Option Access) (marks : List Mark) (k : CallState) (c : Option Command) →
    without_accesses (elim c as (λ _. CallState) [ Some c ↦ begun number c k | None ↦ marked_all number (accessed_by s number known o k) marks ])
    ≡ elim c as (λ _. CallState) [ Some c ↦ begun number c (without_accesses k) | None ↦ marked_all number (opened_if (is_some o) number (without_accesses k)) marks ]
observed_by s number known o marks k None = marked_by number (accessed_by s number known o k) marks ∙ ap (λ k. marked_all number k marks) (opened_by s number known o k)
observed_by s number known o marks k (Some c) = refl

call_state_on : (s : Setup) (p : ℕ) (e : Entry) (past : Past) → e.process ≡ p →
    without_accesses (call_state s p (e ∷ past)) ≡ elim (called_in e.marks) as (λ _. CallState) [
      | Some c ↦ begun (length past) c (without_accesses (call_state s p past))
      | None ↦ marked_all (length past) (opened_if (is_some e.access) (length past) (without_accesses (call_state s p past))) e.marks
    ]
call_state_on s p e past h =
    let (known, is) = known_of s past e in
    ap (λ q. without_accesses (call_state s q (e ∷ past))) (sym h) ∙ ap without_accesses (call_state-observed s e past known is) ∙ ap (λ q. without_accesses (observed s (length past) known e.access e.marks (call_state s q past))) h
    ∙ observed_by s (length past) known e.access e.marks (call_state s p past) (called_in e.marks)

failed_on : (s : Setup) (p : ℕ) (e : Entry) (past : Past) → e.process ≡ p → failed_at p (e ∷ past) ≡ cond (list_any is_failed e.marks) (length past) (failed_at p past)
failed_on s p e past h = ap (λ b. cond b (cond (has is_failed e) (length past) (failed_at p past)) (failed_at p past)) (eq-eqb e.process p h)

read_on : (s : Setup) (p : ℕ) (e : Entry) (past : Past) → e.process ≡ p → read_last s p (e ∷ past) ≡ read_after s (number_read (doing s p past)) e (read_last s p past)
read_on s p e past h = ap (λ b. cond b (read_after s (number_read (doing s p past)) e (read_last s p past)) (read_last s p past)) (eq-eqb e.process p h)

read_none : (s : Setup) (n : ℕ) (e : Entry) (found : Option FinishedRead) (marks : List Mark) → (marks ≡ [] → ⊥) →
    elim marks as (λ _. Option FinishedRead) [ [] ↦ elim e.access as (λ _. Option FinishedRead) [ None ↦ found | Some a ↦ read_with s a n found ] | m ∷ more ↦ None ] ≡ None
read_none s n e found [] some = absurd (some refl)
read_none s n e found (m ∷ marks) some = refl

-- with marks
pub kept_with : (s : Setup) (p : ℕ) (e : Entry) (past : Past) → e.process ≡ p → (e.marks ≡ [] → ⊥) → kept s p (e ∷ past) ≡ kept_marked (length past) (is_some e.access) e.marks (kept s p past)
kept_with s p e past h some =
    kept_by (kept s p (e ∷ past)) (kept_marked (length past) (is_some e.access) e.marks (kept s p past))
    (call_state_on s p e past h) (failed_on s p e past h)
    (read_on s p e past h ∙ read_none s (number_read (doing s p past)) e (read_last s p past) e.marks some)

-- without a mark
abbrev quiet_entry : ℕ → Access → Entry
quiet_entry p a = record { process = p; access = Some a; marks = [] }

read_reported : (s : Setup) (a : Access) (n m : ℕ) (found : Option FinishedRead) → (ends_number (width s a.field) a.bit a.how ≡ true → n ≡ m) → read_with s a n found ≡ read_with s a m found
read_reported s a n m found same = by (ends_number (width s a.field) a.bit a.how) same
  where
    by : (b : Bool) → (b ≡ true → n ≡ m) → cond b (Some (let r : FinishedRead = record { access = a; before = n } in r)) found
        ≡ cond b (Some (let r : FinishedRead = record { access = a; before = m } in r)) found
    by true same = ap (λ n. Some (let r : FinishedRead = record { access = a; before = n } in r)) (same refl)
    by false same = refl

pub kept_on : (s : Setup) (p : ℕ) (a : Access) (past : Past) (n : ℕ) → (ends_number (width s a.field) a.bit a.how ≡ true → n ≡ number_read (doing s p past)) → kept s p (quiet_entry p a ∷ past) ≡ kept_stepped s (length past) a n (kept s p past)
kept_on s p a past n reports =
    kept_by (kept s p (quiet_entry p a ∷ past)) (kept_stepped s (length past) a n (kept s p past))
    (call_state_on s p (quiet_entry p a) past refl) (failed_on s p (quiet_entry p a) past refl)
    (read_on s p (quiet_entry p a) past refl ∙ sym (read_reported s a n (number_read (doing s p past)) (read_last s p past) reports))

-- Entries within a number access.

-- where the first access is known, another one changes nothing
opened_same : (number : ℕ) (itself : Bool) (first : Option ℕ) → is_some first ≡ true → first_if itself number first ≡ first
opened_same number itself None known = absurd (cc)
opened_same number true (Some k) known = refl
opened_same number false (Some k) known = refl

passed_on : (s : Setup) (p : ℕ) (a : Access) (past : Past) → ends_number (width s a.field) a.bit a.how ≡ false → has_accessed s p past ≡ true → kept s p (quiet_entry p a ∷ past) ≡ kept s p past
passed_on s p a past none known =
    let k : ProcessSummary = kept s p past in
    let n : ℕ = number_read (doing s p past) in
    let itself : Bool = is_none k.call_state.last.marks.failed in
    let first : first_if itself (length past) k.call_state.last.accesses.doorway ≡ k.call_state.last.accesses.doorway = opened_same (length past) itself k.call_state.last.accesses.doorway known in
    kept_on s p a past n (λ ends. refl)
    ∙ kept_by (kept_stepped s (length past) a n k) k
    (ap (λ (o : Option ℕ). let then : CallState = record k.call_state { last = record k.call_state.last { accesses = record k.call_state.last.accesses { doorway = o } } } in then) first)
    refl (ap (λ b. cond b (Some (let r : FinishedRead = record { access = a; before = n } in r)) k.read) none)

-- for any process
passed_any : (s : Setup) (p : ℕ) (a : Access) (past : Past) → ends_number (width s a.field) a.bit a.how ≡ false → has_accessed s p past ≡ true → (q : ℕ) → kept s q (quiet_entry p a ∷ past) ≡ kept s q past
passed_any s p a past none known q = elim (cases_eq p q) [
  | inl same ↦ subst (λ q. kept s q (quiet_entry p a ∷ past) ≡ kept s q past) same (passed_on s p a past none known)
  | inr apart ↦ kept_other s q (quiet_entry p a) past (ne_eqb p q apart)
]

-- many of them
pub passed_all : (s : Setup) (p n : ℕ) (past after : Past) → Passes s p n past after → (length after ≡ length past + n) × ((q : ℕ) → kept s q after ≡ kept s q past)
passed_all s p zero past after same = (ap length same ∙ (let none : length past ≡ length past + 0 = omega arith in none), (λ q. ap (kept s q) same))
passed_all s p (suc n) past after (a, none, known, more) =
    let all = passed_all s p n (quiet_entry p a ∷ past) after more in
    let long : length after ≡ length past + suc n = let l = all.0 in omega (arith, l) in
    (long, (λ q. all.1 q ∙ passed_any s p a past none known q))

-- All that is kept.

-- it goes on with what is kept of one process
pub all_observed : (s : Setup) (list : List ProcessSummary) (now : ProcessSummary) (past after : Past) (p : ℕ) → p < s.processes → ((q : ℕ) → q < s.processes → slice_get list q ≡ Some (kept s q past)) →
    now ≡ kept s p after → ((q : ℕ) → (p == q) ≡ false → kept s q after ≡ kept s q past) → (q : ℕ) → q < s.processes → slice_get (slice_set list p now) q ≡ Some (kept s q after)
all_observed s list now past after p here were is others q below = elim (cases_eq q p) [
  | inl same ↦ ap (slice_get (slice_set list p now)) same
      ∙ slice_get-set_same {A = ProcessSummary} list p now (slice_get_within {A = ProcessSummary} list p (kept s p past) (were p here))
      ∙ ap Some (is ∙ ap (λ p. kept s p after) (sym same))
  | inr apart ↦ slice_get-set_other {A = ProcessSummary} list p q now apart ∙ were q below
      ∙ ap Some (sym (others q (ne_eqb p q (λ h. apart (sym h)))))
]

-- The whole state.

-- with another state of one process, and this number of entries
abbrev pub state_with : SnapshotState → ℕ → ProcessSummary → ℕ → SnapshotState
state_with t p k entries = record { setup = t.setup; kept = slice_set t.kept p k; entries = entries }

-- the state of an existing process is found
pub kept_found : (t : SnapshotState) (past : Past) (p : ℕ) (k : ProcessSummary) → HasObserved t past → p < t.setup.processes → k ≡ slice_index_or t.kept p k → k ≡ kept t.setup p past
kept_found t past p k h below found = found ∙ get_or_from_slice_get {X = ProcessSummary} t.kept p (kept t.setup p past) k (h.kept p below)

-- it has room for one call more
pub room_found : (t : SnapshotState) (past : Past) (p : ℕ) (k : ProcessSummary) → k ≡ kept t.setup p past → t.entries ≡ length past → t.entries < 2 ^ 64 - 1 → k.call_state.last.call < 2 ^ 64 - 1
room_found t past p k is count few = let same : k.call_state.last.call ≡ calls_in (own p past) = ap (λ (k : ProcessSummary). k.call_state.last.call) is in omega (arith, same, calls-few p past, count, few)

-- one more entry
pub one_observed : (t : SnapshotState) (p : ℕ) (past : Past) (e : Entry) (now : ProcessSummary) → e.process ≡ p → HasObserved t past → p < t.setup.processes → now ≡ kept t.setup p (e ∷ past) → HasObserved (state_with t p now (t.entries + 1)) (e ∷ past)
one_observed t p past e now mine h below is = record {
  kept = all_observed t.setup t.kept now past (e ∷ past) p below h.kept is (λ q apart. kept_other t.setup q e past (ap (λ n. n == q) mine ∙ apart));
  entries = ap (λ n. n + 1) h.entries ∙ add-one (length past);
}

-- with marks
pub mark_observed : (t : SnapshotState) (p : ℕ) (steps : Bool) (marks : List Mark) (before now : ProcessSummary) → before ≡ slice_index_or t.kept p before → t.entries < 2 ^ 64 - 1 → (before.call_state.last.call < 2 ^ 64 - 1 → now ≡ kept_marked t.entries steps marks before) →
    (past : Past) (e : Entry) → e.process ≡ p → is_some e.access ≡ steps → e.marks ≡ marks → (marks ≡ [] → ⊥) → p < t.setup.processes → HasObserved t past → HasObserved (state_with t p now (t.entries + 1)) (e ∷ past)
mark_observed t p steps marks before now found few goes past e mine o m some below h =
    let was : before ≡ kept t.setup p past = kept_found t past p before h below found in
    one_observed t p past e now mine h below
    (goes (room_found t past p before was h.entries few) ∙ (λ i. kept_marked (h.entries i) (sym o i) (sym m i) (was i)) ∙ sym (kept_with t.setup p e past mine (λ none. some (sym m ∙ none))))

-- without a mark
entry_is : (p : ℕ) (a : Access) (e : Entry) → e.process ≡ p → e.access ≡ Some a → e.marks ≡ [] → e ≡ quiet_entry p a
entry_is p a e mine o m = λ i. record { process = mine i; access = o i; marks = m i }

pub step_observed : (t : SnapshotState) (p : ℕ) (a : Access) (read : ℕ) (before now : ProcessSummary) → before ≡ slice_index_or t.kept p before → now ≡ kept_stepped t.setup t.entries a read before →
    (past : Past) (e : Entry) → e.process ≡ p → e.access ≡ Some a → e.marks ≡ [] → ReportsNumber t.setup past p a read → p < t.setup.processes → HasObserved t past → HasObserved (state_with t p now (t.entries + 1)) (e ∷ past)
step_observed t p a read before now found goes past e mine o m reports below h =
    let was : before ≡ kept t.setup p past = kept_found t past p before h below found in
    let is : e ≡ quiet_entry p a = entry_is p a e mine o m in
    one_observed t p past e now mine h below
    (goes ∙ (λ i. kept_stepped t.setup (h.entries i) a read (was i)) ∙ sym (kept_on t.setup p a past read reports) ∙ sym (ap (λ (e : Entry). kept t.setup p (e ∷ past)) is))

-- within a register access
pub pass_observed : (t : SnapshotState) (p n : ℕ) (past after : Past) → Passes t.setup p n past after → HasObserved t past → HasObserved (record t { entries = t.entries + n }) after
pass_observed t p n past after passes h =
    let all = passed_all t.setup p n past after passes in
    record {
      kept = λ q below. h.kept q below ∙ ap Some (sym (all.1 q));
      entries = ap (λ k. k + n) h.entries ∙ sym all.0;
    }
