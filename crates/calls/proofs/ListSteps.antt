-- What a table keeps of a record goes on with an entry as of a run, but for the reads that count as overlapped, and for waiting.
use Rattle.std.proofs.Common.{◌≡◌, ℕ, ◌+◌, ◌-◌, ◌^◌, ◌<◌, ◌≤◌, ◌==◌, Bool, true, false, not, ◌&&◌, nat_lt, cond, List, [], ◌∷◌, Option, None, Some, is_some, length, slice_get, slice_set, refl, sym, ap, ◌∙◌, subst, arith, add-one, inl, inr, ne_eqb}
use Rattle.std.proofs.lemmas.Bool.{cases_eq, cases_lt}
use Rattle.std.proofs.lemmas.Bool.Decides.{nat_tests}
use Rattle.std.proofs.lemmas.Option.{slice_get_within}
use Rattle.plain_store.specs.{Command, Setup}
use Rattle.model.specs.safe_bit.{is_begin_of_read, is_begin_of_write}
use Rattle.model.specs.{Access, Entry, Mark, Past, called_in, has, is_called}
use Rattle.calls.specs.{AreFew, CallState, Called, EntryFacts, GoesOn, HasListed, IsKnown, Lists, TableState, accessed_by, begun, call_kept, count_in_call, ended_of_process, ended_recorded, ends_own_overlapped, observed, is_calling, listed, makes_itself, marked_all, marked_on, more_if, open_recorded, overlaps_in, recorded, call_state}
use Rattle.calls.proofs.Folds.{called_has}
use Rattle.calls.proofs.Observed.{slice_get-set_other, slice_get-set_same, table_with}
use Rattle.calls.proofs.InCall.{calls-few, count-few, over-called, over-mine, over-other}
use Rattle.calls.proofs.Steps.{known_of, call_state-observed, call_state-other}

-- with another count of overlapped reads, and waiting for no process
abbrev apart : ℕ → CallState → CallState
apart n k = record { calling = k.calling; last = record k.last { accesses = record k.last.accesses { overlapped = n; waited_for = None } } }

-- what is known of an entry of a record
abbrev pub known_read : Bool → EntryFacts
known_read overlapped = record { overlapped = overlapped; read = None }

apart_marks : (n number : ℕ) (k : CallState) (ms : List Mark) → marked_all number (apart n k) ms ≡ apart n (marked_all number k ms)
apart_marks n number k [] = refl
apart_marks n number k (m ∷ ms) = apart_marks n number (marked_on number k m) ms

apart_access : (s : Setup) (n number : ℕ) (overlapped : Bool) (known : EntryFacts) (k : CallState) (o : Option Access) →
    accessed_by s number (known_read overlapped) o (apart n k) ≡ apart (elim o as (λ _. ℕ) [ None ↦ n | Some a ↦ more_if overlapped n ]) (accessed_by s number known o k)
apart_access s n number overlapped known k None = refl
apart_access s n number overlapped known k (Some a) = refl

-- the function that counts
abbrev counting : Setup → Past → Entry → ℕ → ℕ
counting s before e n = more_if (overlaps_in s before e) n

-- with an entry of its own
pub listed-observed : (s : Setup) (e : Entry) (past : Past) → listed s e.process (e ∷ past) ≡ observed s (length past) (known_read (overlaps_in s past e)) e.access e.marks (listed s e.process past)
listed-observed s e past = ap (apart (count_in_call p (overlaps_in s) (e ∷ past))) (call_state-observed s e past k.0 k.1) ∙ go (called_in e.marks) refl
  where
    p : ℕ
    p = e.process

    k : (known : EntryFacts) × IsKnown s past e known
    k = known_of s past e

    before : CallState
    before = call_state s p past

    count : ℕ
    count = count_in_call p (overlaps_in s) past

    with : Option Command → EntryFacts → CallState → CallState
    with o known k = elim o as (λ _. CallState) [
      | Some c ↦ begun (length past) c k
      | None ↦ marked_all (length past) (accessed_by s (length past) known e.access k) e.marks
    ]

    mine : (o : Option Access) → e.access ≡ o → has is_called e ≡ false →
        marked_all (length past) (apart (count_in_call p (overlaps_in s) (e ∷ past)) (accessed_by s (length past) k.0 o before)) e.marks
        ≡ marked_all (length past) (accessed_by s (length past) (known_read (overlaps_in s past e)) o (listed s p past)) e.marks
    mine None access none =
        let counted : count_in_call p (overlaps_in s) (e ∷ past) ≡ count =
        over-mine {A = ℕ} p 0 (counting s) e past refl none ∙ ap (λ (o : Option Access). more_if (elim o as (λ _. Bool) [ None ↦ false | Some a ↦ ends_own_overlapped s p past a ]) count) access in
        ap (λ n. marked_all (length past) (apart n before) e.marks) counted
    mine (Some a) access none =
        ap (λ n. marked_all (length past) (apart n (accessed_by s (length past) k.0 (Some a) before)) e.marks) (over-mine {A = ℕ} p 0 (counting s) e past refl none)

    go : (o : Option Command) → called_in e.marks ≡ o → apart (count_in_call p (overlaps_in s) (e ∷ past)) (with o k.0 before) ≡ with o (known_read (overlaps_in s past e)) (listed s p past)
    go (Some c) is = ap (λ n. apart n (begun (length past) c before)) (over-called {A = ℕ} p 0 (counting s) e past refl (called_has e.marks ∙ ap is_some is))
    go None is = sym (apart_marks (count_in_call p (overlaps_in s) (e ∷ past)) (length past) (accessed_by s (length past) k.0 e.access before) e.marks) ∙ mine e.access refl (called_has e.marks ∙ ap is_some is)

-- with one of another process
pub listed-other : (s : Setup) (p : ℕ) (e : Entry) (past : Past) → (e.process == p) ≡ false → listed s p (e ∷ past) ≡ listed s p past
listed-other s p e past h =
    ap (apart (count_in_call p (overlaps_in s) (e ∷ past))) (call_state-other s p e past h) ∙ ap (λ n. apart n (call_state s p past)) (over-other {A = ℕ} p 0 (counting s) e past h)

-- Each count has room for one more.

has_room : (s : Setup) (p : ℕ) (past : Past) → length past < 2 ^ 64 - 1 → ((listed s p past).last.call < 2 ^ 64 - 1) × AreFew (listed s p past).last.accesses
has_room s p past few = (
  omega (arith, calls-few p past, few),
  record {
    reads = omega (arith, count-few p (makes_itself p is_begin_of_read) past, few);
    writes = omega (arith, count-few p (makes_itself p is_begin_of_write) past, few);
    overlapped = omega (arith, count-few p (overlaps_in s) past, few);
  },
)

-- What a table makes of an entry.

-- of a process that exists
lists_own : (old new : TableState) (past : Past) (e : Entry) (then : CallState) → e.process < old.setup.processes → new.setup ≡ old.setup → new.entries ≡ old.entries + 1 → new.call_states ≡ slice_set old.call_states e.process then →
    then ≡ listed old.setup e.process (e ∷ past) → HasListed old past → HasListed new (e ∷ past)
lists_own old new past e then below setup count set now h = subst (λ (t : TableState). HasListed t (e ∷ past)) (sym whole) (record { call_states = each; entries = ap (λ n. n + 1) h.entries ∙ add-one (length past) })
  where
    s : Setup
    s = old.setup

    whole : new ≡ table_with old e.process then
    whole = λ i. record { setup = setup i; call_states = set i; entries = count i }

    each : (q : ℕ) → q < s.processes → slice_get (slice_set old.call_states e.process then) q ≡ Some (listed s q (e ∷ past))
    each q inside = elim (cases_eq q e.process) [
      | inl same ↦ ap (slice_get (slice_set old.call_states e.process then)) same
          ∙ slice_get-set_same old.call_states e.process then (slice_get_within old.call_states e.process (listed s e.process past) (h.call_states e.process below))
          ∙ ap Some (now ∙ ap (λ n. listed s n (e ∷ past)) (sym same))
      | inr apart ↦ slice_get-set_other old.call_states e.process q then apart ∙ h.call_states q inside
          ∙ ap Some (sym (listed-other s q e past (ne_eqb e.process q (λ h. apart (sym h)))))
    ]

-- of one that does not exist
lists_stray : (old new : TableState) (past : Past) (e : Entry) → old.setup.processes ≤ e.process → new.setup ≡ old.setup → new.entries ≡ old.entries + 1 → new.call_states ≡ old.call_states → HasListed old past → HasListed new (e ∷ past)
lists_stray old new past e beyond setup count same h = subst (λ (t : TableState). HasListed t (e ∷ past)) (sym whole) (record { call_states = each; entries = ap (λ n. n + 1) h.entries ∙ add-one (length past) })
  where
    whole : new ≡ record { setup = old.setup; call_states = old.call_states; entries = old.entries + 1 }
    whole = λ i. record { setup = setup i; call_states = same i; entries = count i }

    each : (q : ℕ) → q < old.setup.processes → slice_get old.call_states q ≡ Some (listed old.setup q (e ∷ past))
    each q inside = h.call_states q inside ∙ ap Some (sym (listed-other old.setup q e past (ne_eqb e.process q (λ h. omega (arith, h, inside, beyond)))))

-- the call that ends
abbrev pub either : Option Called → Option Called → Option Called
either replaced ended = cond (is_some replaced) replaced ended

ended_is : (s : Setup) (past : Past) (e : Entry) (then : CallState) → then ≡ listed s e.process (e ∷ past) →
    either (cond (is_some (called_in e.marks)) (open_recorded s e.process past) None) (cond (is_calling e.process past && not then.calling) (Some then.last) None) ≡ ended_of_process s past e
ended_is s past e then now =
    (λ i. either (cond (is_some (called_in e.marks)) (open_recorded s e.process past) None) (cond (is_calling e.process past && not (now i).calling) (Some (now i).last) None))
    ∙ ap (λ b. either (cond b (open_recorded s e.process past) None) after) (sym (called_has e.marks)) ∙ by (has is_called e) refl
  where
    after : Option Called
    after = cond (is_calling e.process past && not (is_calling e.process (e ∷ past))) (Some (recorded s e.process (e ∷ past))) None

    by : (b : Bool) → has is_called e ≡ b → either (cond b (open_recorded s e.process past) None) after ≡ elim b as (λ _. Option Called) [ true ↦ open_recorded s e.process past | false ↦ after ]
    by false is = refl
    by true is = was (is_calling e.process past)
      where
        was : (b : Bool) → either (cond b (Some (recorded s e.process past)) None) (cond (b && not (is_calling e.process (e ∷ past))) (Some (recorded s e.process (e ∷ past))) None) ≡ cond b (Some (recorded s e.process past)) None
        was true = refl
        was false = refl

-- what is given of a table with an entry more
pub record ListsOn (old new : TableState) (known : EntryFacts) (e : Entry) (again ended : Option Called) : Type 0 where
  pub setup : new.setup ≡ old.setup
  pub count : new.entries ≡ old.entries + 1
  pub few : old.entries < 2 ^ 64 - 1
  pub goes : (before : CallState) → slice_get old.call_states e.process ≡ Some before → GoesOn old e.process known e.access e.marks before ended new.call_states
  pub stray : old.setup.processes ≤ e.process → (ended ≡ None) × (new.call_states ≡ old.call_states)
  pub replaced : again ≡ cond (is_some (called_in e.marks)) (call_kept (slice_get old.call_states e.process)) None
  pub stray_replaced : old.setup.processes ≤ e.process → again ≡ None

pub lists_entry : (old new : TableState) (overlapped : Bool) (e : Entry) (replaced ended result : Option Called) → ListsOn old new (known_read overlapped) e replaced ended → result ≡ either replaced ended → Lists old new overlapped e result
lists_entry old new overlapped e replaced ended result l is past h reported = elim (cases_lt e.process old.setup.processes) [
  | inl below ↦ own below
  | inr beyond ↦ other beyond
]
  where
    s : Setup
    s = old.setup

    p : ℕ
    p = e.process

    Goal : Type 0
    Goal = HasListed new (e ∷ past) × (result ≡ ended_recorded s past e)

    own : p < s.processes → Goal
    own below =
        let before : CallState = listed s p past in
        let there : slice_get old.call_states p ≡ Some before = h.call_states p below in
        let g : GoesOn old p (known_read overlapped) e.access e.marks before ended new.call_states = l.goes before there in
        let room = has_room s p past (subst (λ n. n < 2 ^ 64 - 1) h.entries l.few) in
        let now : g.then ≡ listed s p (e ∷ past) =
        g.observed room.0 room.1 ∙ (λ i. observed s (h.entries i) (known_read (reported below i)) e.access e.marks before) ∙ sym (listed-observed s e past) in
        let same : replaced ≡ cond (is_some (called_in e.marks)) (open_recorded s p past) None = l.replaced ∙ ap (λ o. cond (is_some (called_in e.marks)) (call_kept o) None) there in
        let exists : nat_lt p s.processes ≡ true = grind (arith, nat_tests) in (
          lists_own old new past e g.then below l.setup l.count g.set now h,
          is ∙ (λ i. either (same i) (g.is i)) ∙ ended_is s past e g.then now ∙ ap (λ b. cond b (ended_of_process s past e) None) (sym exists),
        )

    other : s.processes ≤ p → Goal
    other beyond =
        let none = l.stray beyond in
        let exists : nat_lt p s.processes ≡ false = grind (arith, nat_tests) in (
          lists_stray old new past e beyond l.setup l.count none.1 h,
          is ∙ (λ i. either (l.stray_replaced beyond i) (none.0 i)) ∙ ap (λ b. cond b (ended_of_process s past e) None) (sym exists),
        )
