-- The seats after an event, from those before it.
use Rattle.std.proofs.Common.{◌≡◌, ◌≢◌, ℕ, suc, ◌<◌, ◌==◌, ◌&&◌, ◌||◌, Bool, true, false, cond, not, List, [], ◌∷◌, Some, None, map, refl, sym, ap, subst, ◌∙◌, arith, true≢false}
use Rattle.std.specs.Prelude.{is_some, slice_set, slice_index_or, Ok}
use Rattle.std.proofs.lemmas.List.{get_or-set_same}
use Rattle.std.proofs.lemmas.List.FromFn.{length-map-range_with_len, get_or-map-range_with_len}
use Rattle.std.specs.List.{list_any}
use Rattle.plain_store.specs.{Command, Setup, checked}
use Rattle.model.specs.{Entry, Event, Mark, Past, call_number, called_in, calls_in, doorway_begin, entry_of, has, is_ahead, is_called, is_at_door, is_waiting_stage, last_command, own, past_of, processes, stage}
use Rattle.model.specs.declared.marks.Mark.TheVariants.{Called}
use Rattle.model.proofs.Width.{IsGood, is_good}
use Rattle.laws.specs.{Doing, doing}
use Rattle.laws.proofs.Frame.{own-other, own-own, doing-other}
use Rattle.laws.proofs.FrameEvents.{accepted}
use Rattle.laws.proofs.Theorems.{not_ahead_of_itself}
use Rattle.plain_store.proofs.GoodSetups.{few-processes}
use Rattle.process.specs.{ProcessState, process_after, stage_doing}
use Rattle.world.specs.{Seat, before_reported, seat_of, reported, waiting_before}
use Rattle.world.proofs.WorldLists.{map-changed}
use Rattle.world.proofs.QueueAfter.{before-done, before-waits, before-kept}
use Rattle.world.proofs.QueueBegun.{begun-after, begun-others}

-- whether a process waits before and after an entry
abbrev pub waited : Past → ℕ → Bool
waited past p = is_waiting_stage (stage p past)

-- the updated seat of q has the right processes ahead, by whether its doorway had begun
abbrev pub IsReported : Past → ℕ → Entry → ℕ → Type 0
IsReported past p e q = before_reported p (waited past p) (waited (e ∷ past) p) (is_some (doorway_begin q past)) (waiting_before past q) ≡ waiting_before (e ∷ past) q

-- another process keeps all other fields of its seat
other-seat : (s : Setup) (past : Past) (p : ℕ) (e : Entry) (q : ℕ) → e.process ≢ q → IsReported past p e q → reported p (waited past p) (waited (e ∷ past) p) (seat_of s past q) ≡ seat_of s (e ∷ past) q
other-seat s past p e q ne before = λ i. let seat : Seat = record {
  process = record {
    setup = s;
    process = q;
    doing = sym (doing-other s q e past ne) i;
    command = last_command (sym (own-other q e past ne) i);
    number = call_number s (sym (own-other q e past ne) i);
  };
  begun = is_some (sym (begun-others q e past ne) i);
  before = before i;
} in seat

-- an entry that is not a call leaves the last call as it is
not-called : (ms : List Mark) → list_any is_called ms ≡ false → called_in ms ≡ None
not-called [] h = refl
not-called (Called c ∷ ms) h = absurd (true≢false h)
not-called (m ∷ ms) h = not-called ms h

command-kept : (e : Entry) (mine : Past) → has is_called e ≡ false → last_command (e ∷ mine) ≡ last_command mine
command-kept e mine h = ap (λ o. elim o as (λ _. Command) [ None ↦ last_command mine | Some c ↦ c ]) (not-called e.marks h)

number-kept : (s : Setup) (e : Entry) (mine : Past) → has is_called e ≡ false → call_number s (e ∷ mine) ≡ call_number s mine
number-kept s e mine h = ap (λ b. cond (s.version == 2) (elim b as (λ _. ℕ) [ true ↦ suc (calls_in mine) | false ↦ calls_in mine ]) 0) h

-- so only the work of its process changes
pub process-goes : (s : Setup) (past : Past) (e : Entry) (d : Doing) → has is_called e ≡ false → d ≡ doing s e.process (e ∷ past) →
    (let now : ProcessState = record (process_after s past e.process) { doing = d } in now) ≡ process_after s (e ∷ past) e.process
process-goes s past e d called is = λ i. let now : ProcessState = record {
  setup = s;
  process = e.process;
  doing = is i;
  command = (sym (command-kept e (own e.process past) called) ∙ ap last_command (sym (own-own e.process e past refl))) i;
  number = (sym (number-kept s e (own e.process past) called) ∙ ap (call_number s) (sym (own-own e.process e past refl))) i;
} in now

-- An entry that an event adds.

-- the processes that are then ahead of each process, except of one that has just called
pub is-reported : (s : Setup) → IsGood s → (events : List Event) (what : Event) (e : Entry) → entry_of s (past_of s events) what ≡ Some e → (q : ℕ) → (has is_called e && (e.process == q)) ≡ false → IsReported (past_of s events) e.process e q
is-reported s g events what e h q other = go (waited past p) (waited (e ∷ past) p) refl refl
  where
    past : Past
    past = past_of s events

    p : ℕ
    p = e.process

    go : (was is : Bool) → waited past p ≡ was → waited (e ∷ past) p ≡ is → before_reported p was is (is_some (doorway_begin q past)) (waiting_before past q) ≡ waiting_before (e ∷ past) q
    go true true k m = sym (before-kept s g events what e h (m ∙ sym k) q other)
    go false false k m = sym (before-kept s g events what e h (m ∙ sym k) q other)
    go true false k m = sym (before-done s g events what e h k m q)
    go false true k m = sym (before-waits s g events what e h k m q)

or-false : (b : Bool) → (b || false) ≡ b
or-false true = refl
or-false false = refl

-- an entry that has no access and is not a call leaves the doorway as it is
pub begun-kept : (s : Setup) → IsGood s → (events : List Event) (what : Event) (e : Entry) → entry_of s (past_of s events) what ≡ Some e → e.access ≡ None → has is_called e ≡ false →
    is_some (doorway_begin e.process (past_of s events)) ≡ is_some (doorway_begin e.process (e ∷ past_of s events))
begun-kept s g events what e h none called =
    let past : Past = past_of s events in
    let was : Bool = is_some (doorway_begin e.process past) in
    let door : Bool = is_at_door (stage_doing (doing s e.process past)) in
    sym (begun-after s g events what e h ∙ ap (λ b. cond b false (was || (is_some e.access && door))) called ∙ ap (λ a. was || (is_some a && door)) none ∙ or-false was)

-- an entry with an access may begin the doorway
pub begun-stepped : (s : Setup) → IsGood s → (events : List Event) (what : Event) (e : Entry) → entry_of s (past_of s events) what ≡ Some e → is_some e.access ≡ true → has is_called e ≡ false →
    (is_some (doorway_begin e.process (past_of s events)) || is_at_door (stage_doing (doing s e.process (past_of s events)))) ≡ is_some (doorway_begin e.process (e ∷ past_of s events))
begun-stepped s g events what e h some called =
    let past : Past = past_of s events in
    let was : Bool = is_some (doorway_begin e.process past) in
    let door : Bool = is_at_door (stage_doing (doing s e.process past)) in
    sym (begun-after s g events what e h ∙ ap (λ b. cond b false (was || (is_some e.access && door))) called ∙ ap (λ a. was || (a && door)) some)

-- a process that starts to wait is not ahead of itself, because its doorway had begun
begun-before : (s : Setup) → IsGood s → checked s ≡ Ok tt → (events : List Event) (what : Event) (e : Entry) → entry_of s (past_of s events) what ≡ Some e → has is_called e ≡ false →
    waited (past_of s events) e.process ≡ false → waited (e ∷ past_of s events) e.process ≡ true → is_some (doorway_begin e.process (past_of s events)) ≡ is_some (doorway_begin e.process (e ∷ past_of s events))
begun-before s g good events what e h called was is = begun ∙ sym (begun-after s g events what e h ∙ ap (λ b. cond b false (began || (is_some e.access && door))) called ∙ ap (λ b. b || (is_some e.access && door)) begun)
  where
    past : Past
    past = past_of s events

    p : ℕ
    p = e.process

    began : Bool
    began = is_some (doorway_begin p past)

    door : Bool
    door = is_at_door (stage_doing (doing s p past))

    small : p < 16
    small = let few = few-processes s good in let below : p < s.processes = (accepted s g events what e h).below in omega (arith, few, below)

    after : past_of s (what ∷ events) ≡ e ∷ past
    after = ap (λ o. elim o as (λ _. Past) [ None ↦ past | Some x ↦ x ∷ past ]) h

    alone : is_ahead (e ∷ past) p p ≡ false
    alone = subst (λ past. is_ahead past p p ≡ false) after (not_ahead_of_itself s g (what ∷ events) p)

    there : slice_index_or (waiting_before (e ∷ past) p) p true ≡ is_ahead (e ∷ past) p p
    there = get_or-map-range_with_len (λ j. is_ahead (e ∷ past) j p) 0 16 p p true small (omega arith)

    set : slice_index_or (slice_set (waiting_before past p) p (not began)) p true ≡ not began
    set = get_or-set_same (waiting_before past p) p (not began) true (omega (arith, small, length-map-range_with_len (λ j. is_ahead past j p) 0 16))

    begun : began ≡ true
    begun = from began (sym set ∙ sym (ap (λ l. slice_index_or l p true) (before-waits s g events what e h was is p)) ∙ there ∙ alone)
      where
        from : (b : Bool) → not b ≡ false → b ≡ true
        from true k = refl
        from false k = absurd (true≢false k)

-- the seat of the process, with its new state and doorway, after the update of all seats
pub own-seat : (s : Setup) → checked s ≡ Ok tt → (events : List Event) (what : Event) (e : Entry) → entry_of s (past_of s events) what ≡ Some e → has is_called e ≡ false →
    (then : Seat) → let past : Past = past_of s events in let p : ℕ = e.process in
    then.process ≡ process_after s (e ∷ past) p → then.begun ≡ is_some (doorway_begin p (e ∷ past)) → then.before ≡ waiting_before past p →
    reported p (waited past p) (waited (e ∷ past) p) then ≡ seat_of s (e ∷ past) p
own-seat s good events what e h called then is_process is_begun is_before = λ i. let seat : Seat = record {
  process = is_process i;
  begun = is_begun i;
  before = (ap (before_reported p (waited past p) (waited (e ∷ past) p) then.begun) is_before ∙ go (waited past p) (waited (e ∷ past) p) refl refl ∙ is-reported s g events what e h p (ap (λ b. b && (p == p)) called)) i;
} in seat
  where
    g : IsGood s
    g = is_good s good

    past : Past
    past = past_of s events

    p : ℕ
    p = e.process

    go : (was is : Bool) → waited past p ≡ was → waited (e ∷ past) p ≡ is → before_reported p was is then.begun (waiting_before past p) ≡ before_reported p was is (is_some (doorway_begin p past)) (waiting_before past p)
    go true true k m = refl
    go true false k m = refl
    go false true k m = ap (λ b. slice_set (waiting_before past p) p (not b)) (is_begun ∙ sym (begun-before s g good events what e h called k m))
    go false false k m = refl

-- all seats, after that one is stored
pub all-seats : (s : Setup) → checked s ≡ Ok tt → (events : List Event) (what : Event) (e : Entry) → entry_of s (past_of s events) what ≡ Some e →
    (seat : Seat) → let past : Past = past_of s events in let p : ℕ = e.process in
    reported p (waited past p) (waited (e ∷ past) p) seat ≡ seat_of s (e ∷ past) p →
    map (reported p (waited past p) (waited (e ∷ past) p)) (slice_set (map (seat_of s past) (processes s)) p seat) ≡ map (seat_of s (e ∷ past)) (processes s)
all-seats s good events what e h seat own_is =
    let g : IsGood s = is_good s good in
    let past : Past = past_of s events in
    let p : ℕ = e.process in
    map-changed (seat_of s past) (seat_of s (e ∷ past)) (reported p (waited past p) (waited (e ∷ past) p)) seat 0 s.processes p p ((accepted s g events what e h).below) (omega arith) own_is
    (λ q ne. other-seat s past p e q (λ u. ne (sym u)) (is-reported s g events what e h q (apart q (λ u. ne (sym u)))))
  where
    apart : (q : ℕ) → e.process ≢ q → (has is_called e && (e.process == q)) ≡ false
    apart q ne = ap (λ b. has is_called e && b) (Rattle.std.proofs.Common.ne_eqb e.process q ne) ∙ false-and (has is_called e)
      where
        false-and : (b : Bool) → (b && false) ≡ false
        false-and true = refl
        false-and false = refl
