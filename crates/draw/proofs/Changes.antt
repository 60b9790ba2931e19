-- The lines of a run's marks say what the commands of its history change.
use Rattle.std.proofs.Common.{◌≡◌, ◌≢◌, ◌<◌, ◌≤◌, ℕ, zero, suc, ◌+◌, ◌==◌, ◌&&◌, Bool, true, false, cond, min, nat_le, nat_lt, List, [], ◌∷◌, ◌++◌, fold, length, map, take, slice_get, Option, None, Some, Contains, refl, ap, sym, subst, ◌∙◌, append-nil, arith, eq-eqb, ne_eqb, true≢false}
use Rattle.std.proofs.lemmas.Bool.Decides.{nat_tests}
use Rattle.std.proofs.Math.Nat.{min-eq_left}
use Rattle.std.proofs.Math.Seq.{take-append_seam}
use Rattle.std.proofs.lemmas.List.Sums.{fold-append}
use Rattle.std.specs.List.{list_any}
use Rattle.model.specs.plain_store.{Command, Contents, Reply, Setup, opening_store}
use Rattle.model.specs.plain_store.declared.commands.Command.TheVariants.{Ask}
use Rattle.model.specs.{Entry, Event, Mark, Past, Refusal, Taken, added, call_number, called_in, calls_full, calls_in, entry_of, history, is_called, last_command, own, past_of, process_of, refused_at, stage, starts, store_after, takings}
use Rattle.model.specs.declared.events.Event.TheVariants as event
use Rattle.model.specs.declared.marks.Mark.TheVariants as mark
use Rattle.model.specs.declared.refusals.Refusal.TheVariants.{CallsFull, NoProcess}
use Rattle.model.proofs.Width.{IsGood, is_good}
use Rattle.model.proofs.World.{entry-accepted}
use Rattle.scenario_run.specs.laws.{Doing}
use Rattle.scenario_run.specs.history_laws.{taken_with}
use Rattle.scenario_run.proofs.history_laws.Places.{at_its_place, grows_by_the_taken}
use Rattle.scenario_run.proofs.history_laws.Reported.{says}
use Rattle.scenario_run.proofs.history_laws.Took.{Says, begins, goes}
use Rattle.scenario_run.proofs.laws.AtPlaces.{own-induction}
use Rattle.scenario_run.proofs.laws.Frame.{own-other, own-own}
use Rattle.scenario_run.proofs.laws.FrameEvents.{accepted}
use Rattle.scenario_run.proofs.laws.Steps.{step_is}
use Rattle.draw.specs.{Changed, LastCall, SaysMark, after_call, call_after, called_by, change_by_call, change_of, marks_after, marks_back, next_number, says_marks, store_by}
use Rattle.draw.proofs.TakenStores.{call_other, call_uncalled}
use Rattle.draw.specs.{LinesSayTheHistory, StoreIsTheHistorys, after_taken, change_at, change_taken, says_mark}

-- The last call of each process.

-- the last call of these entries
abbrev call_in : Setup → Past → LastCall
call_in s mine = record { command = last_command mine; number = call_number s mine }

-- marks of another process leave it
called_over : (s : Setup) (p q : ℕ) (marks : List Mark) (before : List (ℕ × Mark)) → (p == q) ≡ false → called_by s p (marks_after q marks before) ≡ called_by s p before
called_over s p q [] before apart = refl
called_over s p q (m ∷ marks) before apart = called_over s p q marks ((q, m) ∷ before) apart ∙ ap (λ b. call_after s b m (called_by s p before)) apart ∙ call_other s m (called_by s p before)

-- so do marks that begin no call
called_uncalled : (s : Setup) (p q : ℕ) (marks : List Mark) (before : List (ℕ × Mark)) → list_any is_called marks ≡ false → called_by s p (marks_after q marks before) ≡ called_by s p before
called_uncalled s p q [] before none = refl
called_uncalled s p q (mark.Called c ∷ marks) before none = absurd (true≢false none)
called_uncalled s p q (m ∷ marks) before none = called_uncalled s p q marks ((q, m) ∷ before) none ∙ call_uncalled s (p == q) m (called_by s p before) refl

-- an entry that begins no call leaves the last one of its process
uncommanded : (marks : List Mark) → list_any is_called marks ≡ false → called_in marks ≡ None
uncommanded [] none = refl
uncommanded (mark.Called c ∷ marks) none = absurd (true≢false none)
uncommanded (m ∷ marks) none = uncommanded marks none

call_same : (s : Setup) (e : Entry) (mine : Past) → list_any is_called e.marks ≡ false → call_in s (e ∷ mine) ≡ call_in s mine
call_same s e mine none = λ i. record {
  command = ap (λ (o : Option Command). elim o as (λ _. Command) [ None ↦ last_command mine | Some c ↦ c ]) (uncommanded e.marks none) i;
  number = cond (s.version == 2) (ap (λ b. elim b as (λ _. ℕ) [ true ↦ suc (calls_in mine) | false ↦ calls_in mine ]) none i) 0;
}

-- a process that has not made 65,535 calls
abbrev HasRoom : Setup → Past → Type 0
HasRoom s mine = ((s.version == 2) && nat_le 65535 (calls_in mine)) ≡ false

-- one that begins a call is the last one
next_is : (two : Bool) (n : ℕ) → (two && nat_le 65535 n) ≡ false → cond two (suc n) 0 ≡ cond two (min (cond two n 0 + 1) 65535) 0
next_is true n room =
    let few : n + 1 ≤ 65535 = grind (arith, nat_tests, room) in
    let next : suc n ≡ n + 1 = omega arith in next ∙ sym (min-eq_left few)
next_is false n room = refl

call_begun : (s : Setup) (e : Entry) (mine : Past) (command : Command) → e.marks ≡ mark.Called command ∷ [] → HasRoom s mine → call_in s (e ∷ mine) ≡ (let l : LastCall = record { command = command; number = next_number s (call_number s mine) } in l)
call_begun s e mine command marks room = λ i. record {
  command = ap (λ (l : List Mark). elim (called_in l) as (λ _. Command) [ None ↦ last_command mine | Some c ↦ c ]) marks i;
  number = (ap (λ (l : List Mark). cond (s.version == 2) (elim (list_any is_called l) as (λ _. ℕ) [ true ↦ suc (calls_in mine) | false ↦ calls_in mine ]) 0) marks ∙ next_is (s.version == 2) (calls_in mine) room) i;
}

-- an event that was accepted found room for its call
not_full : (s : Setup) (past : Past) (what : Event) (e : Entry) → entry_of s past what ≡ Some e → calls_full s past what ≡ false
not_full s past what e = go (nat_lt (process_of what) s.processes) (refused_at what (stage (process_of what) past)) (calls_full s past what)
  where
    entered : Bool → Option Refusal → Bool → Option Entry
    entered b r f = elim (cond b (elim r as (λ _. Option Refusal) [ Some x ↦ Some x | None ↦ cond f (Some CallsFull) None ]) (Some NoProcess)) as (λ _. Option Entry) [ Some r ↦ None | None ↦ added s past what ]

    go : (b : Bool) (r : Option Refusal) (f : Bool) → entered b r f ≡ Some e → f ≡ false
    go true None false h = refl
    go _ _ _ h = cc

-- only a call has such a mark
has_room : (s : Setup) → IsGood s → (events : List Event) (what : Event) (e : Entry) (command : Command) → entry_of s (past_of s events) what ≡ Some e → e.marks ≡ mark.Called command ∷ [] → HasRoom s (own e.process (past_of s events))
has_room s good events what e command is marks = by what is
  where
    past : Past
    past = past_of s events

    other : (p : ℕ) (m : Mark) → (m ≡ mark.Called command → ⊥) → Some (record { process = p; access = None; marks = m ∷ [] }) ≡ Some e → HasRoom s (own e.process past)
    other p m apart made =
        let same : (let x : Entry = record { process = p; access = None; marks = m ∷ [] } in x) ≡ e = cc in
        let both : m ∷ [] ≡ mark.Called command ∷ [] = ap (λ (x : Entry). x.marks) same ∙ marks in
        absurd (apart (cc))

    by : (x : Event) → entry_of s past x ≡ Some e → HasRoom s (own e.process past)
    by (event.Call p c) is = subst (λ q. HasRoom s (own q past)) (sym (accepted s good events (event.Call p c) e is).process) (not_full s past (event.Call p c) e is)
    by (event.Step p flick) is = absurd (true≢false (sym (ap (list_any starts) marks) ∙ (step_is s good events p flick e is).plain))
    by (event.Fail p) is = other p mark.Failed (λ no. cc) (entry-accepted s past (event.Fail p) e is).2
    by (event.Withdraw p) is = other p mark.Withdrew (λ no. cc) (entry-accepted s past (event.Withdraw p) e is).2
    by (event.Restart p) is = other p mark.Restarted (λ no. cc) (entry-accepted s past (event.Restart p) e is).2

-- so it is of every process of every run
abbrev CallIs : Setup → Past → ℕ → Type 0
CallIs s past p = called_by s p (marks_back past) ≡ call_in s (own p past)

calls_are : (s : Setup) → IsGood s → (events : List Event) (p : ℕ) → CallIs s (past_of s events) p
calls_are s good = own-induction s (CallIs s) none others on
  where
    none : (p : ℕ) → CallIs s [] p
    none p = λ i. record { command = Ask; number = go (s.version == 2) i }
      where
        go : (two : Bool) → ◌≡◌ {A = ℕ} 0 (cond two 0 0)
        go true = refl
        go false = refl

    others : (past : Past) (e : Entry) (p : ℕ) → e.process ≢ p → CallIs s past p → CallIs s (e ∷ past) p
    others past e p apart before = called_over s p e.process e.marks (marks_back past) (ne_eqb p e.process (λ same. apart (sym same))) ∙ before ∙ ap (call_in s) (sym (own-other p e past apart))

    on : (events : List Event) (event : Event) (e : Entry) → entry_of s (past_of s events) event ≡ Some e → CallIs s (past_of s events) e.process → CallIs s (e ∷ past_of s events) e.process
    on events event e is before = by (says s good events event e is)
      where
        past : Past
        past = past_of s events

        p : ℕ
        p = e.process

        by : {taken : List (ℕ × Reply)} {d d' : Doing} → Says taken d d' e.marks → CallIs s (e ∷ past) p
        by (goes t) = called_uncalled s p p e.marks (marks_back past) t.uncalled ∙ before ∙ sym (call_same s e (own p past) t.uncalled) ∙ ap (call_in s) (sym (own-own p e past refl))
        by (begins command marks took) =
            ap (λ (l : List Mark). called_by s p (marks_after p l (marks_back past))) marks
            ∙ ap (λ b. call_after s b (mark.Called command) (called_by s p (marks_back past))) (eq-eqb p p refl)
            ∙ ap (λ (l : LastCall). record { command = command; number = next_number s l.number }) before
            ∙ sym (call_begun s e (own p past) command marks (has_room s good events event e command is marks)) ∙ ap (call_in s) (sym (own-own p e past refl))

-- The store.

-- marks that begin no call apply the last one where they take a command
store_over : (s : Setup) (p : ℕ) (call : LastCall) (to : Reply → Taken) → nat_lt p s.processes ≡ true → ((store : Contents) (r : Reply) → after_call p call store ≡ after_taken store (to r)) →
    (marks : List Mark) (before : List (ℕ × Mark)) → called_by s p before ≡ call → list_any is_called marks ≡ false → store_by s (marks_after p marks before) ≡ fold after_taken (store_by s before) (map (λ (t : ℕ × Reply). to t.1) (takings marks))
store_over s p call to there same [] before is none = refl
store_over s p call to there same (mark.Taken k r ∷ marks) before is none =
    store_over s p call to there same marks ((p, mark.Taken k r) ∷ before) (call_uncalled s (p == p) (mark.Taken k r) (called_by s p before) refl ∙ is) none
    ∙ ap (λ (store : Contents). fold after_taken store (map (λ (t : ℕ × Reply). to t.1) (takings marks)))
    (ap (λ b. cond b (after_call p (called_by s p before) (store_by s before)) (store_by s before)) there ∙ ap (λ (c : LastCall). after_call p c (store_by s before)) is ∙ same (store_by s before) r)
store_over s p call to there same (mark.Called c ∷ marks) before is none = absurd (true≢false none)
store_over s p call to there same (m ∷ marks) before is none = store_over s p call to there same marks ((p, m) ∷ before) (call_uncalled s (p == p) m (called_by s p before) refl ∙ is) none

is_below : (p n : ℕ) → p < n → nat_lt p n ≡ true
is_below p n below = grind (arith, nat_tests)

-- an entry more
module _ (s : Setup) (good : IsGood s) (events : List Event) (event : Event) (e : Entry) (is : entry_of s (past_of s events) event ≡ Some e) (before : store_by s (marks_back (past_of s events)) ≡ store_after s (history s (past_of s events))) where
  abbrev past : Past
  past = past_of s events

  abbrev p : ℕ
  p = e.process

  abbrev call : LastCall
  call = call_in s (own p past)

  abbrev taken : Reply → Taken
  taken r = taken_with s past e r

  there : nat_lt p s.processes ≡ true
  there = is_below p s.processes (accepted s good events event e is).below

  grows : history s (e ∷ past) ≡ history s past ++ map (λ (t : ℕ × Reply). taken t.1) (takings e.marks)
  grows = grows_by_the_taken s good events event e is

  store_more : store_by s (marks_back (e ∷ past)) ≡ store_after s (history s (e ∷ past))
  store_more = by (says s good events event e is)
    where
      by : {was : List (ℕ × Reply)} {d d' : Doing} → Says was d d' e.marks → store_by s (marks_back (e ∷ past)) ≡ store_after s (history s (e ∷ past))
      by (goes t) =
          store_over s p call taken there (λ store r. refl) e.marks (marks_back past) (calls_are s good events p) t.uncalled
          ∙ ap (λ (store : Contents). fold after_taken store (map (λ (t : ℕ × Reply). taken t.1) (takings e.marks))) before
          ∙ sym (fold-append after_taken (opening_store s) (history s past) (map (λ (t : ℕ × Reply). taken t.1) (takings e.marks))) ∙ ap (store_after s) (sym grows)
      by (begins command marks took) =
          ap (λ (l : List Mark). store_by s (marks_after p l (marks_back past))) marks ∙ before
          ∙ ap (store_after s) (sym (append-nil (history s past)) ∙ ap (λ (l : List Mark). history s past ++ map (λ (t : ℕ × Reply). taken t.1) (takings l)) (sym marks) ∙ sym grows)

  -- The lines.

  -- what a command taken changes
  slice_seam : (xs : List Taken) (t : Taken) → slice_get (xs ++ t ∷ []) (length xs) ≡ Some t
  slice_seam [] t = refl
  slice_seam (x ∷ xs) t = slice_seam xs t

  change_there : (xs : List Taken) (r : Reply) → change_at s (xs ++ taken r ∷ []) (length xs) ≡ change_by_call p call (store_after s xs)
  change_there xs r =
      ap (λ (o : Option Taken). elim o as (λ _. Option Changed) [ None ↦ None | Some t ↦ change_taken (store_after s (take (length xs) (xs ++ taken r ∷ []))) t ]) (slice_seam xs (taken r))
      ∙ ap (λ (l : List Taken). change_taken (store_after s l) (taken r)) (take-append_seam xs (taken r ∷ []))

  -- marks of which at most one takes a command
  one_of : {A : Type 0} (xs : List A) (x : A) → length xs < 2 → Contains xs x → xs ≡ x ∷ []
  one_of [] x few (i, within, is) = absurd (omega (arith, within))
  one_of (y ∷ []) x few (zero, within, is) = ap (λ z. z ∷ []) is
  one_of (y ∷ []) x few (suc i, within, is) = absurd (omega (arith, within))
  one_of (y ∷ z ∷ xs) x few at = absurd (omega (arith, few))

  none_of : {A : Type 0} (xs : List A) → suc (length xs) < 2 → xs ≡ []
  none_of [] few = refl
  none_of (x ∷ xs) few = absurd (omega (arith, few))

  changes_there : length (takings e.marks) < 2 → (k : ℕ) (r : Reply) → Contains (takings e.marks) (k, r) → change_at s (history s (e ∷ past)) k ≡ change_by_call p call (store_after s (history s past))
  changes_there few k r at =
      (λ i. change_at s ((grows ∙ ap (λ (l : List (ℕ × Reply)). history s past ++ map (λ (t : ℕ × Reply). taken t.1) l) (one_of (takings e.marks) (k, r) few at)) i) (at_its_place s good events event e is k r at i)) ∙ change_there (history s past) r

  says_untaken : (all : List Taken) (marks : List Mark) (before : List (ℕ × Mark)) → takings marks ≡ [] → says_marks s p before marks ≡ map (says_mark s all p) marks
  says_untaken all [] before none = refl
  says_untaken all (mark.Taken k r ∷ marks) before none = absurd (cc)
  says_untaken all (m ∷ marks) before none = ap (λ l. SaysMark p m None ∷ l) (says_untaken all marks ((p, m) ∷ before) none)

  says_one : (all : List Taken) (store : Contents) (marks : List Mark) (before : List (ℕ × Mark)) → called_by s p before ≡ call → store_by s before ≡ store → list_any is_called marks ≡ false → length (takings marks) < 2 →
      ((k : ℕ) (r : Reply) → Contains (takings marks) (k, r) → change_at s all k ≡ change_by_call p call store) → says_marks s p before marks ≡ map (says_mark s all p) marks
  says_one all store [] before called stored none few at = refl
  says_one all store (mark.Taken k r ∷ marks) before called stored none few at =
      let change : change_of s before p (mark.Taken k r) ≡ change_at s all k = ap (λ b. cond b (change_by_call p (called_by s p before) (store_by s before)) None) there ∙ (λ i. change_by_call p (called i) (stored i)) ∙ sym (at k r (0, omega arith, refl)) in
      (λ i. SaysMark p (mark.Taken k r) (change i) ∷ says_untaken all marks ((p, mark.Taken k r) ∷ before) (none_of (takings marks) few) i)
  says_one all store (mark.Called c ∷ marks) before called stored none few at = absurd (true≢false none)
  says_one all store (m ∷ marks) before called stored none few at = ap (λ l. SaysMark p m None ∷ l) (says_one all store marks ((p, m) ∷ before) (call_uncalled s (p == p) m (called_by s p before) refl ∙ called) stored none few at)

  lines_more : says_marks s p (marks_back past) e.marks ≡ map (says_mark s (history s (e ∷ past)) p) e.marks
  lines_more = by (says s good events event e is)
    where
      by : {was : List (ℕ × Reply)} {d d' : Doing} → Says was d d' e.marks → says_marks s p (marks_back past) e.marks ≡ map (says_mark s (history s (e ∷ past)) p) e.marks
      by (goes t) = says_one (history s (e ∷ past)) (store_after s (history s past)) e.marks (marks_back past) (calls_are s good events p) before t.uncalled t.one (changes_there t.one)
      by (begins command marks took) = subst (λ (l : List Mark). says_marks s p (marks_back past) l ≡ map (says_mark s (history s (e ∷ past)) p) l) (sym marks) refl

-- Of every run.

abbrev StoreIs : Setup → Past → Type 0
StoreIs s past = store_by s (marks_back past) ≡ store_after s (history s past)

event_more : (s : Setup) → IsGood s → (events : List Event) (event : Event) → StoreIs s (past_of s events) → (o : Option Entry) → entry_of s (past_of s events) event ≡ o → StoreIs s (elim o as (λ _. Past) [ None ↦ past_of s events | Some e ↦ e ∷ past_of s events ])
event_more s good events event before None is = before
event_more s good events event before (Some e) is = store_more s good events event e is before

pub store_is : StoreIsTheHistorys
store_is s checked [] = refl
store_is s checked (event ∷ events) = event_more s (is_good s checked) events event (store_is s checked events) (entry_of s (past_of s events) event) refl

pub lines_say : LinesSayTheHistory
lines_say s checked events event e is = lines_more s (is_good s checked) events event e is (store_is s checked events)
