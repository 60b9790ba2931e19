-- The processes ahead of each process after one accepted entry, computed from those before the entry, without the record.
use Rattle.std.proofs.Common.{◌≡◌, ◌≢◌, ℕ, suc, ◌<◌, ◌==◌, ◌&&◌, nat_lt, Bool, true, false, cond, not, List, [], ◌∷◌, Option, Some, None, is_some, length, map, fold, slice_set, refl, sym, ap, subst, ◌∙◌, true≢false, arith, eqb-true, eq-eqb, ne_eqb}
use Rattle.std.proofs.lemmas.Bool.{eqb-false}
use Rattle.std.proofs.lemmas.Bool.Decides.{nat_tests}
use Rattle.std.specs.List.{list_any, range_with_len}
use Rattle.model.specs.{Access, Entry, Event, Mark, Past, Place, Stage, begins_doorway, doorway_begin, doorway_end, entry_of, first_of, has, is_ahead, is_before, is_called, is_fresh, is_waiting, is_waiting_stage, number_in_call, past_of, stage, stage_after}
use Rattle.plain_store.specs.{Command, Setup}
use Rattle.model.specs.declared.marks.Mark.TheVariants.{Called, Waiting, Entered, Taken, Left, Answered, Failed, Settled, Down, Withdrew, Restarted}
use Rattle.model.specs.declared.stages.Stage.TheVariants as stages
use Rattle.model.specs.Parts.{Part, Lowers}
use Rattle.model.proofs.Width.{IsGood}
use Rattle.laws.specs.{Doing, Rests, Lies, Runs, Closes, doing}
use Rattle.laws.proofs.AtPlaces.{AtPlace}
use Rattle.laws.proofs.DoorwayParts.{has_begun, has_finished, both}
use Rattle.laws.proofs.FrameMarks.{at_access, ends_doorway, is_lowering, is_resting, waiting-is}
use Rattle.laws.proofs.Numbers.{NumbersAt, numbers, number-own}
use Rattle.laws.proofs.Theorems.{waiter, waiter-numbers, not_ahead_of_itself}
use Rattle.world.specs.{waiting_before}
use Rattle.world.proofs.QueueBegun.{number-other, not-called}
use Rattle.world.proofs.QueueLists.{set-range, same-range}

-- Facts that are looked up.

-- the stage after an entry
stage-other : (j : ℕ) (e : Entry) (past : Past) → e.process ≢ j → stage j (e ∷ past) ≡ stage j past
stage-other j e past h = ap (λ b. cond b (fold stage_after (stage j past) e.marks) (stage j past)) (ne_eqb e.process j h)

stage-own : (e : Entry) (past : Past) → stage e.process (e ∷ past) ≡ fold stage_after (stage e.process past) e.marks
stage-own e past = ap (λ b. cond b (fold stage_after (stage e.process past) e.marks) (stage e.process past)) (eq-eqb e.process e.process refl)

-- the number of an entry is below the number of entries
number-below : (p : ℕ) (test : Entry → Bool) (past : Past) (k : ℕ) → number_in_call p test past ≡ Some k → k < length past
number-below p test [] k h = cc
number-below p test (e ∷ past) k h = go (e.process == p) (has is_called e) (number_in_call p test past) (test e) (number-below p test past) h
  where
    go : (mine called : Bool) (rest : Option ℕ) (passes : Bool) → ((k : ℕ) → rest ≡ Some k → k < length past) → elim mine as (λ _. Option ℕ) [
      | false ↦ rest
      | true ↦ elim called as (λ _. Option ℕ) [
        | true ↦ None
        | false ↦ first_of rest (elim passes as (λ _. Option ℕ) [ true ↦ Some (length past) | false ↦ None ])
      ]
    ] ≡ Some k → k < suc (length past)
    go false called rest passes ih h = let l = ih k h in omega (arith, l)
    go true true rest passes ih h = cc
    go true false (Some i) passes ih h = let l = ih k h in omega (arith, l)
    go true false None true ih h = let same : length past ≡ k = cc in omega (arith, same)
    go true false None false ih h = cc

-- a doorway that is finished before this entry is before one that begins with it, as before one that has not begun
before-next : (end : ℕ) (begin : Option ℕ) (begins : Bool) (size : ℕ) → end < size → is_before (Some end) (first_of begin (elim begins as (λ _. Option ℕ) [ true ↦ Some size | false ↦ None ])) ≡ is_before (Some end) begin
before-next end (Some k) begins size l = refl
before-next end None false size l = refl
before-next end None true size l = less end size l
  where
    less : (a b : ℕ) → a < b → nat_lt a b ≡ true
    less a b l = grind (arith, nat_tests)

-- a doorway that is finished with this entry is before those alone that have not begun
before-now : (begin : Option ℕ) (size : ℕ) → ((k : ℕ) → begin ≡ Some k → k < size) → is_before (Some size) begin ≡ not (is_some begin)
before-now None size h = refl
before-now (Some k) size h = above k size (h k refl)
  where
    above : (a b : ℕ) → a < b → nat_lt b a ≡ false
    above a b l = grind (arith, nat_tests)

-- The processes that wait.

-- a process that waits has finished its doorway, with an entry of the past
waits-since : (s : Setup) → IsGood s → (events : List Event) (j : ℕ) → is_waiting_stage (stage j (past_of s events)) ≡ true → (k : ℕ) × (doorway_end j (past_of s events) ≡ Some k) × (k < length (past_of s events))
waits-since s g events j w =
    let x = waiter-numbers s g events j (waiter s g events j w) in
    let (k, end, at) = x.finished_is refl in
    (k, end, number-below j (has is_waiting) (past_of s events) k end)

-- a process that starts to wait has a mark for it
comes-to-wait : (st : Stage) (ms : List Mark) → is_waiting_stage st ≡ false → is_waiting_stage (fold stage_after st ms) ≡ true → list_any is_waiting ms ≡ true
comes-to-wait st [] was then = absurd (true≢false (sym then ∙ was))
comes-to-wait st (Waiting t ∷ ms) was then = refl
comes-to-wait st (Called c ∷ ms) was then = comes-to-wait stages.Doorway ms refl then
comes-to-wait st (Entered ∷ ms) was then = comes-to-wait stages.Inside ms refl then
comes-to-wait st (Taken k r ∷ ms) was then = comes-to-wait st ms was then
comes-to-wait st (Left ∷ ms) was then = comes-to-wait (stage_after st Left) ms (remaining st) then
  where
    remaining : (st : Stage) → is_waiting_stage (stage_after st Left) ≡ false
    remaining stages.Settling = refl
    remaining stages.Idle = refl
    remaining stages.Doorway = refl
    remaining stages.Waiting = refl
    remaining stages.Inside = refl
    remaining stages.Leaving = refl
    remaining stages.Down = refl
comes-to-wait st (Answered a ∷ ms) was then = comes-to-wait stages.Idle ms refl then
comes-to-wait st (Failed ∷ ms) was then = comes-to-wait stages.Settling ms refl then
comes-to-wait st (Settled v ∷ ms) was then = comes-to-wait st ms was then
comes-to-wait st (Down ∷ ms) was then = comes-to-wait stages.Down ms refl then
comes-to-wait st (Withdrew ∷ ms) was then = comes-to-wait stages.Leaving ms refl then
comes-to-wait st (Restarted ∷ ms) was then = comes-to-wait stages.Idle ms refl then

-- the step with which a doorway is finished with a ticket
record LowersAt (d : Doing) : Type 0 where
  pub command : Command
  pub number : ℕ
  pub at : Place
  pub does : d ≡ Runs command number at
  pub lowers : is_lowering at.part ≡ true

-- a doorway ends with a ticket in that part alone
lowers-at : (s : Setup) (p : ℕ) (d : Doing) → ends_doorway s p d ≡ true → LowersAt d
lowers-at s p Rests h = cc
lowers-at s p Lies h = cc
lowers-at s p (Closes command number at) h = cc
lowers-at s p (Runs command number at) h = record { command = command; number = number; at = at; does = refl; lowers = (both (is_lowering at.part) _ h).0 }

-- there it has begun, and is not finished
lowers-begun : (x : Part) (fresh : Bool) → is_lowering x ≡ true → (has_begun x fresh ≡ true) × (has_finished x ≡ false)
lowers-begun (Lowers t) fresh h = (refl, refl)
lowers-begun _ fresh h = absurd (true≢false (sym h))

-- a test that holds at an access holds
made-at : (o : Option Access) (b : Bool) → at_access o b ≡ true → b ≡ true
made-at None b h = cc
made-at (Some a) b h = h

-- The effect of an accepted entry on each pair of processes.

module _ (s : Setup) (g : IsGood s) (events : List Event) (what : Event) (e : Entry) (is : entry_of s (past_of s events) what ≡ Some e) where
  abbrev past : Past
  past = past_of s events

  abbrev p : ℕ
  p = e.process

  abbrev after : Past
  after = e ∷ past

  -- no process is ahead of itself
  itself : is_ahead after p p ≡ false
  itself = ap (λ (o : Option Entry). is_ahead (elim o as (λ _. Past) [ None ↦ past | Some e ↦ e ∷ past ]) p p) (sym is) ∙ not_ahead_of_itself s g (what ∷ events) p

  -- a process that waits does not call
  waits-uncalled : is_waiting_stage (stage p past) ≡ true → has is_called e ≡ false
  waits-uncalled w = not-called s g events what e is (ap is_resting (waiter s g events p w).does)

  -- a process that calls does not wait
  caller-idle : has is_called e ≡ true → is_waiting_stage (stage p past) ≡ false
  caller-idle c = go (is_waiting_stage (stage p past)) refl
    where
      go : (b : Bool) → is_waiting_stage (stage p past) ≡ b → is_waiting_stage (stage p past) ≡ false
      go true w = absurd (true≢false (sym c ∙ waits-uncalled w))
      go false w = w

  -- a process that starts to wait lowers its choosing bit and has a mark
  lowering : is_waiting_stage (stage p past) ≡ false → is_waiting_stage (stage p after) ≡ true → (has is_waiting e ≡ true) × LowersAt (doing s p past)
  lowering was now =
      let marked : has is_waiting e ≡ true = comes-to-wait (stage p past) e.marks was (ap is_waiting_stage (sym (stage-own e past)) ∙ now) in
      (marked, lowers-at s p (doing s p past) (made-at e.access _ (sym (waiting-is s g events what e is) ∙ marked)))

  -- the process whose doorway is finished with this entry: it has begun, and was not finished before
  finishes : is_waiting_stage (stage p past) ≡ false → is_waiting_stage (stage p after) ≡ true → (doorway_end p after ≡ Some (length past)) × (is_some (doorway_begin p past) ≡ true)
  finishes was now =
      let (marked, x) = lowering was now in
      let k : NumbersAt s past p x.command x.number x.at = subst (AtPlace (NumbersAt s past p)) x.does (numbers s g events p) in
      let (begun, unfinished) = lowers-begun x.at.part (is_fresh x.at.run) x.lowers in
      let plain : has is_called e ≡ false = not-called s g events what e is (ap is_resting x.does) in
      let none : doorway_end p past ≡ None = k.1.unfinished unfinished in (
        number-own (has is_waiting) e past false plain ∙ (λ i. first_of (none i) (elim (marked i) as (λ _. Option ℕ) [ true ↦ Some (length past) | false ↦ None ])),
        ap is_some (k.1.begun_is begun).1,
      )

  -- any other process is ahead of q as before, except that it may come to be ahead of a process that calls
  pub others-ahead : (j q : ℕ) → p ≢ j → (has is_called e && (p == q)) ≡ false → is_ahead after j q ≡ is_ahead past j q
  others-ahead j q other plain = by (p == q) refl
    where
      stays : is_waiting_stage (stage j after) ≡ is_waiting_stage (stage j past)
      stays = ap is_waiting_stage (stage-other j e past other)

      ended : doorway_end j after ≡ doorway_end j past
      ended = number-other j (has is_waiting) e past other

      begins : has is_called e ≡ false → (w : Bool) → is_waiting_stage (stage j past) ≡ w → is_ahead after j p ≡ is_ahead past j p
      begins plain false w = (λ i. stays i && is_before (doorway_end j after) (doorway_begin p after)) ∙ ap (λ b. b && is_before (doorway_end j after) (doorway_begin p after)) w ∙ sym (ap (λ b. b && is_before (doorway_end j past) (doorway_begin p past)) w)
      begins plain true w =
          let (k, end, less) = waits-since s g events j w in
          (λ i. stays i && is_before ((ended ∙ end) i) (number-own begins_doorway e past false plain i))
          ∙ ap (λ b. is_waiting_stage (stage j past) && b) (before-next k (doorway_begin p past) (begins_doorway e) (length past) less ∙ ap (λ o. is_before o (doorway_begin p past)) (sym end))

      by : (b : Bool) → (p == q) ≡ b → is_ahead after j q ≡ is_ahead past j q
      by false i = (λ k. stays k && is_before (ended k) (number-other q begins_doorway e past (eqb-false p q i) k))
      by true i =
          let here : p ≡ q = eqb-true p q i in
          let uncalled : has is_called e ≡ false = and_true_right (has is_called e) (p == q) i plain in
          subst (λ q. is_ahead after j q ≡ is_ahead past j q) here (begins uncalled (is_waiting_stage (stage j past)) refl)
        where
          and_true_right : (a b : Bool) → b ≡ true → (a && b) ≡ false → a ≡ false
          and_true_right true b h k = absurd (true≢false (sym h ∙ k))
          and_true_right false b h k = refl

  -- a process that does not wait is ahead of no process
  not-waiting : (q : ℕ) → is_waiting_stage (stage p after) ≡ false → is_ahead after p q ≡ false
  not-waiting q now = ap (λ b. b && is_before (doorway_end p after) (doorway_begin q after)) now

  -- a process that starts to wait is ahead of those whose doorway has not begun
  now-waiting : (q : ℕ) → is_waiting_stage (stage p past) ≡ false → is_waiting_stage (stage p after) ≡ true → is_ahead after p q ≡ not (is_some (doorway_begin q past))
  now-waiting q was now = by (p == q) refl
    where
      by : (b : Bool) → (p == q) ≡ b → is_ahead after p q ≡ not (is_some (doorway_begin q past))
      by true i = subst (λ q. is_ahead after p q ≡ not (is_some (doorway_begin q past))) (eqb-true p q i) (itself ∙ sym (ap not (finishes was now).1))
      by false i = (λ k. now k && is_before ((finishes was now).0 k) (number-other q begins_doorway e past (eqb-false p q i) k))
          ∙ before-now (doorway_begin q past) (length past) (number-below q begins_doorway past)

  -- a process that continues to wait is ahead of the same processes as before
  still-waiting : (q : ℕ) → is_waiting_stage (stage p past) ≡ true → is_waiting_stage (stage p after) ≡ true → is_ahead after p q ≡ is_ahead past p q
  still-waiting q was now = by (p == q) refl
    where
      ended : doorway_end p after ≡ doorway_end p past
      ended =
          let (k, end, less) = waits-since s g events p was in
          number-own (has is_waiting) e past false (waits-uncalled was)
          ∙ ap (λ o. first_of o (elim (has is_waiting e) as (λ _. Option ℕ) [ true ↦ Some (length past) | false ↦ None ])) end ∙ sym end

      by : (b : Bool) → (p == q) ≡ b → is_ahead after p q ≡ is_ahead past p q
      by true i = subst (λ q. is_ahead after p q ≡ is_ahead past p q) (eqb-true p q i) (itself ∙ sym (not_ahead_of_itself s g events p))
      by false i = (λ k. (now ∙ sym was) k && is_before (ended k) (number-other q begins_doorway e past (eqb-false p q i) k))

  -- The lists.

  -- a process that stops waiting is ahead of no process
  pub before-done : is_waiting_stage (stage p past) ≡ true → is_waiting_stage (stage p after) ≡ false → (q : ℕ) → waiting_before after q ≡ slice_set (waiting_before past q) p false
  before-done was now q = set-range (λ j. is_ahead past j q) (λ j. is_ahead after j q) 16 p false
      (λ j other. others-ahead j q other (ap (λ b. b && (p == q)) (waits-uncalled was))) (not-waiting q now)

  -- a process that starts to wait is ahead of those whose doorway has not begun
  pub before-waits : is_waiting_stage (stage p past) ≡ false → is_waiting_stage (stage p after) ≡ true → (q : ℕ) → waiting_before after q ≡ slice_set (waiting_before past q) p (not (is_some (doorway_begin q past)))
  before-waits was now q = set-range (λ j. is_ahead past j q) (λ j. is_ahead after j q) 16 p (not (is_some (doorway_begin q past)))
      (λ j other. others-ahead j q other (ap (λ b. b && (p == q)) (not-called s g events what e is (ap is_resting (lowering was now).1.does)))) (now-waiting q was now)

  -- all processes that wait are ahead of a process that calls
  pub before-called : has is_called e ≡ true → waiting_before after p ≡ map (λ j. is_waiting_stage (stage j past)) (range_with_len 0 16)
  before-called c = same-range (λ j. is_waiting_stage (stage j past)) (λ j. is_ahead after j p) 16 (λ j. by j (p == j) refl)
    where
      none : doorway_begin p after ≡ None
      none = number-own begins_doorway e past true c

      waits : (j : ℕ) → p ≢ j → (w : Bool) → is_waiting_stage (stage j past) ≡ w → is_ahead after j p ≡ w
      waits j other false w = ap (λ b. b && is_before (doorway_end j after) (doorway_begin p after)) (ap is_waiting_stage (stage-other j e past other) ∙ w)
      waits j other true w =
          let (k, end, less) = waits-since s g events j w in
          (λ i. (ap is_waiting_stage (stage-other j e past other) ∙ w) i && is_before ((number-other j (has is_waiting) e past other ∙ end) i) (none i))

      by : (j : ℕ) → (b : Bool) → (p == j) ≡ b → is_ahead after j p ≡ is_waiting_stage (stage j past)
      by j true i = subst (λ j. is_ahead after j p ≡ is_waiting_stage (stage j past)) (eqb-true p j i) (itself ∙ sym (caller-idle c))
      by j false i = waits j (eqb-false p j i) (is_waiting_stage (stage j past)) refl

  -- any other entry changes nothing, nor does a call for the others
  pub before-kept : is_waiting_stage (stage p after) ≡ is_waiting_stage (stage p past) → (q : ℕ) → (has is_called e && (p == q)) ≡ false → waiting_before after q ≡ waiting_before past q
  before-kept same q plain = same-range (λ j. is_ahead past j q) (λ j. is_ahead after j q) 16 (λ j. by j (p == j) refl)
    where
      own : (w : Bool) → is_waiting_stage (stage p past) ≡ w → is_ahead after p q ≡ is_ahead past p q
      own true w = still-waiting q w (same ∙ w)
      own false w = not-waiting q (same ∙ w) ∙ sym (ap (λ b. b && is_before (doorway_end p past) (doorway_begin q past)) w)

      by : (j : ℕ) → (b : Bool) → (p == j) ≡ b → is_ahead after j q ≡ is_ahead past j q
      by j true i = subst (λ j. is_ahead after j q ≡ is_ahead past j q) (eqb-true p j i) (own (is_waiting_stage (stage p past)) refl)
      by j false i = others-ahead j q (eqb-false p j i) plain
