-- The effect of an accepted event other than an access on a seat's view and on the words.
use Rattle.std.proofs.Common.{◌≡◌, ℕ, suc, ◌<◌, ◌==◌, ◌&&◌, Bool, true, false, cond, List, [], ◌∷◌, ◌++◌, ◌||◌, set, refl, sym, ap, ◌∙◌, subst, arith, Option, Some, None, eq-eqb}
use Rattle.std.proofs.lemmas.Bool.{lt-ltb}
use Rattle.std.specs.Prelude.{fold, nat_le}
use mathlib.Core.Option.{some}
use lib.ListN.{get_elem?}
use Rattle.atomic_table.proofs.Lists.{set_again}
use Rattle.model.specs.safe_bit.Cell.{Cell, without_read}
use Rattle.plain_store.specs.{Command, Setup}
use Rattle.model.specs.{AreGiven, Entry, Event, Mark, Past, Raises, Refusal, call_number, calls_full, calls_in, enter, entry_of, has, inside, inside_after, is_call, is_called, is_event, last_command, own, past_of, placed, process_of, refused, refused_at, reply_taken, stage, withdrawing}
use Rattle.model.specs.declared.events.Event.TheVariants as event
use Rattle.model.specs.declared.marks.Mark.TheVariants as mark
use Rattle.model.specs.declared.refusals.Refusal.TheVariants.{NoProcess, CallsFull}
use Rattle.model.proofs.Accepted.{accepted_adds}
use Rattle.model.proofs.Width.{IsGood, is_good}
use Rattle.model.proofs.World.{entry-accepted}
use Rattle.laws.specs.{Closes, Doing, Rests, Runs, call, cell_held, cut_of, doing, drops, is_inside}
use Rattle.laws.proofs.Cuts.{cut_is}
use Rattle.laws.proofs.Frame.{doing-goes, own-own}
use Rattle.laws.proofs.FrameInside.{inside-is}
use Rattle.laws.proofs.HeldCells.{held-marks}
use Rattle.board.proofs.Doings.{stage_known}
use Rattle.board.specs.{Knows, MayAllHappen, MayHappen, OwnView, Shows, ViewState, are_neighbours, at_events, counted_at, entries_of, entry_marked, own_view, refusal_in, shown, stage_in, with_event, with_events}
use Rattle.history_laws.specs.{changes_taken}
use Rattle.board.specs.Calls.{Calls, calls_after, calls_of}
use Rattle.process.specs.{next_number}
use Rattle.board.proofs.Neighbours.{marked_reads, one_more}
use Rattle.board.proofs.Along.{Along, along_entry, changes_none, kept, seen_along, set_at, set_set}

-- the past after an accepted event
pub past_after : (s : Setup) (events : List Event) (event : Event) (e : Entry) → entry_of s (past_of s events) event ≡ Some e → past_of s (event ∷ events) ≡ e ∷ past_of s events
past_after s events event e h = ap (λ o. elim o as (λ _. Past) [ None ↦ past_of s events | Some x ↦ x ∷ past_of s events ]) h

-- The view after the event.

pub calls_own : (s : Setup) (q : ℕ) (e : Entry) (past : Past) → e.process ≡ q → calls_of s q (e ∷ past) ≡ fold (calls_after (changes_taken s past)) (calls_of s q past) e.marks
calls_own s q e past h = ap (λ b. cond b (fold (calls_after (changes_taken s past)) (calls_of s q past) e.marks) (calls_of s q past)) (eq-eqb e.process q h)

pub entries_own : (s : Setup) (q : ℕ) (e : Entry) (past : Past) → e.process ≡ q → entries_of s q (e ∷ past) ≡ counted_at (changes_taken s past) e ∷ cond (has is_called e) [] (entries_of s q past)
entries_own s q e past h = ap (λ b. cond b (counted_at (changes_taken s past) e ∷ cond (has is_called e) [] (entries_of s q past)) (entries_of s q past)) (eq-eqb e.process q h)

number-next : (s : Setup) (n : ℕ) → cond (s.version == 2) (suc n) 0 ≡ next_number s (cond (s.version == 2) n 0)
number-next s n = grind arith

own_call : (s : Setup) (past : Past) (p : ℕ) (command : Command) → own_view s (entry_marked p (mark.Called command) ∷ past) p ≡ with_event s (own_view s past p) (event.Call p command)
own_call s past p command =
    let e : Entry = entry_marked p (mark.Called command) in
    let mine : own p (e ∷ past) ≡ e ∷ own p past = own-own p e past refl in
    let number : call_number s (e ∷ own p past) ≡ next_number s (call_number s (own p past)) = number-next s (calls_in (own p past)) in
    λ i. record {
      process = p;
      entries = entries_own s p e past refl i;
      doing = (doing-goes s p e past refl ∙ ap (λ n. Runs command n (enter (call s p command n) Raises)) number) i;
      command = ap last_command mine i;
      number = (ap (call_number s) mine ∙ number) i;
      calls = calls_own s p e past refl i;
    }

-- a mark that leaves the calls unchanged, and its effect on what the process is doing
own-mark : (s : Setup) (past : Past) (p : ℕ) (m : Mark) (d : Doing)
    → let e : Entry = entry_marked p m in
    ((k : ℕ) (t : Calls) → calls_after k t m ≡ t) → is_called m ≡ false → ((k : ℕ) → placed k m ≡ m) → doing s p (e ∷ past) ≡ d → last_command (e ∷ own p past) ≡ last_command (own p past) → calls_in (e ∷ own p past) ≡ calls_in (own p past)
    → own_view s (e ∷ past) p ≡ record (own_view s past p) { entries = entry_marked p m ∷ entries_of s p past; doing = d }
own-mark s past p m d plain uncalled untaken does command number =
    let e : Entry = entry_marked p m in
    let mine : own p (e ∷ past) ≡ e ∷ own p past = own-own p e past refl in
    λ i. record {
      process = p;
      entries = (entries_own s p e past refl ∙ (λ j. record e { marks = untaken (changes_taken s past) j ∷ [] } ∷ cond (uncalled j || false) [] (entries_of s p past))) i;
      doing = does i;
      command = (ap last_command mine ∙ command) i;
      number = (ap (call_number s) mine ∙ ap (λ n. cond (s.version == 2) n 0) number) i;
      calls = (calls_own s p e past refl ∙ plain (changes_taken s past) (calls_of s p past)) i;
    }

own_fail : (s : Setup) → IsGood s → (events : List Event) (p : ℕ) → refused_at (event.Fail p) (stage p (past_of s events)) ≡ None → own_view s (entry_marked p mark.Failed ∷ past_of s events) p ≡ with_event s (own_view s (past_of s events) p) (event.Fail p)
own_fail s g events p may =
    let past = past_of s events in
    own-mark s past p mark.Failed (Closes (last_command (own p past)) (call_number s (own p past)) (cut_of s p (doing s p past))) (λ k t. refl) refl (λ k. refl)
    (doing-goes s p (entry_marked p mark.Failed) past refl ∙ ap (Closes (last_command (own p past)) (call_number s (own p past))) (cut_is s g events p may)) refl refl

own_withdrawal : (s : Setup) (past : Past) (p : ℕ) → own_view s (entry_marked p mark.Withdrew ∷ past) p ≡ with_event s (own_view s past p) (event.Withdraw p)
own_withdrawal s past p =
    let number = call_number s (own p past) in
    own-mark s past p mark.Withdrew (Closes (last_command (own p past)) number (withdrawing (call s p (last_command (own p past)) number))) (λ k t. refl) refl (λ k. refl) (doing-goes s p (entry_marked p mark.Withdrew) past refl) refl refl

own_restart : (s : Setup) (past : Past) (p : ℕ) → own_view s (entry_marked p mark.Restarted ∷ past) p ≡ with_event s (own_view s past p) (event.Restart p)
own_restart s past p = own-mark s past p mark.Restarted Rests (λ k t. refl) refl (λ k. refl) (doing-goes s p (entry_marked p mark.Restarted) past refl) refl refl

-- the view of the process after an event other than an access, which takes no command and lets no process in
pub record KnowsThen (s : Setup) (past : Past) (o : OwnView) (event : Event) (e : Entry) : Type 0 where
  pub process : e.process ≡ o.process
  pub access : e.access ≡ None
  pub own : own_view s (e ∷ past) o.process ≡ with_event s o event
  pub untaken : reply_taken e.marks ≡ None
  pub inside : inside o.process (e ∷ past) ≡ inside o.process past

-- an entry with a mark by which no process enters or leaves
inside-mark : (q : ℕ) (past : Past) (m : Mark) → inside_after (inside q past) m ≡ inside q past → inside q (entry_marked q m ∷ past) ≡ inside q past
inside-mark q past m h = ap (λ b. cond b (inside_after (inside q past) m) (inside q past)) (eq-eqb q q refl) ∙ h

same-mark : (p q : ℕ) (m : Mark) (e : Entry) → p ≡ q → Some (entry_marked p m) ≡ Some e → entry_marked q m ≡ e
same-mark p q m e is h = let one : entry_marked p m ≡ e = cc in ap (λ q. entry_marked q m) (sym is) ∙ one

marked : (s : Setup) → IsGood s → (events : List Event) (event : Event) (e : Entry) (o : OwnView) → o ≡ own_view s (past_of s events) o.process → entry_of s (past_of s events) event ≡ Some e → MayHappen s o event → KnowsThen s (past_of s events) o event e
marked s g events (event.Call p command) e o known h may =
    let past = past_of s events in
    let q = o.process in
    subst (KnowsThen s past o (event.Call p command)) (same-mark p q (mark.Called command) e may.process (entry-accepted s past (event.Call p command) e h).2)
    (record { process = refl; access = refl; own = own_call s past q command ∙ ap (λ o. with_event s o (event.Call p command)) (sym known); untaken = refl; inside = inside-mark q past (mark.Called command) refl })
marked s g events (event.Step p flick) e o known h may = let f = may.marked in cc
marked s g events (event.Fail p) e o known h may =
    let past = past_of s events in
    let q = o.process in
    let found = entry-accepted s past (event.Fail p) e h in
    subst (KnowsThen s past o (event.Fail p)) (same-mark p q mark.Failed e may.process found.2)
    (record {
      process = refl;
      access = refl;
      own = own_fail s g events q (subst (λ q. refused_at (event.Fail q) (stage q past) ≡ None) may.process found.1) ∙ ap (λ o. with_event s o (event.Fail p)) (sym known);
      untaken = refl;
      inside = inside-mark q past mark.Failed refl;
    })
marked s g events (event.Withdraw p) e o known h may =
    let past = past_of s events in
    let q = o.process in
    subst (KnowsThen s past o (event.Withdraw p)) (same-mark p q mark.Withdrew e may.process (entry-accepted s past (event.Withdraw p) e h).2)
    (record { process = refl; access = refl; own = own_withdrawal s past q ∙ ap (λ o. with_event s o (event.Withdraw p)) (sym known); untaken = refl; inside = inside-mark q past mark.Withdrew refl })
marked s g events (event.Restart p) e o known h may =
    let past = past_of s events in
    let q = o.process in
    subst (KnowsThen s past o (event.Restart p)) (same-mark p q mark.Restarted e may.process (entry-accepted s past (event.Restart p) e h).2)
    (record { process = refl; access = refl; own = own_restart s past q ∙ ap (λ o. with_event s o (event.Restart p)) (sym known); untaken = refl; inside = inside-mark q past mark.Restarted refl })

-- Refusals.

full-is : (is b : Bool) (n : ℕ) → (is && b && nat_le 65535 n) ≡ (is && b && nat_le 65535 (cond b n 0))
full-is is b n = grind arith

-- an event is refused as in the view of its process
refused-own : (s : Setup) → IsGood s → (events : List Event) (event : Event) → process_of event < s.processes → refused s (past_of s events) event ≡ refusal_in s (own_view s (past_of s events) (process_of event)) event
refused-own s g events event below =
    let past = past_of s events in
    let p = process_of event in
    ap (λ b. cond b (elim (refused_at event (stage p past)) as (λ _. Option Refusal) [ Some r ↦ Some r | None ↦ cond (calls_full s past event) (Some CallsFull) None ]) (Some NoProcess)) (lt-ltb p s.processes below)
    ∙ ap (λ at. elim (refused_at event at) as (λ _. Option Refusal) [ Some r ↦ Some r | None ↦ cond (calls_full s past event) (Some CallsFull) None ]) (sym (stage_known s g events p))
    ∙ ap (λ b. elim (refused_at event (stage_in s (own_view s past p))) as (λ _. Option Refusal) [ Some r ↦ Some r | None ↦ cond b (Some CallsFull) None ]) (full-is (is_call event) (s.version == 2) (calls_in (own p past)))

pub refused_is : (s : Setup) → IsGood s → (events : List Event) (event : Event) (v : ViewState) → Knows s (past_of s events) v → process_of event ≡ v.own.process → refused s (past_of s events) event ≡ refusal_in s v.own event
refused_is s g events event v k process =
    refused-own s g events event (subst (λ q. q < s.processes) (sym process) k.below)
    ∙ ap (λ p. refusal_in s (own_view s (past_of s events) p) event) process
    ∙ ap (λ o. refusal_in s o event) (sym k.own)

-- The words.

shown-without : (c : Cell) (b : Bool) → shown (cond b (without_read c) c) ≡ shown c
shown-without c true = refl
shown-without c false = refl

pub given_more : (s : Setup) (events : List Event) (event : Event) → AreGiven s events → is_event event ≡ true → AreGiven s (event ∷ events)
given_more s events event g h = record { opening = g.opening; commands = λ i. h i && g.commands i }

pub same_process : (s : Setup) (o : OwnView) (event : Event) → (with_event s o event).process ≡ o.process
same_process s o event = grind arith

pub same_process_all : (s : Setup) (o : OwnView) (events : List Event) → (with_events s o events).process ≡ o.process
same_process_all s o [] = refl
same_process_all s o (event ∷ events) = same_process s (with_events s o events) event ∙ same_process_all s o events

-- an event of a seat's process other than an access, as an entry of the record
record Happened (s : Setup) (events : List Event) (v : ViewState) (event : Event) : Type 0 where
  pub e : Entry
  pub added : entry_of s (past_of s events) event ≡ Some e
  pub is : KnowsThen s (past_of s events) v.own event e
  pub on : past_of s (event ∷ events) ≡ e ∷ past_of s events

happened : (s : Setup) (events : List Event) (words : List ℕ) (views : List ViewState) (id : ℕ) (v : ViewState) (event : Event) → Shows s events words views → get_elem? views id ≡ some v → v.spent ≡ false → MayHappen s v.own event → Happened s events v event
happened s events words views id v event f at live may =
    let g = is_good s f.good in
    let k = f.known id v at live in
    let add = accepted_adds s g events event (refused_is s g events event v k may.process ∙ may.accepted) in
    record { e = add.0; added = add.1; is = marked s g events event add.0 v.own k.own add.1 may; on = past_after s events event add.0 add.1 }

-- words and views show the past after the event
event_shows : (s : Setup) (events : List Event) (words : List ℕ) (views : List ViewState) (id : ℕ) (v : ViewState) (event : Event) → Shows s events words views → get_elem? views id ≡ some v → v.spent ≡ false → MayHappen s v.own event →
    Shows s (event ∷ events) words (set views id (record v { own = with_event s v.own event }))
event_shows s events words views id v event f at live may =
    let g = is_good s f.good in
    let past = past_of s events in
    let p = v.own.process in
    let w : ViewState = record v { own = with_event s v.own event } in
    let k = f.known id v at live in
    let h = happened s events words views id v event f at live may in
    let e = h.e in
    let process : w.own.process ≡ v.own.process = same_process s v.own event in
    let was : is_inside w.own.doing ≡ true → is_inside v.own.doing ≡ true = λ i.
    ap (λ (o : OwnView). is_inside o.doing) k.own ∙ sym (inside-is s g events p) ∙ sym h.is.inside ∙ ap (inside p) (sym h.on) ∙ inside-is s g (event ∷ events) p
    ∙ ap (λ z. is_inside (doing s p z)) h.on ∙ ap (λ (o : OwnView). is_inside o.doing) h.is.own ∙ i in
    let along : Along s v.own.process past (e ∷ past) = along_entry s g events event e h.added v.own.process h.is.process in
    kept s events (event ∷ events) words words views id v w f at live
    (subst (Along s v.own.process past) (sym h.on) along)
    (record { spent = refl; process = process; made = refl; joined = refl }) (given_more s events event f.given may.given)
    (subst (λ z. Knows s z w) (sym h.on) (record {
      below = subst (λ q. q < s.processes) (sym process) k.below;
      own = sym (ap (own_view s (e ∷ past)) process ∙ h.is.own);
      seen = seen_along s v.own.process past (e ∷ past) v.seen along k.seen;
      inside = λ i. k.inside (was i) ∙ sym (changes_none s past e h.is.untaken);
    })) f.size
    (λ a there. f.bits a there ∙ sym (ap (λ z. shown (cell_held s z a)) h.on ∙ ap shown (held-marks s past e a h.is.access) ∙ shown-without (cell_held s past a) (drops e && (e.process == a.reader))))

-- they show the past after several events
pub events_show : (s : Setup) (events : List Event) (words : List ℕ) (views : List ViewState) (id : ℕ) (v : ViewState) (xs : List Event) → Shows s events words views → get_elem? views id ≡ some v → v.spent ≡ false → MayAllHappen s v.own xs →
    Shows s (xs ++ events) words (set views id (at_events s v xs))
events_show s events words views id v [] f at live may = subst (Shows s events words) (sym (set_again views id v at)) f
events_show s events words views id v (x ∷ xs) f at live may =
    let w : ViewState = at_events s v xs in
    subst (Shows s (x ∷ (xs ++ events)) words) (set_set views id w (record w { own = with_event s w.own x }))
    (event_shows s (xs ++ events) words (set views id w) id w x (events_show s events words views id v xs f at live may.0) (set_at views id v w at) live may.1)

-- none of these events belongs to a read
pub events_apart : (s : Setup) (events : List Event) (words : List ℕ) (views : List ViewState) (id : ℕ) (v : ViewState) (xs : List Event) → Shows s events words views → get_elem? views id ≡ some v → v.spent ≡ false → MayAllHappen s v.own xs →
    are_neighbours (past_of s events) ≡ true → are_neighbours (past_of s (xs ++ events)) ≡ true
events_apart s events words views id v [] f at live may paired = paired
events_apart s events words views id v (x ∷ xs) f at live may paired =
    let w : ViewState = at_events s v xs in
    let h = happened s (xs ++ events) words (set views id w) id w x (events_show s events words views id v xs f at live may.0) (set_at views id v w at) live may.1 in
    ap are_neighbours h.on ∙ one_more h.e (past_of s (xs ++ events)) (marked_reads h.e h.is.access) (events_apart s events words views id v xs f at live may.0 paired)

-- A view together with the events since its last word step.

knows_since : (s : Setup) (events : List Event) (words : List ℕ) (views : List ViewState) (i : ℕ) (v : ViewState) (since : List Event) → Shows s events words views → get_elem? views i ≡ some v → v.spent ≡ false → MayAllHappen s v.own since →
    Knows s (past_of s (since ++ events)) (at_events s v since)
knows_since s events words views i v since shows at live may = (events_show s events words views i v since shows at live may).known i (at_events s v since) (set_at views i v (at_events s v since) at) live

pub stage_reported : (s : Setup) (events : List Event) (words : List ℕ) (views : List ViewState) (i : ℕ) (v : ViewState) (since : List Event) → Shows s events words views → get_elem? views i ≡ some v → v.spent ≡ false → MayAllHappen s v.own since →
    stage v.own.process (past_of s (since ++ events)) ≡ stage_in s (with_events s v.own since)
stage_reported s events words views i v since shows at live may =
    let o = with_events s v.own since in
    let k = knows_since s events words views i v since shows at live may in
    ap (λ p. stage p (past_of s (since ++ events))) (sym (same_process_all s v.own since))
    ∙ sym (stage_known s (is_good s shows.good) (since ++ events) o.process) ∙ ap (stage_in s) (sym k.own)

pub refusals_reported : (s : Setup) (events : List Event) (words : List ℕ) (views : List ViewState) (i : ℕ) (v : ViewState) (since : List Event) → Shows s events words views → get_elem? views i ≡ some v → v.spent ≡ false → MayAllHappen s v.own since →
    (event : Event) → process_of event ≡ v.own.process → refused s (past_of s (since ++ events)) event ≡ refusal_in s (with_events s v.own since) event
refusals_reported s events words views i v since shows at live may event process =
    refused_is s (is_good s shows.good) (since ++ events) event (at_events s v since) (knows_since s events words views i v since shows at live may) (process ∙ sym (same_process_all s v.own since))
