-- The effect of the next access of a seat's process on the seat's view and on the words.
use Rattle.std.proofs.Common.{◌≡◌, ℕ, ◌<◌, ◌==◌, Bool, true, false, cond, List, [], ◌∷◌, length, map, set, refl, sym, ap, ◌∙◌, subst, Option, Some, None, option_map, append-nil, eq-eqb, get_or-set_same, get_or-set_other, arith}
use Rattle.std.proofs.lemmas.Bool.{true≢false}
use Rattle.std.specs.Prelude.{slice_index, fold}
use mathlib.Core.Option.{some}
use lib.ListN.{get_elem?}
use Rattle.model.specs.safe_bit.Cell.{Cell, cell_after}
use Rattle.model.specs.safe_bit.{Move, is_of_write, read_value}
use Rattle.model.specs.{Access, Entry, Event, Mark, Past, Refusal, call_number, ended, ended_with, entry_of, history, last_command, moves_of, opening_bit, own, past_of, placed, same_bit, stage, stage_after, value_of, valued}
use Rattle.plain_store.specs.{Setup}
use Rattle.model.specs.declared.events.Event.TheVariants as event
use Rattle.model.proofs.Accepted.{accepted_adds}
use Rattle.model.proofs.Local.{command-plain, calls-plain}
use Rattle.model.proofs.Staging.{no_called, stage-placed}
use Rattle.model.proofs.Width.{IsGood, is_good}
use Rattle.laws.specs.{IsThere, cell_held, doing, marks_with, next_of}
use Rattle.laws.proofs.Frame.{own-own}
use Rattle.laws.proofs.FrameCells.{OnCopy, on-copy}
use Rattle.laws.proofs.HeldCells.{held-entry}
use Rattle.laws.proofs.HeldThere.{access_there}
use Rattle.laws.proofs.Steps.{StepIs, step_is}
use Rattle.board.specs.{IsUnended, Knows, OwnView, Shows, ViewState, counted_at, entries_of, entry_stepped, goes, own_view, refusal_in, shown, stage_in, with_step, word_of, words_in}
use Rattle.board.proofs.Doings.{known_unended, next_goes, step_allowed}
use Rattle.history_laws.specs.{changes_taken}
use Rattle.board.specs.Calls.{Calls, calls_after, calls_of, changes_of}
use Rattle.board.proofs.WordNumbers.{one_bit, one_word, word_below}
use Rattle.board.proofs.Along.{Along, along_entry, kept}
use Rattle.board.proofs.Happenings.{calls_own, entries_own, given_more, past_after, refused_is}

-- The view after the access.

mark-placed : (k j : ℕ) (t : Calls) (m : Mark) → calls_after k t (placed j m) ≡ calls_after k t m
mark-placed k j t m = grind arith

-- the calls do not depend on the positions in the history
fold-placed : (k j : ℕ) (t : Calls) (ms : List Mark) → fold (calls_after k) t (map (placed j) ms) ≡ fold (calls_after k) t ms
fold-placed k j t [] = refl
fold-placed k j t (m ∷ ms) = fold-placed k j (calls_after k t (placed j m)) ms ∙ ap (λ t. fold (calls_after k) t ms) (mark-placed k j t m)

mark-again : (k j : ℕ) (m : Mark) → placed k (placed j m) ≡ placed k m
mark-again k j m = grind arith

-- a mark that gets two positions keeps the second
placed-again : (k j : ℕ) (ms : List Mark) → map (placed k) (map (placed j) ms) ≡ map (placed k) ms
placed-again k j [] = refl
placed-again k j (m ∷ ms) = λ i. mark-again k j m i ∷ placed-again k j ms i

-- a move that is given a value ends with that value
ended-value : (v : Bool) (m : Move) → ended (value_of (ended v m)) m ≡ ended v m
ended-value v m = grind arith

-- the entry of a step, with its position
counted-step : (s : Setup) (past : Past) (p : ℕ) (flick : Bool) (e : Entry) (place : ℕ) → (is : StepIs s past p flick e) → counted_at place e ≡ entry_stepped s (own_view s past p) flick (value_of (valued s past flick is.next).how) place
counted-step s past p flick e place is =
    let n = is.next in
    let value = value_of (valued s past flick n).how in
    let access : Some (valued s past flick n) ≡ option_map (ended_with value) (next_of s p (doing s p past) flick) =
    (λ i. Some (record n { how = sym (ended-value (read_value (opening_bit s n) (moves_of n past) flick) n.how) i })) ∙ sym (ap (option_map (ended_with value)) is.is_next) in
    λ i. record {
      process = is.process i;
      access = (is.access ∙ access) i;
      marks = (ap (map (placed place)) is.marks ∙ placed-again place (length (history s past)) (marks_with s p (doing s p past) flick value)) i;
    }

own_step : (s : Setup) (past : Past) (p : ℕ) (flick : Bool) (e : Entry) → (is : StepIs s past p flick e) →
    own_view s (e ∷ past) p ≡ with_step s (own_view s past p) flick (value_of (valued s past flick is.next).how) (changes_taken s past)
own_step s past p flick e is =
    let value = value_of (valued s past flick is.next).how in
    let place = changes_taken s past in
    let mine : own p (e ∷ past) ≡ e ∷ own p past = own-own p e past is.process in
    λ i. record {
      process = p;
      entries = (entries_own s p e past is.process ∙ (λ j. counted-step s past p flick e place is j ∷ cond (no_called e.marks is.plain j) [] (entries_of s p past))) i;
      doing = is.does i;
      command = (ap last_command mine ∙ command-plain e (own p past) is.plain) i;
      number = (ap (call_number s) mine ∙ ap (λ n. cond (s.version == 2) n 0) (calls-plain e (own p past) is.plain)) i;
      calls = (calls_own s p e past is.process ∙ ap (fold (calls_after place) (calls_of s p past)) is.marks ∙ fold-placed place (length (history s past)) (calls_of s p past) (marks_with s p (doing s p past) flick value)) i;
    }

-- The step is accepted.

not_refused : (s : Setup) (o : OwnView) (flick : Bool) → goes s o ≡ true → refusal_in s o (event.Step o.process flick) ≡ None
not_refused s o flick h = ap (λ r. elim r as (λ _. Option Refusal) [ Some x ↦ Some x | None ↦ None ]) (step_allowed (stage_in s o) o.process flick h)

-- the call or closing that a view knows has not come to its end
pub unended : (s : Setup) (past : Past) (v : ViewState) → Knows s past v → IsUnended v.own.doing
unended s past v k = subst IsUnended (sym (ap (λ (o : OwnView). o.doing) k.own)) (known_unended s v.own.process past)

-- the entry of the next access of a seat's process
pub record Made (s : Setup) (events : List Event) (v : ViewState) (flick : Bool) (n : Access) : Type 0 where
  pub e : Entry
  pub added : entry_of s (past_of s events) (event.Step v.own.process flick) ≡ Some e
  pub process : e.process ≡ v.own.process
  pub access : e.access ≡ Some (valued s (past_of s events) flick n)
  pub there : IsThere s n
  pub on : past_of s (event.Step v.own.process flick ∷ events) ≡ e ∷ past_of s events
  pub own : own_view s (e ∷ past_of s events) v.own.process ≡ with_step s v.own flick (value_of (valued s (past_of s events) flick n).how) (changes_taken s (past_of s events))
  pub marks : e.marks ≡ map (placed (length (history s (past_of s events)))) (marks_with s v.own.process v.own.doing flick (value_of (valued s (past_of s events) flick n).how))
  pub stage : stage v.own.process (e ∷ past_of s events) ≡ fold stage_after (stage v.own.process (past_of s events)) (marks_with s v.own.process v.own.doing flick (value_of (valued s (past_of s events) flick n).how))

-- the stage of a process after its step
stage-step : (s : Setup) (past : Past) (p : ℕ) (flick : Bool) (e : Entry) → (is : StepIs s past p flick e) → stage p (e ∷ past) ≡ fold stage_after (stage p past) (marks_with s p (doing s p past) flick (value_of (valued s past flick is.next).how))
stage-step s past p flick e is =
    ap (λ b. cond b (fold stage_after (stage p past) e.marks) (stage p past)) (eq-eqb e.process p is.process)
    ∙ ap (fold stage_after (stage p past)) is.marks
    ∙ stage-placed (length (history s past)) (stage p past) (marks_with s p (doing s p past) flick (value_of (valued s past flick is.next).how))

some_access : (x y : Access) → Some x ≡ Some y → x ≡ y
some_access x y h = cc

pub made : (s : Setup) → IsGood s → (events : List Event) (v : ViewState) (flick : Bool) (n : Access) → Knows s (past_of s events) v → next_of s v.own.process v.own.doing flick ≡ Some n → Made s events v flick n
made s g events v flick n k next =
    let past = past_of s events in
    let p = v.own.process in
    let what = event.Step p flick in
    let goes = not_refused s v.own flick (next_goes s p v.own.doing flick n (unended s past v k) next) in
    let add = accepted_adds s g events what (refused_is s g events what v k refl ∙ goes) in
    let e = add.0 in
    let is : StepIs s past p flick e = step_is s g events p flick e add.1 in
    let doing_is : doing s p past ≡ v.own.doing = ap (λ (o : OwnView). o.doing) (sym k.own) in
    let n_is : is.next ≡ n = some_access is.next n (sym is.is_next ∙ ap (λ d. next_of s p d flick) doing_is ∙ next) in
    let access : e.access ≡ Some (valued s past flick n) = is.access ∙ ap (λ x. Some (valued s past flick x)) n_is in
    let there : IsThere s (valued s past flick n) = access_there s g events what e add.1 (valued s past flick n) access in
    record {
      e = e;
      added = add.1;
      process = is.process;
      access = access;
      there = record { owner = there.owner; reader = there.reader; bit = there.bit };
      on = past_after s events what e add.1;
      own = own_step s past p flick e is ∙ (λ i. with_step s (sym k.own i) flick (value_of (valued s past flick (n_is i)).how) (changes_taken s past));
      marks = is.marks ∙ (λ i. map (placed (length (history s past))) (marks_with s p (doing_is i) flick (value_of (valued s past flick (n_is i)).how)));
      stage = stage-step s past p flick e is ∙ (λ i. fold stage_after (stage p past) (marks_with s p (doing_is i) flick (value_of (valued s past flick (n_is i)).how)));
    }

-- the view after the changes of a past
abbrev pub seeing : Setup → Past → ViewState → ViewState
seeing s past v = record v { own = own_view s past v.own.process; seen = changes_of s past }

-- words and views show the past after the step, if the words are those of the cells
pub step_shows : (s : Setup) (events : List Event) (words words' : List ℕ) (views : List ViewState) (id : ℕ) (v : ViewState) (flick : Bool) (n : Access) → Shows s events words views → get_elem? views id ≡ some v → v.spent ≡ false →
    (m : Made s events v flick n) → length words' ≡ words_in s → ((a : Access) → IsThere s a → slice_index words' (word_of s a) ≡ shown (cell_held s (m.e ∷ past_of s events) a)) →
    Shows s (event.Step v.own.process flick ∷ events) words' (set views id (seeing s (m.e ∷ past_of s events) v))
step_shows s events words words' views id v flick n f at live m size bits =
    let past = past_of s events in
    let w = seeing s (m.e ∷ past) v in
    kept s events (event.Step v.own.process flick ∷ events) words words' views id v w f at live
    (subst (Along s v.own.process past) (sym m.on) (along_entry s (is_good s f.good) events (event.Step v.own.process flick) m.e m.added v.own.process m.process))
    (record { spent = refl; process = refl; made = refl; joined = refl }) (given_more s events (event.Step v.own.process flick) f.given refl)
    (subst (λ z. Knows s z w) (sym m.on) (record { below = (f.known id v at live).below; own = refl; seen = ([], sym (append-nil (changes_of s (m.e ∷ past)))); inside = λ h. refl })) size
    (λ a there. bits a there ∙ ap (λ z. shown (cell_held s z a)) (sym m.on))

-- The cells.

-- a read leaves the words unchanged
shown-read : (c : Cell) (m : Move) → is_of_write m ≡ false → shown (cell_after c m) ≡ shown c
shown-read c m h = grind arith

pub cells_read : (s : Setup) (past : Past) (e : Entry) (x a : Access) → e.access ≡ Some x → is_of_write x.how ≡ false → shown (cell_held s (e ∷ past) a) ≡ shown (cell_held s past a)
cells_read s past e x a h r = ap shown (held-entry s past e x a h) ∙ by (same_bit a x)
  where
    by : (b : Bool) → shown (cond b (cell_after (cell_held s past a) x.how) (cell_held s past a)) ≡ shown (cell_held s past a)
    by true = shown-read (cell_held s past a) x.how r
    by false = refl

-- a write changes one word
pub cells_written : (s : Setup) (past : Past) (words : List ℕ) (e : Entry) (x : Access) (new : ℕ) → e.access ≡ Some x → IsThere s x → length words ≡ words_in s → shown (cell_after (cell_held s past x) x.how) ≡ new →
    ((a : Access) → IsThere s a → slice_index words (word_of s a) ≡ shown (cell_held s past a)) →
    (a : Access) → IsThere s a → slice_index (set words (word_of s x) new) (word_of s a) ≡ shown (cell_held s (e ∷ past) a)
cells_written s past words e x new h there size now bits a a_there = sym (ap shown (held-entry s past e x a h) ∙ by (same_bit a x) refl)
  where
    -- two accesses to one bit have one cell, for each move
    moved : same_bit a x ≡ true → shown (cell_after (cell_held s past a) x.how) ≡ new
    moved h = ap (λ (c : Cell). shown (cell_after c x.how)) (same_cell h) ∙ now
      where
        same_cell : same_bit a x ≡ true → cell_held s past a ≡ cell_held s past x
        same_cell h =
            let on : OnCopy x a.owner a.field a.bit a.reader = on-copy x a.owner a.field a.bit a.reader h in
            λ i. cell_held s past (let y : Access = record { owner = on.owner i; field = on.field i; bit = on.bit i; reader = on.reader i; how = x.how } in y)

    by : (b : Bool) → same_bit a x ≡ b → shown (cond b (cell_after (cell_held s past a) x.how) (cell_held s past a)) ≡ slice_index (set words (word_of s x) new) (word_of s a)
    by true is =
        moved is ∙ sym (ap (slice_index (set words (word_of s x) new)) (one_bit s a x is)
        ∙ get_or-set_same words (word_of s x) new 0 (subst (λ k. word_of s x < k) (sym size) (word_below s x there)))
    by false is = sym (get_or-set_other words (word_of s x) (word_of s a) new 0 (λ e. true≢false (sym (one_word s a x a_there there e) ∙ is)) ∙ bits a a_there)
