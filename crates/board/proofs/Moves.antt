-- Each load and each store of a port keeps the rule.
use Rattle.std.proofs.Common.{◌≡◌, ℕ, ◌<◌, Bool, true, false, cond, if◌then◌else◌, List, [], ◌∷◌, ◌++◌, set, length, refl, sym, ap, ◌∙◌, subst, Some, None, length-set, map, arith}
use Rattle.std.proofs.lemmas.List.{append-nil, set-get_or}
use Rattle.std.specs.Prelude.{Ok, fold, slice_index}
use mathlib.Core.Option.{some}
use lib.ListN.{get_elem?}
use Rattle.atomic_table.specs.Table.{State, keeps, Allows}
use Rattle.model.specs.safe_bit.Cell.{Cell, cell_after, read_answer}
use Rattle.model.specs.safe_bit.{Move, is_of_write, read_value}
use Rattle.model.specs.safe_bit.declared.Move.TheVariants.{EndWrite, BeginRead, EndRead}
use Rattle.model.specs.reader_copies.{IsWrite}
use Rattle.model.specs.{Access, AreGiven, Event, Past, Taken, ended, history, moves_of, opening_bit, past_of, placed, reply_taken, stage, stage_after, value_of, valued}
use Rattle.plain_store.specs.{Setup, checked}
use Rattle.model.specs.declared.events.Event.TheVariants as event
use Rattle.model.proofs.Singles.{is_of_write-true}
use Rattle.model.proofs.Width.{IsGood, is_good}
use Rattle.laws.specs.{being_written, cell_held, doing, is_inside, marks_with, next_of}
use Rattle.laws.proofs.Ends.{ends_what_began}
use Rattle.laws.proofs.FrameCells.{itself}
use Rattle.laws.proofs.FrameSteps.{valued-write}
use Rattle.laws.proofs.HeldCells.{held-entry, held_answers}
use Rattle.board.proofs.Doings.{stage_known}
use Rattle.board.proofs.Reached.{known_where}
use Rattle.board.specs.{Agree, GoesOn, IsPrefix, Knows, Loads, Makes, MayAllHappen, OwnView, Shows, Stores, ViewState, are_neighbours, at_events, changes_of, closed_word, is_pair, loaded, own_view, shown, stage_in, stored, with_events, with_step, word_of}
use Rattle.history_laws.specs.{changes_taken, stamp_read}
use Rattle.board.proofs.Along.{changes_entry, changes_none, prefix-trans, set_at, set_set, so_many_changes}
use Rattle.board.proofs.CallsFit.{calls_in_the_changes}
use Rattle.board.proofs.ReadBegins.{begin_inside, begin_untaken, ending, reads_on}
use Rattle.board.proofs.Happenings.{events_apart, events_show, same_process_all}
use Rattle.board.proofs.Neighbours.{one_more, read_more, written_reads}
use Rattle.history_laws.proofs.Outside.{placed-none}
use Rattle.history_laws.proofs.ReadStamps.{stamps_count}
use Rattle.board.proofs.Accesses.{Made, cells_read, cells_written, made, seeing, step_shows, unended}

-- The value of a read.

given : (flick w v : Bool) → (if w then flick else v) ≡ loaded flick (cond w 2 (closed_word v))
given flick w v = grind arith

-- the value of a read that ends directly after its begin
neighbours : (s : Setup) → IsGood s → (events events' : List Event) (v : ViewState) (flick : Bool) (n : Access) → (m : Made s events v flick n) → past_of s events' ≡ m.e ∷ past_of s events → m.e.access ≡ Some n → n.how ≡ BeginRead →
    value_of (valued s (past_of s events') flick (ending n)).how ≡ loaded flick (shown (cell_held s (past_of s events) n))
neighbours s g events events' v flick n m on access how =
    let past = past_of s events in
    let c = cell_held s past n in
    let here : cell_held s (m.e ∷ past) (ending n) ≡ cell_after c n.how = held-entry s past m.e n (ending n) access ∙ ap (λ b. cond b (cell_after c n.how) c) (itself n) in
    sym (held_answers s g events' (ending n) flick)
    ∙ ap (λ z. read_answer (cell_held s z (ending n)) flick) on
    ∙ ap (λ c. read_answer c flick) (here ∙ ap (cell_after c) how)
    ∙ given flick c.writing c.value

valued-begin : (s : Setup) (past : Past) (flick : Bool) (n : Access) → n.how ≡ BeginRead → valued s past flick n ≡ n
valued-begin s past flick n how = λ i. record n { how = (ap (ended (read_value (opening_bit s n) (moves_of n past) flick)) how ∙ sym how) i }

-- The changes seen, and the marks.

abbrev Holds : Setup → State (Unit {0}) ViewState → Type 0
Holds s t = Agree s t.words t.views

-- the changes seen are among those after the next entry of the process
seen_then : (s : Setup) (events : List Event) (v : ViewState) (flick : Bool) (n : Access) (k : Knows s (past_of s events) v) (m : Made s events v flick n) → IsPrefix v.seen (changes_of s (m.e ∷ past_of s events))
seen_then s events v flick n k m = prefix-trans v.seen (changes_of s (past_of s events)) (changes_of s (m.e ∷ past_of s events)) k.seen (changes_entry s (past_of s events) m.e)

-- the view of a record's process continues the earlier view
goes_on : (s : Setup) → checked s ≡ Ok tt → (events : List Event) → AreGiven s events → (v : ViewState) → v.own.process < s.processes → IsPrefix v.seen (changes_of s (past_of s events)) → GoesOn s v (seeing s (past_of s events) v)
goes_on s good events given v below seen = record {
  same = refl;
  at = known_where s (is_good s good) events v.own.process;
  seen = seen;
  stamped = λ stamp h. so_many_changes s (past_of s events) ∙ sym (stamps_count s good events given v.own.process stamp below h);
  fits = record { fits = (calls_in_the_changes s good events given v.own.process).1; seen = record { events = events; given = given; first = ([], sym (append-nil (changes_of s (past_of s events)))) } };
}

-- the next access of a seat whose process had these events
next_then : (s : Setup) (v : ViewState) (flick : Bool) (n : Access) (xs : List Event) → next_of s v.own.process (with_events s v.own xs).doing flick ≡ Some n → next_of s (with_events s v.own xs).process (with_events s v.own xs).doing flick ≡ Some n
next_then s v flick n xs h = ap (λ q. next_of s q (with_events s v.own xs).doing flick) (same_process_all s v.own xs) ∙ h

-- an access of a record, as a view knows it: its value, and the stage that its marks lead to
makes : (s : Setup) → checked s ≡ Ok tt → (events : List Event) → AreGiven s events → (v : ViewState) (seen : List Taken) (flick value : Bool) (n : Access) (k : Knows s (past_of s events) v) (m : Made s events v flick n) → value_of (valued s (past_of s events) flick n).how ≡ value →
    (is_inside v.own.doing ≡ true → seen ≡ changes_of s (past_of s events)) → Makes s seen flick value v.own (own_view s (past_of s (event.Step v.own.process flick ∷ events)) v.own.process)
makes s good events given v seen flick value n k m is all =
    let g = is_good s good in
    let past = past_of s events in
    let p = v.own.process in
    let events1 = event.Step p flick ∷ events in
    let was = sym (stage_known s g events p) in
    record {
      place = changes_taken s past;
      is = ap (λ z. own_view s z p) m.on ∙ m.own ∙ ap (λ x. with_step s v.own flick x (changes_taken s past)) is;
      counted = λ stamp h. sym (stamps_count s good events given p stamp k.below (ap (λ (o : OwnView). stamp_read o.doing) (sym k.own) ∙ h));
      inside = λ h. sym (ap length (all h) ∙ so_many_changes s past);
      stage = stage_known s g events1 p ∙ ap (stage p) m.on ∙ m.stage
          ∙ (λ i. fold stage_after (was i) (marks_with s p v.own.doing flick (is i)))
          ∙ ap (λ (o : OwnView). fold stage_after (stage_in s o) (marks_with s p v.own.doing flick value)) (sym k.own);
    }

-- one access of a seat's process, for any effect on the words
record Moved (s : Setup) (events : List Event) (words : List ℕ) (views : List ViewState) (id : ℕ) (v : ViewState) (flick : Bool) (n : Access) : Type 0 where
  pub made : Made s events v flick n
  pub shows : Shows s (event.Step v.own.process flick ∷ events) words (set views id (seeing s (past_of s (event.Step v.own.process flick ∷ events)) v))

-- the begin or the end of a read
reading : (s : Setup) (events : List Event) (words : List ℕ) (views : List ViewState) (id : ℕ) (v : ViewState) (flick : Bool) (n x : Access) → Shows s events words views → get_elem? views id ≡ some v → v.spent ≡ false →
    next_of s v.own.process v.own.doing flick ≡ Some n → valued s (past_of s events) flick n ≡ x → is_of_write x.how ≡ false → Moved s events words views id v flick n
reading s events words views id v flick n x f at live next is reads =
    let g = is_good s f.good in
    let m = made s g events v flick n (f.known id v at live) next in
    let access : m.e.access ≡ Some x = m.access ∙ ap Some is in
    let shows = step_shows s events words words views id v flick n f at live m f.size (λ a there. f.bits a there ∙ sym (cells_read s (past_of s events) m.e x a access reads)) in
    record { made = m; shows = subst (λ z. Shows s (event.Step v.own.process flick ∷ events) words (set views id (seeing s z v))) (sym m.on) shows }

-- a load keeps the rule
pub loads : (s : Setup) (slots id : ℕ) (flick : Bool) (v : ViewState) (held : List (ℕ × Unit {0})) (xs : List Event) (n : Access) → v.spent ≡ false → MayAllHappen s v.own xs
    → next_of s v.own.process (with_events s v.own xs).doing flick ≡ Some n → n.how ≡ BeginRead
    → Allows (Holds s) slots id (v, held) (word_of s n) (λ k. k) (λ word after. Loads s flick (at_events s v xs) word after.0 × (after.1 ≡ held))
loads s slots id flick v held xs n live may next how t agree _ at _ =
    let f0 = agree.1 in
    let g = is_good s f0.good in
    let events = xs ++ agree.0 in
    let past = past_of s events in
    let b : ViewState = at_events s v xs in
    let p = b.own.process in
    let f : Shows s events t.words (set t.views id b) = events_show s agree.0 t.words t.views id v xs f0 at live may in
    let b_at : get_elem? (set t.views id b) id ≡ some b = set_at t.views id v b at in
    let k = f.known id b b_at live in
    let b_next : next_of s p b.own.doing flick ≡ Some n = next_then s v flick n xs next in
    let n_is : valued s past flick n ≡ n = valued-begin s past flick n how in
    let first : Moved s events t.words (set t.views id b) id b flick n = reading s events t.words (set t.views id b) id b flick n n f b_at live b_next n_is (ap is_of_write how) in
    let m = first.made in
    let events1 = event.Step p flick ∷ events in
    let past1 = past_of s events1 in
    let w1 = seeing s past1 b in
    let f1 : Shows s events1 t.words (set t.views id w1) = subst (Shows s events1 t.words) (set_set t.views id b w1) first.shows in
    let w1_at : get_elem? (set t.views id w1) id ≡ some w1 = set_at t.views id v w1 at in
    let k1 = f1.known id w1 w1_at live in
    let value1 : value_of (valued s past flick n).how ≡ false = ap (λ (y : Access). value_of y.how) n_is ∙ ap value_of how in
    let begins : Makes s b.seen flick false b.own w1.own = makes s f.good events f.given b b.seen flick false n k m value1 k.inside in
    let going = unended s past b k in
    let next1 : next_of s p w1.own.doing flick ≡ Some (ending n) = ap (λ (o : OwnView). next_of s p o.doing flick) begins.is ∙ reads_on s p b.own.doing flick false n going b_next how in
    let untaken : changes_of s past1 ≡ changes_of s past =
    ap (changes_of s) m.on ∙ changes_none s past m.e (ap reply_taken m.marks ∙ begin_untaken s p b.own.doing flick (value_of (valued s past flick n).how) n (length (history s past)) b_next how) in
    let all1 : is_inside w1.own.doing ≡ true → b.seen ≡ changes_of s past1 = λ i.
    k.inside (begin_inside s p b.own.doing flick false n going b_next how (ap (λ (o : OwnView). is_inside o.doing) (sym begins.is) ∙ i)) ∙ sym untaken in
    let second : Moved s events1 t.words (set t.views id w1) id w1 flick (ending n) = reading s events1 t.words (set t.views id w1) id w1 flick (ending n) (valued s past1 flick (ending n)) f1 w1_at live next1 refl refl in
    let m1 = second.made in
    let events2 = event.Step p flick ∷ events1 in
    let past2 = past_of s events2 in
    let w2 = seeing s past2 w1 in
    let word = slice_index t.words (word_of s n) in
    let access : m.e.access ≡ Some n = m.access ∙ ap Some n_is in
    let value2 : value_of (valued s past1 flick (ending n)).how ≡ loaded flick word = neighbours s g events events1 b flick n m m.on access how ∙ ap (loaded flick) (sym (f.bits n m.there)) in
    let f2 : Shows s events2 t.words (set t.views id w2) = subst (Shows s events2 t.words) (set_set t.views id w1 w2) second.shows in
    let seen1 : IsPrefix b.seen (changes_of s past1) = subst (λ z. IsPrefix b.seen (changes_of s z)) (sym m.on) (seen_then s events b flick n k m) in
    let seen2 : IsPrefix (changes_of s past1) (changes_of s past2) = subst (λ z. IsPrefix (changes_of s past1) (changes_of s z)) (sym m1.on) (seen_then s events1 w1 flick (ending n) k1 m1) in
    let apart : are_neighbours past ≡ true = events_apart s agree.0 t.words t.views id v xs f0 at live may agree.2 in
    let paired : are_neighbours past2 ≡ true = ap are_neighbours (m1.on ∙ ap (λ (z : Past). m1.e ∷ z) m.on)
    ∙ read_more m1.e m.e past (valued s past1 flick (ending n)) n (m1.process ∙ sym m.process) m1.access access (itself n) (ap (λ h. is_pair h (EndRead (value_of (valued s past1 flick (ending n)).how))) how) apart in
    let stays : set t.words (word_of s n) word ≡ t.words = set-get_or t.words (word_of s n) 0 in (
      w2,
      keeps,
      tt,
      (events2, subst (λ ws. Shows s events2 ws (set t.views id w2)) (sym stays) f2, paired),
      (
        record {
          access = n;
          next = b_next;
          reads = how;
          begun = w1.own;
          begins = begins;
          at = known_where s g events1 p;
          ends = makes s f1.good events1 f1.given w1 b.seen flick (loaded flick word) (ending n) k1 m1 value2 all1;
          goes = goes_on s f.good events2 f2.given b k.below (prefix-trans b.seen (changes_of s past1) (changes_of s past2) seen1 seen2);
        },
        refl,
      ),
    )

-- The word that a store writes.

no-value : (m : Move) (v : Bool) → is_of_write m ≡ true → value_of (ended v m) ≡ false
no-value m v h = grind arith

-- after a write the word shows what was stored
shows-stored : (c : Cell) (m : Move) (value : Bool) → is_of_write m ≡ true → (m ≡ EndWrite → c.value ≡ value) → shown (cell_after c m) ≡ stored value m
shows-stored c m value h k = grind arith

-- a store keeps the rule
pub stores : (s : Setup) (slots id : ℕ) (flick : Bool) (v : ViewState) (held : List (ℕ × Unit {0})) (xs : List Event) (n : Access) → v.spent ≡ false → MayAllHappen s v.own xs
    → next_of s v.own.process (with_events s v.own xs).doing flick ≡ Some n → IsWrite n.how
    → Allows (Holds s) slots id (v, held) (word_of s n) (λ _. stored (being_written s v.own.process (with_events s v.own xs).doing) n.how) (λ _ after. Stores s flick (at_events s v xs) after.0 × (after.1 ≡ held))
stores s slots id flick v held xs n live may next is_written t agree _ at _ =
    let f0 = agree.1 in
    let g = is_good s f0.good in
    let writes : is_of_write n.how ≡ true = is_of_write-true n.how is_written in
    let events = xs ++ agree.0 in
    let past = past_of s events in
    let b : ViewState = at_events s v xs in
    let p = b.own.process in
    let p_is : p ≡ v.own.process = same_process_all s v.own xs in
    let f : Shows s events t.words (set t.views id b) = events_show s agree.0 t.words t.views id v xs f0 at live may in
    let b_at : get_elem? (set t.views id b) id ≡ some b = set_at t.views id v b at in
    let k = f.known id b b_at live in
    let b_next : next_of s p b.own.doing flick ≡ Some n = next_then s v flick n xs next in
    let m = made s g events b flick n k b_next in
    let n_is : valued s past flick n ≡ n = valued-write s past flick n writes in
    let access : m.e.access ≡ Some n = m.access ∙ ap Some n_is in
    let doing_is : doing s p past ≡ b.own.doing = ap (λ (o : OwnView). o.doing) (sym k.own) in
    let value = being_written s v.own.process b.own.doing in
    let new : ℕ = stored value n.how in
    let truly : n.how ≡ EndWrite → (cell_held s past n).value ≡ value = λ how.
    ends_what_began s g events p flick n (ap (λ d. next_of s p d flick) doing_is ∙ b_next) how ∙ (λ i. being_written s (p_is i) (doing_is i)) in
    let now : shown (cell_after (cell_held s past n) n.how) ≡ new = shows-stored (cell_held s past n) n.how value writes truly in
    let words' = set t.words (word_of s n) new in
    let events1 = event.Step p flick ∷ events in
    let past1 = past_of s events1 in
    let w = seeing s past1 b in
    let shows = step_shows s events t.words words' (set t.views id b) id b flick n f b_at live m (length-set t.words (word_of s n) new ∙ f.size) (cells_written s past t.words m.e n new access m.there f.size now f.bits) in
    let f1 : Shows s events1 words' (set t.views id w) = subst (Shows s events1 words') (set_set t.views id b w) (subst (λ z. Shows s events1 words' (set (set t.views id b) id (seeing s z b))) (sym m.on) shows) in
    let value1 : value_of (valued s past flick n).how ≡ false = no-value n.how (read_value (opening_bit s n) (moves_of n past) flick) writes in
    let paired : are_neighbours past1 ≡ true = ap are_neighbours m.on ∙ one_more m.e past (written_reads m.e n access writes) (events_apart s agree.0 t.words t.views id v xs f0 at live may agree.2) in
    let seen1 : IsPrefix b.seen (changes_of s past1) = subst (λ z. IsPrefix b.seen (changes_of s z)) (sym m.on) (seen_then s events b flick n k m) in
    let stays : is_inside b.own.doing ≡ true → reply_taken (marks_with s b.own.process b.own.doing flick false) ≡ None → w.seen ≡ b.seen = λ inside none.
    ap (changes_of s) m.on
    ∙ changes_none s past m.e (ap reply_taken (m.marks ∙ ap (λ value. map (placed (length (history s past))) (marks_with s p b.own.doing flick value)) value1) ∙ placed-none (length (history s past)) (marks_with s p b.own.doing flick false) none)
    ∙ sym (k.inside inside) in (
      w,
      keeps,
      tt,
      (events1, f1, paired),
      (record { access = n; next = b_next; writes = is_written; makes = makes s f.good events f.given b b.seen flick false n k m value1 k.inside; goes = goes_on s f.good events1 f1.given b k.below seen1; stays = stays }, refl),
    )
