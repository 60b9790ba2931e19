-- How marks change the state of a process, field by field.
use Rattle.std.proofs.Common.{◌≡◌, ℕ, Bool, true, false, ◌||◌, List, [], ◌∷◌, Option, None, Some, fold, is_some, refl, sym, ap, ◌∙◌}
use Rattle.std.specs.List.{list_any}
use Rattle.model.specs.{Mark, called_in, first_of, is_called, is_entered, is_failed, is_waiting}
use Rattle.model.specs.declared.marks.Mark.TheVariants as mark
use Rattle.calls.specs.{CallState, Marked, answer_after, ends_waiting, first_if, goes_on_after, is_answered, is_left, is_taken, is_withdrawal, marked_all, marked_on, place_after, ticket_after, with_mark}
use Rattle.calls.proofs.InCall.{first_none, if_there}

-- a field of what marks make is what they make of the field
pub fold-field : {A : Type 0} (get : Marked → A) (step : A → Mark → A) (n : ℕ) → ((k : Marked) (m : Mark) → get (with_mark n k m) ≡ step (get k) m) →
    (k : Marked) (ms : List Mark) → get (fold (with_mark n) k ms) ≡ fold step (get k) ms
fold-field get step n on k [] = refl
fold-field get step n on k (m ∷ ms) = fold-field get step n on (with_mark n k m) ms ∙ ap (λ a. fold step a ms) (on k m)

first-stays : (n : ℕ) (found : Option ℕ) (b : Bool) → first_of (first_of found (Some n)) (if_there b n) ≡ first_of found (Some n)
first-stays n None b = refl
first-stays n (Some k) b = refl

-- the first entry that has such a mark
pub fold-first : (test : Mark → Bool) (n : ℕ) (found : Option ℕ) (ms : List Mark) → fold (λ found m. first_if (test m) n found) found ms ≡ first_of found (if_there (list_any test ms) n)
fold-first test n found [] = sym (first_none found)
fold-first test n found (m ∷ ms) = by (test m) (fold-first test n (first_of found (Some n)) ms) (fold-first test n found ms)
  where
    after : Option ℕ → Option ℕ
    after found = fold (λ found m. first_if (test m) n found) found ms

    by : (b : Bool) → after (first_of found (Some n)) ≡ first_of (first_of found (Some n)) (if_there (list_any test ms) n) → after found ≡ first_of found (if_there (list_any test ms) n) →
        after (first_if b n found) ≡ first_of found (if_there (b || list_any test ms) n)
    by true there none = there ∙ first-stays n found (list_any test ms)
    by false there none = none

-- each mark on each field
pub door_end-on : (n : ℕ) (k : Marked) (m : Mark) → (with_mark n k m).door_end ≡ first_if (is_waiting m) n k.door_end
door_end-on n k (mark.Waiting t) = refl
door_end-on n k _ = refl

pub entered-on : (n : ℕ) (k : Marked) (m : Mark) → (with_mark n k m).entered ≡ first_if (is_entered m) n k.entered
entered-on n k mark.Entered = refl
entered-on n k _ = refl

pub wait_end-on : (n : ℕ) (k : Marked) (m : Mark) → (with_mark n k m).wait_end ≡ first_if (ends_waiting m) n k.wait_end
wait_end-on n k mark.Entered = refl
wait_end-on n k mark.Withdrew = refl
wait_end-on n k mark.Failed = refl
wait_end-on n k _ = refl

pub taken-on : (n : ℕ) (k : Marked) (m : Mark) → (with_mark n k m).taken ≡ first_if (is_taken m) n k.taken
taken-on n k (mark.Taken place r) = refl
taken-on n k _ = refl

pub place-on : (n : ℕ) (k : Marked) (m : Mark) → (with_mark n k m).place ≡ place_after k.place m
place-on n k (mark.Taken place r) = refl
place-on n k _ = refl

pub remaining-on : (n : ℕ) (k : Marked) (m : Mark) → (with_mark n k m).remaining ≡ first_if (is_left m) n k.remaining
remaining-on n k mark.Left = refl
remaining-on n k _ = refl

pub answered-on : (n : ℕ) (k : Marked) (m : Mark) → (with_mark n k m).answered ≡ first_if (is_answered m) n k.answered
answered-on n k (mark.Answered a) = refl
answered-on n k _ = refl

pub failed-on : (n : ℕ) (k : Marked) (m : Mark) → (with_mark n k m).failed ≡ first_if (is_failed m) n k.failed
failed-on n k mark.Failed = refl
failed-on n k _ = refl

pub withdrew-on : (n : ℕ) (k : Marked) (m : Mark) → (with_mark n k m).withdrew ≡ first_if (is_withdrawal m) n k.withdrew
withdrew-on n k mark.Withdrew = refl
withdrew-on n k _ = refl

pub ticket-on : (n : ℕ) (k : Marked) (m : Mark) → (with_mark n k m).ticket ≡ ticket_after k.ticket m
ticket-on n k (mark.Waiting t) = refl
ticket-on n k _ = refl

pub answer-on : (n : ℕ) (k : Marked) (m : Mark) → (with_mark n k m).answer ≡ answer_after k.answer m
answer-on n k (mark.Answered a) = refl
answer-on n k _ = refl

-- how marks change the whole state
abbrev pub with_marks : ℕ → CallState → List Mark → CallState
with_marks n k ms = record { calling = fold goes_on_after k.calling ms; last = record k.last { marks = fold (with_mark n) k.last.marks ms } }

pub marked_all-is : (n : ℕ) (k : CallState) (ms : List Mark) → marked_all n k ms ≡ with_marks n k ms
marked_all-is n k [] = refl
marked_all-is n k (m ∷ ms) = marked_all-is n (marked_on n k m) ms

-- marks that begin a call have a command
pub called_has : (ms : List Mark) → list_any is_called ms ≡ is_some (called_in ms)
called_has [] = refl
called_has (mark.Called c ∷ ms) = refl
called_has (mark.Waiting t ∷ ms) = called_has ms
called_has (mark.Entered ∷ ms) = called_has ms
called_has (mark.Taken n r ∷ ms) = called_has ms
called_has (mark.Left ∷ ms) = called_has ms
called_has (mark.Answered a ∷ ms) = called_has ms
called_has (mark.Failed ∷ ms) = called_has ms
called_has (mark.Settled v ∷ ms) = called_has ms
called_has (mark.Down ∷ ms) = called_has ms
called_has (mark.Withdrew ∷ ms) = called_has ms
called_has (mark.Restarted ∷ ms) = called_has ms
