-- The marks of an entry that concern a call: it is taken, it is answered, or its process is down. At most one of these occurs, and with the last mark.
use Rattle.std.proofs.Common.{◌≡◌, ℕ, ◌&&◌, ◌||◌, Bool, true, false, cond, not, List, [], ◌∷◌, ◌++◌, Option, Some, None, map, refl, ap, subst, ◌∙◌, arith}
use Rattle.std.specs.Prelude.{fold, if◌then◌else◌}
use Rattle.std.specs.List.{list_any}
use Rattle.model.specs.reader_copies.Runs as copies
use Rattle.plain_store.specs.{Answer, Reply, changes}
use Rattle.plain_store.specs.declared.Answer.TheVariants as answer
use Rattle.model.specs.{Call, Mark, Next, Part, Place, Stage, Wait, bits_with, entered_if_none, first_marks, is_at_rest, is_called, is_fresh, is_last, last_marks, lets_by, marks_of, placed, reply, reply_taken, stage_after, store_read, takings, waits_of}
use Rattle.model.specs.declared.marks.Mark.TheVariants.{Called, Taken, Left, Answered, Settled, Down, Restarted}
use Rattle.model.specs.Closings.{Closing, Withdraws, Settles, Frees, Lowers, Quit, Ended, closing_next, is_last_settled, is_last_written, is_unwritten, no_ticket, settled_marks}
use Rattle.model.specs.Parts as part
use Rattle.board.specs.Calls.{Calls, calls_after}

-- a mark that begins, takes or ends a call, or restarts its process
abbrev pub reports : Mark → Bool
reports (Called command) = true
reports (Taken k r) = true
reports (Answered a) = true
reports Down = true
reports Restarted = true
reports _ = false

-- the marks of a step
pub data StepMarks (ms : List Mark) : Type 0 where
  plain : list_any reports ms ≡ false → StepMarks ms
  takes : (before : List Mark) (k : ℕ) (r : Reply) → list_any reports before ≡ false → ms ≡ before ++ Taken k r ∷ [] → StepMarks ms
  answers : (before : List Mark) (a : Answer) → list_any reports before ≡ false → ms ≡ before ++ Answered a ∷ [] → StepMarks ms
  downs : (before : List Mark) → list_any reports before ≡ false → ms ≡ before ++ Down ∷ [] → StepMarks ms

-- The marks of a call, by its part.

entered : (n : ℕ) (ws : List Wait) → list_any reports (map (placed n) (entered_if_none ws)) ≡ false
entered n [] = refl
entered n (w ∷ ws) = refl

entered-by : (n : ℕ) (ws : List Wait) (b : Bool) → list_any reports (map (placed n) (cond b (entered_if_none ws) [])) ≡ false
entered-by n ws true = entered n ws
entered-by n ws false = refl

first-plain : (n : ℕ) (x : Part) (fresh : Bool) → list_any reports (map (placed n) (cond fresh (first_marks x) [] ++ [])) ≡ false
first-plain n x fresh = grind arith

-- the first access has no mark of its own
unmarked-first : (X : List Mark → Type 0) (fresh : Bool) (ms : List Mark) → X ms → X (cond {A = List Mark} fresh [] [] ++ ms)
unmarked-first X true ms h = h
unmarked-first X false ms h = h

last-marks : (c : Call) (x : Part) (bits : List Bool) (n : ℕ) (fresh : Bool) → StepMarks (map (placed n) (cond fresh (first_marks x) [] ++ last_marks c x bits))
last-marks c x bits n fresh = go x
  where
    X : List Mark → Type 0
    X ms = StepMarks (map (placed n) ms)

    none : X (cond {A = List Mark} fresh [] [] ++ [])
    none = unmarked-first X fresh [] (plain refl)

    image : (b : Bool) (r : Reply) → X (cond b [] (Taken 0 r ∷ []))
    image true r = plain refl
    image false r = takes [] n r refl refl

    clears : (b : Bool) (a : Answer) → X (cond b (Left ∷ []) [] ++ Answered a ∷ [])
    clears true a = answers (Left ∷ []) a refl refl
    clears false a = answers [] a refl refl

    go : (x : Part) → X (cond fresh (first_marks x) [] ++ last_marks c x bits)
    go part.Raises = none
    go (part.Asks j js ts) = none
    go (part.TakesTicket t) = none
    go (part.Lowers t) = unmarked-first X fresh (last_marks c (part.Lowers t) bits) (plain (entered n (waits_of c)))
    go (part.Refuses f) = unmarked-first X fresh (last_marks c (part.Refuses f) bits) (answers [] (answer.TicketsFull f) refl refl)
    go (part.Waits t w ws) = unmarked-first X fresh (last_marks c (part.Waits t w ws) bits) (plain (entered-by n ws (lets_by c t w bits)))
    go (part.AsksCommit k ks vs) = none
    go (part.AsksStamp k ks vs b) = none
    go (part.AsksImage vs) = unmarked-first X fresh (last_marks c (part.AsksImage vs) bits) (image (changes (store_read c bits) c.command) (reply c (store_read c bits)))
    go (part.WritesImage vs st) = none
    go (part.WritesStamp vs st) = none
    go (part.WritesCommit vs st) = unmarked-first X fresh (last_marks c (part.WritesCommit vs st) bits) (takes [] n (reply c st) refl refl)
    go (part.Clears a) = clears fresh a
    go part.Over = none

pub call_marks : (c : Call) (at : Place) (v : Bool) (n : ℕ) → StepMarks (map (placed n) (marks_of c at v))
call_marks c at v n = go (is_last c at.part at.run)
  where
    go : (b : Bool) → StepMarks (map (placed n) (cond (is_fresh at.run) (first_marks at.part) [] ++ cond b (last_marks c at.part (bits_with at.run v)) []))
    go true = last-marks c at.part (bits_with at.run v) n (is_fresh at.run)
    go false = plain (first-plain n at.part (is_fresh at.run))

-- The marks of a withdrawal or of a memory unit.

settled : (n : ℕ) (begun : Bool) (by : Option Reply) (v : Bool) → StepMarks (map (placed n) (settled_marks begun by v))
settled n begun None v = plain refl
settled n begun (Some r) v = go (if v then begun else not begun)
  where
    go : (b : Bool) → StepMarks (map (placed n) (Settled v ∷ cond b (Taken 0 r ∷ []) []))
    go true = takes (Settled v ∷ []) n r refl refl
    go false = plain refl

pub closing_marks : (c : Call) (at : Closing) (flick : Bool) (n : ℕ) (next : Next) → closing_next c at flick ≡ Some next → StepMarks (map (placed n) next.marks)
closing_marks c at flick n next h = go at h
  where
    of_next : (x : Next) → StepMarks (map (placed n) x.marks) → Some x ≡ Some next → StepMarks (map (placed n) next.marks)
    of_next x k e = let f : x ≡ next = cc in subst (λ (y : Next). StepMarks (map (placed n) y.marks)) f k

    withdraws : (last : Bool) → StepMarks (map (placed n) (cond last (Answered answer.Withdrawn ∷ []) []))
    withdraws true = answers [] answer.Withdrawn refl refl
    withdraws false = plain refl

    settles : (last begun : Bool) (by : Option Reply) (v : Bool) → StepMarks (map (placed n) (cond last (settled_marks begun by v) []))
    settles true begun by v = settled n begun by v
    settles false begun by v = plain refl

    frees : (b : Bool) → StepMarks (map (placed n) (cond b (Left ∷ []) []))
    frees true = plain refl
    frees false = plain refl

    lowers : (last : Bool) → StepMarks (map (placed n) (cond last (Down ∷ []) []))
    lowers true = downs [] refl refl
    lowers false = plain refl

    go : (at : Closing) → closing_next c at flick ≡ Some next → StepMarks (map (placed n) next.marks)
    go (Withdraws w) h = of_next _ (withdraws (is_last_written c (no_ticket c) w)) h
    go (Settles f bit begun by is t) h = let v : Bool = copies.settled_at t flick in of_next _ (settles (is_last_settled c t v) begun by v) h
    go (Frees is w) h = of_next _ (frees (is && is_unwritten w)) h
    go (Lowers w) h = of_next _ (lowers (is_last_written c (false ∷ []) w)) h
    go Quit h = cc
    go Ended h = cc

-- The other marks do not concern calls.

pub both-false : (a b : Bool) → (a || b) ≡ false → (a ≡ false) × (b ≡ false)
both-false true b h = cc
both-false false b h = (refl, h)

one-calls : (place : ℕ) (t : Calls) (m : Mark) → reports m ≡ false → calls_after place t m ≡ t
one-calls place t m h = grind arith

one-takings : (m : Mark) (ms : List Mark) → reports m ≡ false → takings (m ∷ ms) ≡ takings ms
one-takings (Taken k r) ms h = cc
one-takings _ ms h = refl

one-reply : (m : Mark) (ms : List Mark) → reports m ≡ false → reply_taken (m ∷ ms) ≡ reply_taken ms
one-reply (Taken k r) ms h = cc
one-reply _ ms h = refl

one-uncalled : (m : Mark) → reports m ≡ false → is_called m ≡ false
one-uncalled (Called command) h = cc
one-uncalled _ h = refl

pub plain-calls : (place : ℕ) (t : Calls) (ms more : List Mark) → list_any reports ms ≡ false → fold (calls_after place) t (ms ++ more) ≡ fold (calls_after place) t more
plain-calls place t [] more h = refl
plain-calls place t (m ∷ ms) more h =
    let both = both-false (reports m) (list_any reports ms) h in
    ap (λ (u : Calls). fold (calls_after place) u (ms ++ more)) (one-calls place t m both.0) ∙ plain-calls place t ms more both.1

pub plain-takings : (ms more : List Mark) → list_any reports ms ≡ false → takings (ms ++ more) ≡ takings more
plain-takings [] more h = refl
plain-takings (m ∷ ms) more h = let both = both-false (reports m) (list_any reports ms) h in one-takings m (ms ++ more) both.0 ∙ plain-takings ms more both.1

pub plain-reply : (ms more : List Mark) → list_any reports ms ≡ false → reply_taken (ms ++ more) ≡ reply_taken more
plain-reply [] more h = refl
plain-reply (m ∷ ms) more h = let both = both-false (reports m) (list_any reports ms) h in one-reply m (ms ++ more) both.0 ∙ plain-reply ms more both.1

pub plain-uncalled : (ms more : List Mark) → list_any reports ms ≡ false → list_any is_called (ms ++ more) ≡ list_any is_called more
plain-uncalled [] more h = refl
plain-uncalled (m ∷ ms) more h = let both = both-false (reports m) (list_any reports ms) h in ap (λ b. b || list_any is_called (ms ++ more)) (one-uncalled m both.0) ∙ plain-uncalled ms more both.1

pub quiet-before : (st : Stage) (m : Mark) → reports m ≡ false → is_at_rest (stage_after st m) ≡ true → is_at_rest st ≡ true
quiet-before st m h k = grind arith

pub plain-quiet : (st : Stage) (ms : List Mark) → list_any reports ms ≡ false → is_at_rest (fold stage_after st ms) ≡ true → is_at_rest st ≡ true
plain-quiet st [] h q = q
plain-quiet st (m ∷ ms) h q = let both = both-false (reports m) (list_any reports ms) h in quiet-before st m both.0 (plain-quiet (stage_after st m) ms both.1 q)
