-- The effect of an entry on the cells that the registers hold. They are the record's cells, except for whether a read is open.
use Rattle.std.proofs.Common.{◌≡◌, ◌==◌, ◌&&◌, ◌||◌, Bool, true, false, cond, List, [], ◌∷◌, ◌++◌, Option, Some, None, refl, sym, ap, subst, ◌∙◌}
use Rattle.std.specs.Prelude.{flat_map}
use Rattle.std.specs.List.{list_any}
use Rattle.model.specs.safe_bit.Cell.{Cell, BitCall, Makes, Drops, AreWritesInTurn, MayMove, MayWrite, cell_after, cell_of_calls, without_read, read_answer}
use Rattle.model.specs.safe_bit.{Move, Shows, is_of_write, read_value}
use Rattle.model.specs.safe_bit.declared.Move.TheVariants.{BeginWrite, EndWrite, BeginRead, EndRead, Settle}
use Rattle.model.proofs.safe_bit.Showing.{answer-shows, shows_dropped, shows_moves}
use Rattle.model.specs.{Access, Entry, Event, Mark, Past, is_end_of_read, entry_of, is_failed, moves_of, opening_bit, past_of, same_bit}
use Rattle.plain_store.specs.{Setup}
use Rattle.model.specs.Newest as record_cells
use Rattle.model.proofs.TurnRecords.{turns_all}
use Rattle.model.proofs.Width.{IsGood}
use Rattle.laws.specs.{calls_on, cell_held, drops, is_withdrawn}
use Rattle.laws.proofs.FrameCells.{cells-entry, cells-kept, itself}
use Rattle.laws.proofs.SafeRecords.{ends_as_it_may}

-- An entry.

-- one with an access moves the cell of its bit, and no other
pub held-entry : (s : Setup) (past : Past) (e : Entry) (x a : Access) → e.access ≡ Some x → cell_held s (e ∷ past) a ≡ cond (same_bit a x) (cell_after (cell_held s past a) x.how) (cell_held s past a)
held-entry s past e x a h =
    ap (λ y. cell_of_calls (opening_bit s a) (elim y as (λ _. List BitCall) [
      | Some b ↦ cond (same_bit a b) (Makes b.how ∷ []) []
      | None ↦ cond (drops e && (e.process == a.reader)) (Drops ∷ []) []
    ] ++ flat_map (calls_on a) past)) h
    ∙ go (same_bit a x)
  where
    go : (b : Bool) → cell_of_calls (opening_bit s a) (cond b (Makes x.how ∷ []) [] ++ flat_map (calls_on a) past) ≡ cond b (cell_after (cell_held s past a) x.how) (cell_held s past a)
    go true = refl
    go false = refl

-- one without drops the read of its process, where that fails or withdraws
pub held-marks : (s : Setup) (past : Past) (e : Entry) (a : Access) → e.access ≡ None →
    cell_held s (e ∷ past) a ≡ cond (drops e && (e.process == a.reader)) (without_read (cell_held s past a)) (cell_held s past a)
held-marks s past e a h =
    ap (λ y. cell_of_calls (opening_bit s a) (elim y as (λ _. List BitCall) [
      | Some b ↦ cond (same_bit a b) (Makes b.how ∷ []) []
      | None ↦ cond (drops e && (e.process == a.reader)) (Drops ∷ []) []
    ] ++ flat_map (calls_on a) past)) h
    ∙ go (drops e && (e.process == a.reader))
  where
    go : (b : Bool) → cell_of_calls (opening_bit s a) (cond b (Drops ∷ []) [] ++ flat_map (calls_on a) past) ≡ cond b (without_read (cell_held s past a)) (cell_held s past a)
    go true = refl
    go false = refl

-- its marks determine whether it drops
pub drops-by : (e : Entry) (marks : List Mark) → e.marks ≡ marks → drops e ≡ (list_any is_failed marks || list_any is_withdrawn marks)
drops-by e marks h = ap (λ ms. list_any is_failed ms || list_any is_withdrawn ms) h

-- Whether a read is open.

-- a move of a write leaves it
pub write-keeps : (c : Cell) (m : Move) → is_of_write m ≡ true → (cell_after c m).reading ≡ c.reading
write-keeps c (BeginWrite v) h = refl
write-keeps c EndWrite h = refl
write-keeps c (Settle v) h = refl
write-keeps c BeginRead h = cc
write-keeps c (EndRead v) h = cc

-- an entry with an access of a write leaves the open read
pub reading-written : (s : Setup) (past : Past) (e : Entry) (x a : Access) → e.access ≡ Some x → is_of_write x.how ≡ true → (cell_held s (e ∷ past) a).reading ≡ (cell_held s past a).reading
reading-written s past e x a h w = ap (λ (c : Cell). c.reading) (held-entry s past e x a h) ∙ go (same_bit a x)
  where
    go : (b : Bool) → (cond b (cell_after (cell_held s past a) x.how) (cell_held s past a)).reading ≡ (cell_held s past a).reading
    go true = write-keeps (cell_held s past a) x.how w
    go false = refl

-- an entry with an access to another bit leaves it
pub reading-apart : (s : Setup) (past : Past) (e : Entry) (x a : Access) → e.access ≡ Some x → same_bit a x ≡ false → (cell_held s (e ∷ past) a).reading ≡ (cell_held s past a).reading
reading-apart s past e x a h n =
    ap (λ (c : Cell). c.reading) (held-entry s past e x a h) ∙ ap (λ b. (cond b (cell_after (cell_held s past a) x.how) (cell_held s past a)).reading) n

-- an entry that only marks, and drops nothing, leaves it
pub reading-kept : (s : Setup) (past : Past) (e : Entry) (a : Access) → e.access ≡ None → (drops e && (e.process == a.reader)) ≡ false → (cell_held s (e ∷ past) a).reading ≡ (cell_held s past a).reading
reading-kept s past e a h n =
    ap (λ (c : Cell). c.reading) (held-marks s past e a h) ∙ ap (λ b. (cond b (without_read (cell_held s past a)) (cell_held s past a)).reading) n

-- an entry that drops the read closes it
pub reading-dropped : (s : Setup) (past : Past) (e : Entry) (a : Access) → e.access ≡ None → (drops e && (e.process == a.reader)) ≡ true → (cell_held s (e ∷ past) a).reading ≡ false
reading-dropped s past e a h n =
    ap (λ (c : Cell). c.reading) (held-marks s past e a h) ∙ ap (λ b. (cond b (without_read (cell_held s past a)) (cell_held s past a)).reading) n

-- The registers hold the record's cells.

without-moved : (c : Cell) (m : Move) → without_read (cell_after (without_read c) m) ≡ without_read (cell_after c m)
without-moved c (BeginWrite v) = refl
without-moved c _ = refl

both-moved : (c d : Cell) (m : Move) → without_read c ≡ without_read d → without_read (cell_after c m) ≡ without_read (cell_after d m)
both-moved c d m h = sym (without-moved c m) ∙ ap (λ (x : Cell). without_read (cell_after x m)) h ∙ without-moved d m

-- the cells are equal, except for whether a read is open
pub held-is : (s : Setup) (past : Past) (a : Access) → without_read (cell_held s past a) ≡ without_read (record_cells.cell_after s past a)
held-is s [] a = refl
held-is s (e ∷ past) a = go e.access refl (held-is s past a)
  where
    held : Cell
    held = cell_held s past a

    found : Cell
    found = record_cells.cell_after s past a

    moved : (m : Move) (b : Bool) → without_read held ≡ without_read found → without_read (cond b (cell_after held m) held) ≡ without_read (cond b (cell_after found m) found)
    moved m true h = both-moved held found m h
    moved m false h = h

    dropped : (b : Bool) → without_read (cond b (without_read held) held) ≡ without_read held
    dropped true = refl
    dropped false = refl

    go : (x : Option Access) → e.access ≡ x → without_read held ≡ without_read found → without_read (cell_held s (e ∷ past) a) ≡ without_read (record_cells.cell_after s (e ∷ past) a)
    go None h same = ap without_read (held-marks s past e a h) ∙ dropped (drops e && (e.process == a.reader)) ∙ same ∙ ap without_read (sym (cells-kept s past e a.owner a.field a.bit a.reader h))
    go (Some x) h same =
        ap without_read (held-entry s past e x a h) ∙ moved x.how (same_bit a x) same ∙ ap without_read (sym (cells-entry s past e x a.owner a.field a.bit a.reader h))

-- the cell without its read shows the moves of its bit
pub held_shows : (s : Setup) → IsGood s → (events : List Event) (a : Access) → Shows (opening_bit s a) (moves_of a (past_of s events)) (without_read (cell_held s (past_of s events) a))
held_shows s g events a =
    let past : Past = past_of s events in
    subst (Shows (opening_bit s a) (moves_of a past)) (sym (held-is s past a))
    (shows_dropped (opening_bit s a) (moves_of a past) (record_cells.cell_after s past a) (shows_moves (opening_bit s a) (moves_of a past) (turns_all s g events a)))

-- the cell gives the value of the safe rule
pub held_answers : (s : Setup) → IsGood s → (events : List Event) (a : Access) (flick : Bool) →
    read_answer (cell_held s (past_of s events) a) flick ≡ read_value (opening_bit s a) (moves_of a (past_of s events)) flick
held_answers s g events a flick = answer-shows (opening_bit s a) (moves_of a (past_of s events)) (without_read (cell_held s (past_of s events) a)) flick (held_shows s g events a)

-- Turns.

-- a write is in its turn by whether one is open
may_write_as : (c d : Cell) (m : Move) → c.writing ≡ d.writing → MayWrite d m → MayWrite c m
may_write_as c d (BeginWrite v) same turn = same ∙ turn
may_write_as c d EndWrite same turn = same ∙ turn
may_write_as c d (Settle v) same turn = same ∙ turn
may_write_as c d BeginRead same turn = tt
may_write_as c d (EndRead v) same turn = tt

-- an access writes in its turn
pub held_writes : (s : Setup) → IsGood s → (events : List Event) (event : Event) (e : Entry) → entry_of s (past_of s events) event ≡ Some e → (a : Access) → e.access ≡ Some a →
    MayWrite (cell_held s (past_of s events) a) a.how
held_writes s g events event e h a acc = may_write_as (cell_held s past a) (record_cells.cell_after s past a) a.how (ap (λ (c : Cell). c.writing) (held-is s past a)) turns.0
  where
    past : Past
    past = past_of s events

    after : past_of s (event ∷ events) ≡ e ∷ past
    after = ap (λ o. elim o as (λ _. Past) [ None ↦ past | Some e ↦ e ∷ past ]) h

    moves : moves_of a (e ∷ past) ≡ a.how ∷ moves_of a past
    moves = ap (λ y. elim y as (λ _. List Move) [ None ↦ [] | Some b ↦ cond (same_bit a b) (b.how ∷ []) [] ] ++ moves_of a past) acc ∙ ap (λ b. cond b (a.how ∷ []) [] ++ moves_of a past) (itself a)

    turns : AreWritesInTurn (opening_bit s a) (a.how ∷ moves_of a past)
    turns = subst (AreWritesInTurn (opening_bit s a)) moves (subst (λ p. AreWritesInTurn (opening_bit s a) (moves_of a p)) after (turns_all s g (event ∷ events) a))

-- a read that ends, and was not touched, ends with the value that is held
pub held_ends : (s : Setup) → IsGood s → (events : List Event) (event : Event) (e : Entry) → entry_of s (past_of s events) event ≡ Some e → (a : Access) → e.access ≡ Some a →
    (v : Bool) → a.how ≡ EndRead v → (cell_held s (past_of s events) a).touched ≡ false → v ≡ (cell_held s (past_of s events) a).value
held_ends s g events event e h a acc v how calm =
    let shows = held_shows s g events a in
    ends_as_it_may s (past_of s events) event e h a v acc how (sym shows.touched ∙ calm) ∙ sym (shows.untouched calm)

-- a move may be made where its write is in turn, and where a read is open if it ends one, and only then
pub may_move : (c : Cell) (m : Move) → MayWrite c m → (is_of_write m ≡ false → c.reading ≡ is_end_of_read m) → ((v : Bool) → m ≡ EndRead v → c.touched ≡ false → v ≡ c.value) → MayMove c m
may_move c (BeginWrite v) turn reading ends = turn
may_move c EndWrite turn reading ends = turn
may_move c (Settle v) turn reading ends = turn
may_move c BeginRead turn reading ends = reading refl
may_move c (EndRead v) turn reading ends = (reading refl, ends v refl)
