-- The rows of a world: their shape, their cells, and their change by an entry.
use Rattle.std.proofs.Common.{◌≡◌, ℕ, ◌<◌, ◌==◌, ◌&&◌, Bool, true, false, cond, List, [], ◌∷◌, get_or, length, Option, None, Some, refl, sym, ap, ◌∙◌, subst, arith, eqb-true}
use Rattle.std.proofs.lemmas.Bool.{eqb-false, eq-eqb, ne_eqb}
use Rattle.model.specs.safe_bit.Cell.{Cell, new_cell, without_read}
use Rattle.model.specs.safe_bit.{Move, is_of_write}
use Rattle.model.specs.safe_bit.declared.moves.Move.TheVariants.{BeginWrite, EndWrite, BeginRead, EndRead, Settle}
use Rattle.reader_copies.specs.{HasCell, IsRead, IsRow, KeepsWrites, row_after}
use Rattle.reader_copies.specs.Row as rows
use Rattle.reader_copies.proofs.Writing.{drops-keep, read-keeps}
use Rattle.safe_number.proofs.Numbers.{range_same}
use Rattle.safe_number.proofs.WrittenSteps.{has_cell}
use Rattle.model.specs.plain_store.{Setup}
use Rattle.model.specs.{Access, Entry, Event, Past, copy, entry_of, field_number, past_of, width}
use Rattle.model.proofs.Width.{IsGood}
use Rattle.laws.specs.{IsThere, cell_held, drops}
use Rattle.laws.proofs.FrameCells.{field-same}
use Rattle.laws.proofs.FrameEvents.{accepted}
use Rattle.laws.proofs.HeldCells.{held-marks}
use Rattle.laws.proofs.HeldThere.{access_there}
use Rattle.registers.specs.{AreOf, RegisterName, applied, lane_number, lane_of}
use Rattle.registers.specs.Rows.{row_of}
use Rattle.registers.proofs.Openings.{reader-lane}
use Rattle.world.specs.process.{cells_dropped, is_of_reader, memory_with}
use Rattle.world.proofs.process_proofs.Memories.{with-are, with-copies, with-copy}
use Rattle.world.proofs.process_proofs.MemoriesMoved.{with-dropped}
use Rattle.world.proofs.WorldRegisters.{registers-made, registers-stay}
use Rattle.register_laws.specs.Rows.{made_of}
use Rattle.register_laws.specs.WorldRows.{is_on, memory_at, register_row, row_after_entry, writes_on}
use Rattle.register_laws.proofs.RowMoves.{row-cell, row-dropped, row-lane, row-length, row-moved, row-stays}

-- THE SHAPE AND THE CELLS

are : (s : Setup) (past : Past) → AreOf s (memory_at s past)
are s past = with-are (cell_held s past) s

pub row-shape : (s : Setup) → IsGood s → (past : Past) (r : RegisterName) → r.owner < s.processes → IsRow (register_row s past r) (width s r.field)
row-shape s g past r owner =
    let n : ℕ = s.processes in
    let long : length (register_row s past r) ≡ n = row-length n (memory_at s past) r in
    record {
      readers = omega (arith, long, g.processes_is);
      widths = λ reader below.
          let inside : reader < n = omega (arith, long, below) in
          ap length (row-lane n (memory_at s past) r reader inside) ∙ (reader-lane s (memory_at s past) r reader (are s past) owner inside).1;
    }

pub row-has : (s : Setup) → IsGood s → (past : Past) (r : RegisterName) (bit reader : ℕ) → r.owner < s.processes → bit < width s r.field → reader < s.processes → HasCell (register_row s past r) bit reader
row-has s g past r bit reader owner wide inside =
    has_cell (register_row s past r) (width s r.field) bit reader (row-shape s g past r owner) wide (omega (arith, row-length s.processes (memory_at s past) r))

pub row-held : (s : Setup) (past : Past) (r : RegisterName) (bit reader : ℕ) → r.owner < s.processes → bit < width s r.field → reader < s.processes →
    rows.cell_at (register_row s past r) bit reader ≡ cell_held s past (copy r.owner r.field reader bit)
row-held s past r bit reader owner wide inside =
    row-cell s.processes (memory_at s past) r bit reader inside
    ∙ with-copy (cell_held s past) s (copy r.owner r.field reader bit) (record { owner = owner; reader = inside; bit = wide })

-- a cell that the row has
pub row-inside : (s : Setup) → IsGood s → (past : Past) (r : RegisterName) (bit reader : ℕ) → r.owner < s.processes → HasCell (register_row s past r) bit reader → (bit < width s r.field) × (reader < s.processes)
row-inside s g past r bit reader owner h =
    let inside : reader < s.processes = omega (arith, h.reader_in, row-length s.processes (memory_at s past) r) in
    let wide : length (get_or (register_row s past r) reader []) ≡ width s r.field = (row-shape s g past r owner).widths reader h.reader_in in
    (omega (arith, h.bit_in, wide), inside)

-- AN ACCESS

pub both : (a b : Bool) → (a && b) ≡ true → (a ≡ true) × (b ≡ true)
both true true h = (refl, refl)
both true false h = cc
both false b h = cc

of-access : Access → RegisterName
of-access a = record { owner = a.owner; field = a.field }

pub on-register : (r : RegisterName) (a : Access) → is_on r a ≡ true → (a.owner ≡ r.owner) × (a.field ≡ r.field)
on-register r a h =
    let two = both (a.owner == r.owner) (field_number a.field == field_number r.field) h in
    (eqb-true a.owner r.owner two.0, field-same a.field r.field two.1)

pub on-itself : (r : RegisterName) (a : Access) → a.owner ≡ r.owner → a.field ≡ r.field → is_on r a ≡ true
on-itself r a owner field = λ i. eq-eqb a.owner r.owner owner i && eq-eqb (field_number a.field) (field_number r.field) (ap field_number field) i

row-accessed : (s : Setup) (past : Past) (e : Entry) (a : Access) (r : RegisterName) → e.access ≡ Some a → IsThere s a →
    register_row s (e ∷ past) r ≡ cond (is_on r a) (row_after (register_row s past r) a.bit (made_of a)) (register_row s past r)
row-accessed s past e a r acc there = ap (λ m. row_of n m r) (sym (registers-made s past e a acc there)) ∙ go (is_on r a) refl
  where
    n : ℕ
    n = s.processes

    m : List (List Cell)
    m = memory_at s past

    its : RegisterName
    its = record { owner = a.owner; field = a.field }

    lane : lane_number n its a.reader < length m
    lane = (reader-lane s m its a.reader (are s past) there.owner there.reader).0

    go : (b : Bool) → is_on r a ≡ b → row_of n (applied n m a) r ≡ cond b (row_after (row_of n m r) a.bit (made_of a)) (row_of n m r)
    go true is =
        let on = on-register r a is in
        let same : its ≡ r = λ i. record { owner = on.0 i; field = on.1 i } in
        subst (λ q. row_of n (applied n m a) q ≡ row_after (row_of n m q) a.bit (made_of a)) same (row-moved n m its a.reader a.bit a.how there.reader lane)
    go false is =
        row-stays n m its r a.reader _ there.reader
        (λ same. let f : true ≡ false = sym (on-itself r a (sym (ap (λ (q : RegisterName). q.owner) same)) (sym (ap (λ (q : RegisterName). q.field) same))) ∙ is in absurd (cc))

-- A DROPPED READ

-- rows of equal cells are equal
row-same : (f g : Access → Cell) (s : Setup) (r : RegisterName) → r.owner < s.processes → ((j k : ℕ) → j < s.processes → k < width s r.field → f (copy r.owner r.field j k) ≡ g (copy r.owner r.field j k)) →
    row_of s.processes (memory_with f s) r ≡ row_of s.processes (memory_with g s) r
row-same f g s r owner same =
    let n : ℕ = s.processes in
    range_same (λ j. lane_of (memory_with g s) (lane_number n r j)) (λ j. lane_of (memory_with f s) (lane_number n r j)) n []
    (λ j below. with-copies f s r j owner below
    ∙ range_same (λ k. g (copy r.owner r.field j k)) (λ k. f (copy r.owner r.field j k)) (width s r.field) (new_cell false) (λ k inside. same j k below inside)
    ∙ sym (with-copies g s r j owner below))

row-marked : (s : Setup) (past : Past) (e : Entry) (r : RegisterName) → e.access ≡ None → r.owner < s.processes → e.process < s.processes →
    register_row s (e ∷ past) r ≡ cond (drops e) (rows.without_reads (register_row s past r) e.process) (register_row s past r)
row-marked s past e r none owner below = go (drops e) refl
  where
    n : ℕ
    n = s.processes

    p : ℕ
    p = e.process

    cells : Access → Cell
    cells = cell_held s past

    own : (j k : ℕ) (c : Cell) → cond (true && (p == j)) (without_read c) c ≡ cond (is_of_reader r p (copy r.owner r.field j k)) (without_read c) c
    own j k c = ap (λ b. cond b (without_read c) c) (turned (p == j) refl)
      where
        turned : (b : Bool) → (p == j) ≡ b → (p == j) ≡ ((r.owner == r.owner) && (field_number r.field == field_number r.field) && (j == p))
        turned true is = is ∙ sym (λ i. eq-eqb r.owner r.owner refl i && eq-eqb (field_number r.field) (field_number r.field) refl i && eq-eqb j p (sym (eqb-true p j is)) i)
        turned false is = is ∙ sym (λ i. eq-eqb r.owner r.owner refl i && eq-eqb (field_number r.field) (field_number r.field) refl i && ne_eqb j p (λ same. eqb-false p j is (sym same)) i)

    go : (b : Bool) → drops e ≡ b → register_row s (e ∷ past) r ≡ cond b (rows.without_reads (register_row s past r) p) (register_row s past r)
    go false keeps = ap (λ m. row_of n m r) (registers-stay s past e none keeps)
    go true gone =
        row-same (cell_held s (e ∷ past)) (cells_dropped cells r p) s r owner
        (λ j k inside wide. held-marks s past e (copy r.owner r.field j k) none
        ∙ ap (λ b. cond (b && (p == j)) (without_read (cells (copy r.owner r.field j k))) (cells (copy r.owner r.field j k))) gone
        ∙ own j k (cells (copy r.owner r.field j k)))
        ∙ ap (λ m. row_of n m r) (sym (with-dropped cells s r p owner below))
        ∙ row-dropped n (memory_at s past) r p below (reader-lane s (memory_at s past) r p (are s past) owner below).0

-- ANY ENTRY

pub row-entry : (s : Setup) → IsGood s → (events : List Event) (what : Event) (e : Entry) → entry_of s (past_of s events) what ≡ Some e → (r : RegisterName) → r.owner < s.processes →
    register_row s (e ∷ past_of s events) r ≡ row_after_entry r e (register_row s (past_of s events) r)
row-entry s g events what e is r owner = go e.access refl
  where
    past : Past
    past = past_of s events

    row : List (List Cell)
    row = register_row s past r

    after : Option Access → List (List Cell)
    after x = elim x [ Some a ↦ cond (is_on r a) (row_after row a.bit (made_of a)) row | None ↦ cond (drops e) (rows.without_reads row e.process) row ]

    go : (x : Option Access) → e.access ≡ x → register_row s (e ∷ past) r ≡ after e.access
    go (Some a) acc = row-accessed s past e a r acc (access_there s g events what e is a acc) ∙ ap after (sym acc)
    go None none = row-marked s past e r none owner (accepted s g events what e is).below ∙ ap after (sym none)

-- an entry that does not write the register keeps its values and its writes
only-reads : (m : Move) → is_of_write m ≡ false → IsRead m
only-reads (BeginWrite v) h = absurd (let f : true ≡ false = h in cc)
only-reads EndWrite h = absurd (let f : true ≡ false = h in cc)
only-reads (Settle v) h = absurd (let f : true ≡ false = h in cc)
only-reads BeginRead h = tt
only-reads (EndRead v) h = tt

keeps-all : (row : List (List Cell)) → KeepsWrites row row
keeps-all row = record { shape = λ bit reader h. h; each = λ bit reader h. record { value = refl; writing = refl } }

pub entry-keeps : (s : Setup) → IsGood s → (events : List Event) (what : Event) (e : Entry) → entry_of s (past_of s events) what ≡ Some e → (r : RegisterName) → r.owner < s.processes → writes_on r e ≡ false →
    KeepsWrites (register_row s (past_of s events) r) (register_row s (e ∷ past_of s events) r)
entry-keeps s g events what e is r owner quiet = subst (KeepsWrites row) (sym (row-entry s g events what e is r owner)) (go e.access refl)
  where
    past : Past
    past = past_of s events

    row : List (List Cell)
    row = register_row s past r

    after : Option Access → List (List Cell)
    after x = elim x [ Some a ↦ cond (is_on r a) (row_after row a.bit (made_of a)) row | None ↦ cond (drops e) (rows.without_reads row e.process) row ]

    dropped : (b : Bool) → KeepsWrites row (cond b (rows.without_reads row e.process) row)
    dropped true = drops-keep row e.process
    dropped false = keeps-all row

    accessed : (a : Access) → e.access ≡ Some a → (b : Bool) → is_on r a ≡ b → KeepsWrites row (cond b (row_after row a.bit (made_of a)) row)
    accessed a acc false off = keeps-all row
    accessed a acc true on =
        let there : IsThere s a = access_there s g events what e is a acc in
        let its = on-register r a on in
        let reads : is_of_write a.how ≡ false = write (is_of_write a.how) (sym (ap (λ b. is_of_write a.how && b) on) ∙ sym (ap (λ (x : Option Access). elim x [ None ↦ false | Some b ↦ is_of_write b.how && is_on r b ]) acc) ∙ quiet) in
        read-keeps row a.bit (made_of a) (row-has s g past r a.bit a.reader owner (subst (λ f. a.bit < width s f) its.1 there.bit) there.reader) (only-reads a.how reads)
      where
        write : (w : Bool) → (w && true) ≡ false → w ≡ false
        write true h = h
        write false h = refl

    go : (x : Option Access) → e.access ≡ x → KeepsWrites row (after e.access)
    go (Some a) acc = subst (λ x. KeepsWrites row (after x)) (sym acc) (accessed a acc (is_on r a) refl)
    go None none = subst (λ x. KeepsWrites row (after x)) (sym none) (dropped (drops e))
