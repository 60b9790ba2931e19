-- A read of a register that no write overlaps reads its number.
use Rattle.std.proofs.Common.{◌≡◌, ◌≢◌, ℕ, ◌<◌, ◌&&◌, Bool, true, false, cond, List, [], ◌∷◌, ◌++◌, get_or, length, map, Some, Ok, refl, sym, ap, ◌∙◌, subst}
use Rattle.std.proofs.lemmas.List.{get_or-set_other}
use Rattle.model.specs.safe_bit.Cell.{Cell, read_answer, without_read}
use Rattle.model.specs.safe_bit.{is_of_write}
use Rattle.model.specs.safe_bit.declared.moves.Move.TheVariants.{BeginRead, EndRead}
use Rattle.reader_copies.specs.{IsWritten, cell_in, next_read, row_after}
use Rattle.reader_copies.specs.Row as rows
use Rattle.reader_copies.proofs.Writing.{with_cell-other, written-kept}
use Rattle.safe_number.specs.{IsUndisturbed, NumberRead, bit_read, loaded, number_read_after}
use Rattle.safe_number.proofs.WrittenSteps.{undisturbed-on, undisturbed-start}
use Rattle.model.specs.plain_store.{Command, Setup, checked}
use Rattle.model.specs.{Access, Call, Entry, Event, Part, Past, Reading, access_at, ended, entry_of, past_of, read_at, valued, value_of, width}
use Rattle.model.proofs.Width.{IsGood, is_good}
use Rattle.laws.specs.{IsThere, call}
use Rattle.laws.proofs.FrameCells.{EntryBy, makes, marks_only}
use Rattle.laws.proofs.FrameSteps.{entry-by}
use Rattle.laws.proofs.HeldThere.{access_there}
use Rattle.registers.specs.{RegisterName, cell_at, lane_number}
use Rattle.world.proofs.WorldRegisters.{answers}
use Rattle.register_laws.specs.NumbersHeld.{HoldsNumber, number_after, progress_at}
use Rattle.register_laws.specs.RegisterLaws.{IsUnoverlapped, RegisterRead, before_read}
use Rattle.register_laws.specs.Rows.{made_of}
use Rattle.register_laws.specs.WorldRows.{is_on, memory_at, register_row, row_after_entry, writes_on}
use Rattle.register_laws.proofs.ReadFronts.{new_at, quiet-written}
use Rattle.register_laws.proofs.RowMoves.{row-cell}
use Rattle.register_laws.proofs.WorldChanges.{entry-keeps, on-itself, row-entry, row-has}

-- the read as one of a register
abbrev pub number_read : RegisterRead → NumberRead
number_read read = record { width = 0; bits = read.bits; begun = read.begun; room = 0 }

-- the register holds its number, and the read has read its lowest bits
abbrev pub HasRead : Setup → Past → ℕ → RegisterRead → (ℕ → Bool) → Type 0
HasRead s past p read v = IsWritten (register_row s past read.register) v × IsUndisturbed (register_row s past read.register) v p (number_read read)

-- the number with which a read began
abbrev pub read_number : Setup → Past → ℕ → RegisterRead → ℕ → Bool
read_number s past p read = number_after s read.register (before_read p read past)

-- A READ THAT HAS MADE NO ACCESS

pub new-read : (s : Setup) (past : Past) (p : ℕ) (r : RegisterName) → HoldsNumber (register_row s past r) (number_after s r past) (progress_at s past r) → IsUnoverlapped s past p (new_at r) → HasRead s past p (new_at r) (read_number s past p (new_at r))
new-read s past p r holds u = (quiet-written (register_row s past r) (number_after s r past) (progress_at s past r) u.before holds, undisturbed-start (register_row s past r) (number_after s r past) p 0 0)

-- AN ENTRY OF ANOTHER PROCESS

-- it leaves the reader's copies, if it does not write the register
cell-apart : (s : Setup) → IsGood s → (events : List Event) (what : Event) (e : Entry) → entry_of s (past_of s events) what ≡ Some e → (r : RegisterName) (bit p : ℕ) → r.owner < s.processes → e.process ≢ p → writes_on r e ≡ false →
    rows.cell_at (register_row s (e ∷ past_of s events) r) bit p ≡ rows.cell_at (register_row s (past_of s events) r) bit p
cell-apart s g events what e accepts r bit p owner apart quiet = ap (λ m. rows.cell_at m bit p) (row-entry s g events what e accepts r owner) ∙ go (entry-by s g events what e accepts)
  where
    row : List (List Cell)
    row = register_row s (past_of s events) r

    dropped : (b : Bool) → rows.cell_at (cond b (rows.without_reads row e.process) row) bit p ≡ rows.cell_at row bit p
    dropped true = ap (λ copies. cell_in copies bit) (get_or-set_other row e.process p (map without_read (get_or row e.process [])) [] (λ same. apart (sym same)))
    dropped false = refl

    accessed : (x : Access) → (is_of_write x.how ≡ false → x.reader ≡ e.process) → (b : Bool) → (is_of_write x.how && b) ≡ false → rows.cell_at (cond b (row_after row x.bit (made_of x)) row) bit p ≡ rows.cell_at row bit p
    accessed x reads false off = refl
    accessed x reads true off = with_cell-other row x.bit x.reader _ bit p (λ k same. apart (sym (reads (only (is_of_write x.how) off)) ∙ sym same))
      where
        only : (w : Bool) → (w && true) ≡ false → w ≡ false
        only true h = h
        only false h = refl

    go : EntryBy e.process e → rows.cell_at (row_after_entry r e row) bit p ≡ rows.cell_at row bit p
    go (marks_only none) = ap (λ y. rows.cell_at (row_after_entry r (record e { access = y }) row) bit p) none ∙ dropped _
    go (makes x acc by) =
        ap (λ y. rows.cell_at (row_after_entry r (record e { access = y }) row) bit p) acc
        ∙ accessed x by.reads (is_on r x) (sym (ap (λ y. writes_on r (record e { access = y })) acc) ∙ quiet)

pub other-read : (s : Setup) → IsGood s → (events : List Event) (what : Event) (e : Entry) → entry_of s (past_of s events) what ≡ Some e → (p : ℕ) (read : RegisterRead) (v : ℕ → Bool) → read.register.owner < s.processes → e.process ≢ p →
    writes_on read.register e ≡ false → HasRead s (past_of s events) p read v → HasRead s (e ∷ past_of s events) p read v
other-read s g events what e accepts p read v owner apart quiet h =
    let past : Past = past_of s events in
    let r : RegisterName = read.register in
    let kept = entry-keeps s g events what e accepts r owner quiet in (
      written-kept (register_row s past r) (register_row s (e ∷ past) r) v kept h.0,
      record {
        so_far = h.1.so_far;
        untouched = λ has begun. ap (λ (c : Cell). c.touched) (cell-apart s g events what e accepts r (length read.bits) p owner apart quiet) ∙ h.1.untouched (kept.shape (length read.bits) p has) begun;
      },
    )

-- AN ACCESS OF THE READ

-- the reader is at this part, and the entry is its next access there
pub record ReadStep (s : Setup) (past : Past) (e : Entry) (a : Access) (read : RegisterRead) : Type 0 where
  pub command : Command
  pub number : ℕ
  pub part : Part
  pub flick : Bool
  pub access : e.access ≡ Some a
  pub register : read.register ≡ record { owner = (read_at (call s e.process command number) part).0; field = (read_at (call s e.process command number) part).1 }
  pub made : a ≡ valued s past flick (access_at (call s e.process command number) part (Reading read.bits read.begun))

-- the read after it
abbrev pub read_on : RegisterRead → Bool → RegisterRead
read_on read v = record { register = read.register; bits = cond read.begun (read.bits ++ v ∷ []) read.bits; begun = cond read.begun false true }

value-is : (bits : List Bool) (begun u : Bool) → number_read_after (record { width = 0; bits = bits; begun = begun; room = 0 }) u
    ≡ record { width = 0; bits = cond begun (bits ++ value_of (cond begun (EndRead u) BeginRead) ∷ []) bits; begun = cond begun false true; room = 0 }
value-is bits true u = refl
value-is bits false u = refl

ended-read : (begun v : Bool) → ended v (cond begun (EndRead false) BeginRead) ≡ cond begun (EndRead v) BeginRead
ended-read true v = refl
ended-read false v = refl

reads-only : (begun v : Bool) → is_of_write (cond begun (EndRead v) BeginRead) ≡ false
reads-only true v = refl
reads-only false v = refl

pub read-step : (s : Setup) → checked s ≡ Ok tt → (events : List Event) (what : Event) (e : Entry) → entry_of s (past_of s events) what ≡ Some e → (a : Access) (read : RegisterRead) (v : ℕ → Bool) → ReadStep s (past_of s events) e a read →
    HasRead s (past_of s events) e.process read v → HasRead s (e ∷ past_of s events) e.process (read_on read (value_of a.how)) v
read-step s ok events what e accepts a read v st h = (
  written-kept row now v (entry-keeps s g events what e accepts r owner quiet) h.0,
  subst (λ (x : NumberRead). IsUndisturbed now v p x) (value-is read.bits read.begun u ∙ ap (λ m. record { width = 0; bits = cond read.begun (read.bits ++ value_of m ∷ []) read.bits; begun = cond read.begun false true; room = 0 }) (sym how))
      (subst (λ m. IsUndisturbed m v p (number_read_after (number_read read) u)) (sym after)
      (undisturbed-on row v p (number_read read) st.flick (row-has s g past r (length read.bits) p owner wide there.reader) h.0 h.1)),
)
  where
    g : IsGood s
    g = is_good s ok

    past : Past
    past = past_of s events

    p : ℕ
    p = e.process

    c : Call
    c = call s p st.command st.number

    r : RegisterName
    r = read.register

    row : List (List Cell)
    row = register_row s past r

    now : List (List Cell)
    now = register_row s (e ∷ past) r

    x : Access
    x = access_at c st.part (Reading read.bits read.begun)

    made-there : IsThere s a
    made-there = access_there s g events what e accepts a st.access

    there : IsThere s x
    there = let t = subst (IsThere s) st.made made-there in record { owner = t.owner; reader = t.reader; bit = t.bit }

    owner : r.owner < s.processes
    owner = subst (λ (q : RegisterName). q.owner < s.processes) (sym st.register) there.owner

    wide : length read.bits < width s r.field
    wide = subst (λ (q : RegisterName). length read.bits < width s q.field) (sym st.register) there.bit

    u : Bool
    u = loaded row p (number_read read) st.flick

    value : read_answer (cell_at (memory_at s past) (lane_number s.processes (record { owner = x.owner; field = x.field }) p) (length read.bits)) st.flick ≡ u
    value =
        ap (λ q. read_answer (cell_at (memory_at s past) (lane_number s.processes q p) (length read.bits)) st.flick) (sym st.register)
        ∙ ap (λ y. read_answer y st.flick) (sym (row-cell s.processes (memory_at s past) r (length read.bits) p there.reader))

    how : a.how ≡ cond read.begun (EndRead u) BeginRead
    how =
        ap (λ (y : Access). y.how) (st.made ∙ sym (answers s ok events st.flick x there))
        ∙ ended-read read.begun _
        ∙ ap (λ y. cond read.begun (EndRead y) BeginRead) value

    same : made_of a ≡ next_read p (bit_read (number_read read)) u
    same = λ i. record { reader = (st.made i).reader; how = how i }

    quiet : writes_on r e ≡ false
    quiet = ap (λ y. writes_on r (record e { access = y })) st.access ∙ ap (λ m. is_of_write m && is_on r a) how ∙ ap (λ b. b && is_on r a) (reads-only read.begun u)

    on : is_on r a ≡ true
    on = on-itself r a (ap (λ (y : Access). y.owner) st.made ∙ sym (ap (λ (q : RegisterName). q.owner) st.register)) (ap (λ (y : Access). y.field) st.made ∙ sym (ap (λ (q : RegisterName). q.field) st.register))

    after : now ≡ row_after row (length read.bits) (next_read p (bit_read (number_read read)) u)
    after =
        row-entry s g events what e accepts r owner
        ∙ ap (λ y. row_after_entry r (record e { access = y }) row) st.access
        ∙ ap (λ b. cond b (row_after row a.bit (made_of a)) row) on
        ∙ (λ i. row_after row (st.made i).bit (same i))
