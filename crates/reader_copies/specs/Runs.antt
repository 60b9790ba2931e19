-- The cursors of one bit: how far an access to all its copies has come, and which access comes next.
use Rattle.std.specs.Prelude.{◌≡◌, ℕ, suc, zero, ◌+◌, ◌*◌, ◌/◌, ◌%◌, ◌==◌, ◌-◌, ◌||◌, drop, Bool, true, false, if◌then◌else◌, Option, Some, None, is_some, unwrap_or, List, [], ◌∷◌}
use Rattle.safe_bit.specs.declared.moves.Move.TheVariants.{BeginWrite, EndWrite, BeginRead, EndRead, Settle}
use Rattle.reader_copies.specs.declared.runs.Made.{Made}
use Rattle.reader_copies.specs.declared.runs.Progress.{Progress}
use Rattle.reader_copies.specs.declared.runs.Progress.TheVariants.{Going, Done}

-- a write of one bit
pub record Writing : Type 0 where
  pub value : Bool
  -- how many of its accesses were made
  pub made : ℕ
  -- it has ended on every copy
  pub ended : Bool

-- a read of one bit by one reader
pub record Reading : Type 0 where
  pub begun : Bool
  pub value : Option Bool

-- the settling of a write that was cut
pub record Settling : Type 0 where
  -- how many of the write's accesses were made
  pub made : ℕ
  -- the copy that comes next, and whether its write was begun to settle it
  pub reader : ℕ
  pub begun : Bool
  pub value : Option Bool

-- a settling that has begun on a copy has its value
abbrev pub HasItsValue : (begun : Bool) → Option Bool → Type 0
HasItsValue begun value = begun ≡ true → is_some value ≡ true

-- the progress of a run that is done, or not
abbrev pub progress_of : Bool → Progress
progress_of done = if done then Done else Going

-- begin and end on each of n copies, from reader r on
abbrev pub writes_from : ℕ → ℕ → Bool → List Made
writes_from r zero v = []
writes_from r (suc n) v = record { reader = r; how = BeginWrite v } ∷ record { reader = r; how = EndWrite } ∷ writes_from (r + 1) n v

-- the accesses of a write of one bit with n copies
abbrev pub bit_writes : ℕ → Bool → List Made
bit_writes n v = writes_from 0 n v

-- access number `made` of a write
abbrev pub next_write : Writing → Made
next_write w = record { reader = w.made / 2; how = if w.made % 2 == 0 then BeginWrite w.value else EndWrite }

-- the write after one more access
abbrev pub write_after : ℕ → Writing → Writing
write_after n w = record { value = w.value; made = w.made + 1; ended = w.made + 1 == 2 * n }

-- the next access of a read, whose end gives v
abbrev pub next_read : ℕ → Reading → Bool → Made
next_read reader r v = record { reader = reader; how = if r.begun then EndRead v else BeginRead }

-- the read after its next access
abbrev pub read_after : Reading → Bool → Reading
read_after r v = record { begun = true; value = if r.begun then Some v else r.value }

-- the settling that remains, if the write has begun and has not ended on every copy
abbrev pub torn_of : Writing → Option Settling
torn_of w = if w.made == 0 || w.ended then None else Some (record { made = w.made; reader = 0; begun = false; value = None })

-- the write was cut while its write of copy r was open
abbrev pub is_open_at : ℕ → ℕ → Bool
is_open_at made r = made == 2 * r + 1

-- the value that is settled at: the first value that was handed in
abbrev pub settled_at : Settling → Bool → Bool
settled_at t v = unwrap_or t.value v

-- the next access of a settling at v
abbrev pub next_settle : Settling → Bool → Made
next_settle t v = record { reader = t.reader; how = if t.begun then EndWrite else if is_open_at t.made t.reader then Settle v else BeginWrite v }

-- the settling after one more access
abbrev pub settle_after : Settling → Bool → Settling
settle_after t v = if t.begun || is_open_at t.made t.reader
    then record { made = t.made; reader = t.reader + 1; begun = false; value = Some v }
    else record { made = t.made; reader = t.reader; begun = true; value = Some v }

-- the accesses that settle n copies, from reader r on, of a write that was cut after `made` accesses
abbrev pub settles_from : ℕ → ℕ → ℕ → Bool → List Made
settles_from made r zero v = []
settles_from made r (suc n) v = if is_open_at made r
    then record { reader = r; how = Settle v } ∷ settles_from made (r + 1) n v
    else record { reader = r; how = BeginWrite v } ∷ record { reader = r; how = EndWrite } ∷ settles_from made (r + 1) n v

-- the accesses that are left of a write of n copies
abbrev pub rest_of_write : ℕ → Writing → List Made
rest_of_write n w = drop w.made (bit_writes n w.value)

-- the accesses that are left of a settling at v
abbrev pub rest_of_settling : ℕ → Settling → Bool → List Made
rest_of_settling n t v = if t.begun
    then record { reader = t.reader; how = EndWrite } ∷ settles_from t.made (t.reader + 1) (n - (t.reader + 1)) v
    else settles_from t.made t.reader (n - t.reader) v
