-- A single access of a cursor, and several accesses.
use Rattle.std.specs.Prelude.{◌≡◌, ℕ, zero, suc, ◌+◌, ◌==◌, ◌&&◌, ◌||◌, Bool, false, not, if◌then◌else◌, List, [], ◌∷◌, ◌++◌, Option, Some, unwrap_or, slice_index_or}
use Rattle.safe_bit.specs.Cell.{Cell, read_answer}
use Rattle.safe_bit.specs.{Move, is_end_of_read}
use Rattle.safe_bit.specs.declared.moves.Move.TheVariants.{BeginWrite, EndWrite, BeginRead, EndRead, Settle}
use Rattle.reader_copies.specs.{is_open_at}
use Rattle.choices.specs.{FlickState, flick_of, after_flick, flicks_after}
use Rattle.model.specs.{Access, ended_with, value_of}
use Rattle.registers.specs.Memory.{cell_at, memory_moved}
use Rattle.registers.specs.Cursors.{CursorState, lane_number}
use Rattle.registers.specs.declared.cursor.RegisterAccessKind.{RegisterAccessKind}
use Rattle.registers.specs.declared.cursor.RegisterAccessKind.TheVariants.{Reads, Writes, Settles}

-- THE NEXT ACCESS

-- the next move of a read; its end returns v
abbrev pub read_move : Bool → Bool → Move
read_move begun v = if begun then EndRead v else BeginRead

-- the next move of a write
abbrev pub write_move : CursorState → Move
write_move c = if c.begun then EndWrite else BeginWrite (slice_index_or c.bits c.bit false)

-- the next move of a settling at v, of a write that was interrupted after `cut` accesses
abbrev pub settle_move : ℕ → CursorState → Bool → Move
settle_move cut c v = if c.begun then EndWrite else if is_open_at cut c.copy then Settle v else BeginWrite v

abbrev pub move_by : RegisterAccessKind → CursorState → Bool → Move
move_by Reads c flick = read_move c.begun flick
move_by Writes c flick = write_move c
move_by (Settles cut value) c flick = settle_move cut c (unwrap_or value flick)

-- the next access, if it makes this move
abbrev pub access_with : CursorState → Move → Access
access_with c how = record { owner = c.register.owner; field = c.register.field; bit = c.bit; reader = c.reader + c.copy; how = how }

-- the next access by this flick; the end of a read has the flick as its provisional value
abbrev pub next_access : CursorState → Bool → Access
next_access c flick = access_with c (move_by c.run c flick)

-- THE RESULT OF AN ACCESS, AND THE MEMORY AFTER IT

-- the lane of an access, in a memory with `copies` copies of each bit
abbrev pub lane_of_access : ℕ → Access → ℕ
lane_of_access copies a = lane_number copies (record { owner = a.owner; field = a.field }) a.reader

-- the access; the end of a read has the value that its copy returns
abbrev pub answered : ℕ → List (List Cell) → Bool → Access → Access
answered copies memory flick a = ended_with (read_answer (cell_at memory (lane_of_access copies a) a.bit) flick) a

-- the next access of a cursor, with this value
abbrev pub next_answered : CursorState → List (List Cell) → Bool → Access
next_answered c memory flick = answered c.copies memory flick (next_access c flick)

-- the memory after an access
abbrev pub applied : ℕ → List (List Cell) → Access → List (List Cell)
applied copies memory a = memory_moved memory (lane_of_access copies a) a.bit a.how

-- THE CURSOR AFTER AN ACCESS

-- the cursor after an access of a read; its end returns v
abbrev pub read_after : CursorState → Bool → CursorState
read_after c v = record c {
  bit = if c.begun then c.bit + 1 else c.bit;
  begun = not c.begun;
  bits = if c.begun then c.bits ++ v ∷ [] else c.bits;
}

-- the next access ends the write of the last copy, and so of the bit
abbrev pub ends_bit : CursorState → Bool
ends_bit c = c.begun && (c.copy + 1 == c.copies)

-- the cursor after an access of a write
abbrev pub write_after : CursorState → CursorState
write_after c = record c {
  bit = if ends_bit c then c.bit + 1 else c.bit;
  copy = if ends_bit c then 0 else if c.begun then c.copy + 1 else c.copy;
  begun = not c.begun;
}

-- the value of a bit that is written or settled
abbrev pub value_written : Option Bool → Move → Option Bool
value_written value (BeginWrite v) = Some v
value_written value (Settle v) = Some v
value_written value _ = value

-- the next access settles a copy of the bit
abbrev pub ends_copy : ℕ → CursorState → Bool
ends_copy cut c = c.begun || is_open_at cut c.copy

-- the next access settles the last copy
abbrev pub ends_settling : ℕ → CursorState → Bool
ends_settling cut c = ends_copy cut c && (c.copy + 1 == c.copies)

-- the cursor after an access of a settling
abbrev pub settle_after : ℕ → Option Bool → CursorState → Move → CursorState
settle_after cut value c how = record c {
  run = Settles cut (value_written value how);
  bit = if ends_settling cut c then c.width else c.bit;
  copy = if ends_settling cut c then 0 else if ends_copy cut c then c.copy + 1 else c.copy;
  begun = not (ends_copy cut c);
}

abbrev pub after_by : RegisterAccessKind → CursorState → Move → CursorState
after_by Reads c how = read_after c (value_of how)
after_by Writes c how = write_after c
after_by (Settles cut value) c how = settle_after cut value c how

abbrev pub cursor_after : CursorState → Move → CursorState
cursor_after c how = after_by c.run c how

-- ONE ACCESS: the next one, with the result that the memory returns; it changes the memory and the cursor, and takes a flick
abbrev pub made_by : CursorState → List (List Cell) → FlickState → Access → CursorState × List (List Cell) × FlickState
made_by c memory flicks a = (cursor_after c a.how, applied c.copies memory a, after_flick flicks)

-- the next access by the next flick
abbrev pub access_next : CursorState × List (List Cell) × FlickState → Access
access_next (c, memory, flicks) = next_answered c memory (flick_of flicks)

abbrev pub access_of : CursorState × List (List Cell) × FlickState → CursorState × List (List Cell) × FlickState
access_of (c, memory, flicks) = made_by c memory flicks (access_next (c, memory, flicks))

-- THE END OF A READ THAT A WRITE OVERLAPPED

-- the move ends a read of a copy on which a write was open when the read began, or has begun since
abbrev pub ends_touched : Cell → Move → Bool
ends_touched c how = is_end_of_read how && c.touched

-- an access ends such a read, in a memory with `copies` copies of each bit
abbrev pub ends_overlapped : ℕ → List (List Cell) → Access → Bool
ends_overlapped copies memory a = ends_touched (cell_at memory (lane_of_access copies a) a.bit) a.how

-- the next access ends such a read
abbrev pub overlaps_next : CursorState × List (List Cell) × FlickState → Bool
overlaps_next (c, memory, flicks) = ends_overlapped c.copies memory (access_next (c, memory, flicks))

-- SEVERAL ACCESSES
abbrev pub run_of : ℕ → CursorState × List (List Cell) × FlickState → CursorState × List (List Cell) × FlickState
run_of zero now = now
run_of (suc k) now = access_of (run_of k now)

-- the newest of these accesses; the next access if there are none
abbrev pub newest_of : ℕ → CursorState × List (List Cell) × FlickState → Access
newest_of zero now = access_next now
newest_of (suc k) now = access_next (run_of k now)

-- the number of these accesses that end a read that a write overlapped
abbrev pub overlapped_of : ℕ → CursorState × List (List Cell) × FlickState → ℕ
overlapped_of zero now = 0
overlapped_of (suc k) now = overlapped_of k now + (if overlaps_next (run_of k now) then 1 else 0)

-- n accesses lead from one state to the other for all flicks, and none of them ends a read that a write overlapped
pub record LeadsTo (n : ℕ) (c : CursorState) (memory : List (List Cell)) (new : CursorState) (now : List (List Cell)) : Type 0 where
  pub run : (f : FlickState) → run_of n (c, memory, f) ≡ (new, now, flicks_after n f)
  pub none : (f : FlickState) → overlapped_of n (c, memory, f) ≡ 0
