-- The state of a bit, by looking back over the moves that were made on it.
use Rattle.std.specs.Prelude.{ℕ, Bool, List, [], ◌∷◌, Option, None, Some}
use Rattle.plain_store.specs.{Setup}
use Rattle.model.specs.safe_bit.{Move, last_begun, last_written}
use Rattle.model.specs.safe_bit.declared.Move.TheVariants.{BeginWrite, EndWrite, BeginRead, EndRead, Settle}
use Rattle.model.specs.{Access, Past, move_on, moves_of, opening_bit}
use Rattle.record_accesses.specs.declared.bits.BitState.{BitState}

-- The process whose write of a bit is open after a move of process p, where this one's was open before it.
abbrev pub writer_after : ℕ → Move → Option ℕ → Option ℕ
writer_after p (BeginWrite v) before = Some p
writer_after p EndWrite before = None
writer_after p BeginRead before = before
writer_after p (EndRead v) before = before
writer_after p (Settle v) before = None

-- The same after a move that may be none.
abbrev pub writer_with : ℕ → List Move → Option ℕ → Option ℕ
writer_with p [] before = before
writer_with p (how ∷ moves) before = writer_after p how before

-- The process whose write of the bit of an access is open.
abbrev pub writer_of : Access → Past → Option ℕ
writer_of a [] = None
writer_of a (e ∷ past) = writer_with e.process (move_on a e) (writer_of a past)

-- The state of the bit of an access.
abbrev pub bit_of : Setup → Past → Access → BitState
bit_of s past a = record {
  begun = last_begun (opening_bit s a) (moves_of a past);
  written = last_written (opening_bit s a) (moves_of a past);
  writer = writer_of a past;
}

-- The state of a bit that opens at a value, before its first move.
abbrev pub new_bit : Bool → BitState
new_bit value = record { begun = value; written = value; writer = None }

-- The state of a bit after one more move, which process p makes.
abbrev pub bit_after : ℕ → Move → BitState → BitState
bit_after p (BeginWrite v) b = record { begun = v; written = b.written; writer = Some p }
bit_after p EndWrite b = record { begun = b.begun; written = b.begun; writer = None }
bit_after p BeginRead b = b
bit_after p (EndRead v) b = b
bit_after p (Settle v) b = record { begun = b.begun; written = v; writer = None }
