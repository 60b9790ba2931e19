-- The kinds of moves: begins and ends, of reads and of writes.
use Rattle.std.specs.Prelude.{Bool, true, false}
use Rattle.safe_bit.specs.declared.moves.Move.{Move}
use Rattle.safe_bit.specs.declared.moves.Move.TheVariants.{BeginWrite, EndWrite, BeginRead, EndRead, Settle}

-- the move begins an access
abbrev pub is_begin : Move → Bool
is_begin (BeginWrite v) = true
is_begin BeginRead = true
is_begin _ = false

-- the move begins a read
abbrev pub is_begin_of_read : Move → Bool
is_begin_of_read BeginRead = true
is_begin_of_read _ = false

-- the move begins a write
abbrev pub is_begin_of_write : Move → Bool
is_begin_of_write (BeginWrite v) = true
is_begin_of_write _ = false

-- the move ends an access
abbrev pub is_end : Move → Bool
is_end EndWrite = true
is_end (EndRead v) = true
is_end _ = false

-- the move ends a read
abbrev pub is_end_of_read : Move → Bool
is_end_of_read (EndRead v) = true
is_end_of_read _ = false

-- the move ends a write
abbrev pub is_end_of_write : Move → Bool
is_end_of_write EndWrite = true
is_end_of_write _ = false

-- the move begins or ends a read
abbrev pub is_of_read : Move → Bool
is_of_read BeginRead = true
is_of_read (EndRead v) = true
is_of_read _ = false

-- the move begins or ends a write, or settles one
abbrev pub is_of_write : Move → Bool
is_of_write (BeginWrite v) = true
is_of_write EndWrite = true
is_of_write (Settle v) = true
is_of_write _ = false

-- the move settles a write
abbrev pub settles : Move → Bool
settles (Settle v) = true
settles _ = false

-- the move gives its bit a value: it begins a write or settles one
abbrev pub gives_value : Move → Bool
gives_value (BeginWrite v) = true
gives_value (Settle v) = true
gives_value _ = false
