-- The ranges of the parts of an entry, which their types give.
use Rattle.std.specs.Prelude.{◌≡◌, ◌≤◌, ◌^◌, Bool, true, nat_lt, ◌&&◌, Option, Some, None, length}
use Rattle.std.specs.List.{list_all}
use Rattle.model.specs.{Access, Entry, Mark}
use Rattle.plain_store.specs.{Answer, Reply, fits_i64, is_command, is_value}
use Rattle.plain_store.specs.declared.commands.Answer.TheVariants as answer
use Rattle.plain_store.specs.declared.commands.Reply.TheVariants as reply
use Rattle.model.specs.declared.marks.Mark.TheVariants as mark

-- an owner and a reader have 8 bits, and the number of a bit has 16
abbrev pub is_access : Option Access → Bool
is_access None = true
is_access (Some a) = nat_lt a.owner 256 && (nat_lt a.bit 65536 && nat_lt a.reader 256)

-- values are values, sums have 64 bits, and the number of a call has 16
abbrev pub is_reply : Reply → Bool
is_reply (reply.Value v) = is_value v
is_reply (reply.Sum n) = fits_i64 n
is_reply (reply.Kept v) = is_value v
is_reply (reply.Last n) = nat_lt n 65536
is_reply r = true

-- the number of a process has 8 bits
abbrev pub is_answer : Answer → Bool
is_answer (answer.Reply r) = is_reply r
is_answer (answer.TicketsFull p) = nat_lt p 256
is_answer a = true

-- a ticket has 32 bits, and a position has 64
abbrev pub is_mark : Mark → Bool
is_mark (mark.Called c) = is_command c
is_mark (mark.Waiting t) = nat_lt t (2 ^ 32)
is_mark (mark.Taken k r) = nat_lt k (2 ^ 64) && is_reply r
is_mark (mark.Answered a) = is_answer a
is_mark m = true

-- the parts of an entry are in the ranges of their types
abbrev pub is_entry : Entry → Bool
is_entry e = nat_lt e.process 256 && (is_access e.access && list_all is_mark e.marks)

-- an entry that a line can specify: it has at most three marks
pub record IsEntry (e : Entry) : Type 0 where
  pub sound : is_entry e ≡ true
  pub few : length e.marks ≤ 3
