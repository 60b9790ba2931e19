-- The end of a call that was withdrawn or cut by a failure: the machine next to the withdrawal's script and the memory unit's. One flick advances it by one access.
use Rattle.std.specs.Prelude.{ℕ, ◌==◌, Bool, false, ◌&&◌, not, cond, if◌then◌else◌, List, [], ◌∷◌, length, map, Option, None, Some, is_none}
use Rattle.reader_copies.specs.Runs as copies
use Rattle.model.specs.declared.access.Access.{Access}
use Rattle.model.specs.declared.access.Field.{Field}
use Rattle.model.specs.declared.access.Field.TheVariants.{Choosing, Ticket}
use Rattle.model.specs.Accesses.{access_of}
use Rattle.safe_number.specs.{NumberWrite, bits_of_number, new_write}
use Rattle.plain_store.specs.declared.Answer.TheVariants as answer
use Rattle.plain_store.specs.{Reply, Setup}
use Rattle.model.specs.declared.marks.Mark.{Mark}
use Rattle.model.specs.declared.marks.Mark.TheVariants.{Taken, Left, Answered, Settled, Down}
use Rattle.model.specs.declared.stages.Stage.{Stage}
use Rattle.model.specs.declared.stages.Stage.TheVariants as stage
use Rattle.model.specs.Calls.{read_so_far}
use Rattle.model.specs.Entries.{Entry, Past, since, is_called}
use Rattle.model.specs.Histories.{history}
use Rattle.model.specs.Moves.{valued}
use Rattle.model.specs.Records.{placed}
use Rattle.model.specs.Places.{next_written, write_moved}
use Rattle.model.specs.Program.{store_read, reply}
use Rattle.model.specs.Scripts.{Call, Next}
use Rattle.model.specs.Stages.{inside}
use Rattle.model.specs.Unit.{last_write, last_read, value_begun, unfinished, made_with, is_commit}

-- the closing that is being made, and its progress
pub data Closing : Type 0 where
  Withdraws : NumberWrite → Closing  -- the process writes `Ticket` 0, and answers `Withdrawn`
  Settles : (field : Field) (bit : ℕ) (begun : Bool) (taken : Option Reply) (inside : Bool) → copies.Settling → Closing  -- the unit settles a bit. begun was being written; a commit bit that is settled at it takes the command, with this reply
  Frees : (inside : Bool) → NumberWrite → Closing  -- the unit writes `Ticket` 0
  Lowers : NumberWrite → Closing  -- the unit writes `Choosing` 0
  Quit : Closing  -- the process has answered
  Ended : Closing  -- the unit is done

-- the bits of the ticket 0
abbrev pub no_ticket : Call → List Bool
no_ticket c = bits_of_number c.setup.ticket_bits 0

-- the next access of a write of these bits is the last one
abbrev pub is_last_written : Call → List Bool → NumberWrite → Bool
is_last_written c bits w = (write_moved c.setup.processes bits w).bit == w.width

-- no access of a write is made
abbrev pub is_unwritten : NumberWrite → Bool
is_unwritten w = (w.bit == 0) && is_none w.run

-- a settling at v comes to its last copy with its next access
abbrev pub is_last_settled : Call → copies.Settling → Bool → Bool
is_last_settled c t v = (copies.settle_after t v).reader == c.setup.processes

-- the marks on the last access of a settling at v
abbrev pub settled_marks : Bool → Option Reply → Bool → List Mark
settled_marks begun taken v = Settled v ∷ elim taken [ None ↦ [] | Some r ↦ cond (if v then begun else not begun) (Taken 0 r ∷ []) [] ]

-- the withdrawal before its first access
abbrev pub withdrawing : Call → Closing
withdrawing c = Withdraws (new_write c.setup.ticket_bits)

-- the clearing of the ticket before its first access
abbrev pub freeing : Call → Bool → Closing
freeing c inside = Frees inside (new_write c.setup.ticket_bits)

-- the reply with which the settling of a bit may take the command, where this was read last: a commit bit's alone
abbrev pub reply_with : Call → Field → List Bool → Option Reply
reply_with c field value = cond (is_commit field) (Some (reply c (store_read c value))) None

-- the settling of the bit of a write's last access
abbrev pub settling_from : Call → Past → Option Access → Closing
settling_from c past None = freeing c (inside c.process past)
settling_from c past (Some a) =
    Settles a.field a.bit (value_begun past) (reply_with c a.field (last_read (read_so_far c.setup (since is_called past)).finished)) (inside c.process past)
    (record { made = made_with a; reader = 0; begun = false; value = None })

-- the unit before its first access; past has the process's own entries up to its failure
abbrev pub failing : Call → Past → Closing
failing c past = settling_from c past (unfinished c.setup.processes (last_write past))

-- the next access and its marks; the first flick is the value that is settled at
abbrev pub closing_next : Call → Closing → Bool → Option Next
closing_next c (Withdraws w) flick = Some (record { access = access_of c.process Ticket (next_written (no_ticket c) w); marks = cond (is_last_written c (no_ticket c) w) (Answered answer.Withdrawn ∷ []) [] })
closing_next c (Settles field bit begun taken is t) flick =
    Some (record {
      access = access_of c.process field (bit, copies.next_settle t (copies.settled_at t flick));
      marks = cond (is_last_settled c t (copies.settled_at t flick)) (settled_marks begun taken (copies.settled_at t flick)) [];
    })
closing_next c (Frees is w) flick = Some (record { access = access_of c.process Ticket (next_written (no_ticket c) w); marks = cond (is && is_unwritten w) (Left ∷ []) [] })
closing_next c (Lowers w) flick = Some (record { access = access_of c.process Choosing (next_written (false ∷ []) w); marks = cond (is_last_written c (false ∷ []) w) (Down ∷ []) [] })
closing_next c Quit flick = None
closing_next c Ended flick = None

-- the closing after that access
abbrev pub closing_after : Call → Closing → Bool → Closing
closing_after c (Withdraws w) flick = cond (is_last_written c (no_ticket c) w) Quit (Withdraws (write_moved c.setup.processes (no_ticket c) w))
closing_after c (Settles field bit begun taken is t) flick =
    cond (is_last_settled c t (copies.settled_at t flick)) (freeing c is) (Settles field bit begun taken is (copies.settle_after t (copies.settled_at t flick)))
closing_after c (Frees is w) flick = cond (is_last_written c (no_ticket c) w) (Lowers (new_write 1)) (Frees is (write_moved c.setup.processes (no_ticket c) w))
closing_after c (Lowers w) flick = cond (is_last_written c (false ∷ []) w) Ended (Lowers (write_moved c.setup.processes (false ∷ []) w))
closing_after c Quit flick = Quit
closing_after c Ended flick = Ended

-- the stage while it is done
abbrev pub closing_stage : Closing → Stage
closing_stage (Withdraws w) = stage.Leaving
closing_stage (Settles field bit begun taken is t) = stage.Settling
closing_stage (Frees is w) = stage.Settling
closing_stage (Lowers w) = stage.Settling
closing_stage Quit = stage.Idle
closing_stage Ended = stage.Down

-- the closing after one access for each of these flicks, the newest flick first
abbrev pub closing_of : Call → Closing → List Bool → Closing
closing_of c start [] = start
closing_of c start (flick ∷ flicks) = closing_after c (closing_of c start flicks) flick

-- the entry that a step of p adds with this access and its marks
abbrev pub closing_entry : Setup → Past → ℕ → Bool → Next → Entry
closing_entry s past p flick n = record { process = p; access = Some (valued s past flick n.access); marks = map (placed (length (history s past))) n.marks }
