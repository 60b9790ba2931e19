-- The memory unit that a failure starts, by the place where it cuts a call or a withdrawal. This definition accompanies the look-back of the failure rule.
use Rattle.std.specs.Prelude.{Bool, false, cond, slice_index_or, Option, None, Some, option_map}
use Rattle.model.specs.declared.access.Field.{Field}
use Rattle.model.specs.declared.access.TornBit.{TornBit}
use Rattle.plain_store.specs.{Reply}
use Rattle.model.specs.Closings.{Closing, Withdraws, Settles, freeing, no_ticket}
use Rattle.model.specs.Cuts.{Change, pending_at, torn_at, torn_closing}
use Rattle.model.specs.Parts.{Part, written_at}
use Rattle.model.specs.Places.{Run, Writing, Reading, Place}
use Rattle.model.specs.Scripts.{Call}
use Rattle.model.specs.Unit.{is_commit}

-- the value that is being written to the present bit
abbrev pub begun_run : Call → Part → Run → Bool
begun_run c part (Writing w) = slice_index_or (written_at c part).1 w.bit false
begun_run c part (Reading bits begun) = false

-- the value that is being written to the present bit at a place
abbrev pub begun_at : Call → Place → Bool
begun_at c at = begun_run c at.part at.run

-- the value that a withdrawal is writing to the present bit
abbrev pub begun_closing : Call → Closing → Bool
begun_closing c (Withdraws w) = slice_index_or (no_ticket c) w.bit false
begun_closing c _ = false

-- the reply with which the settling of a torn bit may take the command: that of the pending change, for the commit bit alone
abbrev pub taken_with : Field → Option Change → Option Reply
taken_with field pending = cond (is_commit field) (option_map (λ change. change.0) pending) None

-- the unit, of whose work nothing is made: it settles the torn bit, of which begun was being written, or has none to settle
abbrev pub cut : Call → Option TornBit → Bool → Option Change → Bool → Closing
cut c None begun pending inside = freeing c inside
cut c (Some t) begun pending inside = Settles t.field t.bit begun (taken_with t.field pending) inside t.torn

-- the unit of a process that failed at a place of its call
abbrev pub cut_at : Call → Place → Bool → Closing
cut_at c at inside = cut c (torn_at c at) (begun_at c at) (pending_at c at.part) inside

-- the unit of a process that failed at a place of its withdrawal
abbrev pub cut_closing : Call → Closing → Bool → Closing
cut_closing c at inside = cut c (torn_closing at) (begun_closing c at) None inside
