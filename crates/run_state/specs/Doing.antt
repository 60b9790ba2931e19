-- How far a process is: its ticket, the process for which it waits, what it or its unit reads, writes or settles, and what is open.
use Rattle.std.specs.Prelude.{◌≡◌, ℕ, ◌+◌, ◌-◌, ◌*◌, ◌/◌, ◌%◌, ◌==◌, nat_lt, Bool, true, false, not, ◌&&◌, ◌||◌, List, [], ◌++◌, codes, cond, if◌then◌else◌, Option, None, Some}
use Rattle.std.specs.Fmt.{decimal}
use Rattle.plain_store.specs.{Setup}
use Rattle.model.specs.safe_bit.{Move, is_end_of_read, is_end_of_write}
use Rattle.model.specs.safe_bit.declared.Move.TheVariants.{BeginWrite, EndWrite, EndRead}
use Rattle.model.specs.{Access, Entry, Field, Past, Stage, entry_of, field_word, width}
use Rattle.model.specs.declared.access.Field.TheVariants.{Ticket}
use Rattle.model.specs.declared.events.Event.TheVariants.{Step}
use Rattle.model.specs.declared.stages.Stage.TheVariants.{Doorway, Waiting, Inside, Settling}
use Rattle.judge.specs.record_file.scenario.{bit_word}
use Rattle.calls.specs.{Called, holds_up, open_call}
use Rattle.run_state.specs.declared.kept.FinishedRead.{FinishedRead}
use Rattle.calls.specs.world.laws.{Doing, doing, steps_alone}
use Rattle.calls.specs.world.process.{AccessProgress, KnownTicket, number_read, settling_of, ticket_known}
use Rattle.calls.specs.world.process.declared.looks.Settling.{Settling as Torn}
use Rattle.calls.specs.world.process.declared.looks.KnownTicket.TheVariants.{Above, Is}
use Rattle.calls.specs.world.process.registers.reader_copies.{CopyState}
use Rattle.run_state.specs.declared.kept.ProcessSummary.{ProcessSummary}
use Rattle.run_state.specs.Copies.{bit_at, copy_text, is_image}
use Rattle.run_state.specs.Keeping.{kept, number_finished}
use Rattle.run_state.specs.Lines.{line_if, process_line}

-- Its ticket.

abbrev pub ticket_words : ℕ → List ℕ
ticket_words n = codes "ticket " ++ decimal n

-- a ticket above this one
abbrev pub above_words : ℕ → List ℕ
above_words n = codes "ticket above " ++ decimal n

-- in its doorway, by what is known of it
abbrev pub doorway_ticket : Option KnownTicket → Option (List ℕ)
doorway_ticket None = None
doorway_ticket (Some (Above n)) = Some (above_words n)
doorway_ticket (Some (Is n)) = Some (ticket_words n)

-- the ticket with which it waits
abbrev pub waiting_ticket : Option ℕ → Option (List ℕ)
waiting_ticket None = None
waiting_ticket (Some n) = Some (ticket_words n)

abbrev pub ticket_at : Stage → Option KnownTicket → Called → Option (List ℕ)
ticket_at Doorway known c = doorway_ticket known
ticket_at Waiting known c = waiting_ticket c.marks.ticket
ticket_at Inside known c = waiting_ticket c.marks.ticket
ticket_at _ known c = None

-- the register of q for which it waits, by the number read
abbrev pub awaited : Field → ℕ → List ℕ
awaited Ticket n = codes " ticket " ++ decimal n
awaited _ n = codes " choosing"

-- the number that it has read last holds it up
abbrev pub waits_by : ℕ → Option ℕ → Option FinishedRead → Option (List ℕ)
waits_by p (Some ticket) (Some read) =
    let a : Access = read.access in
    let n : ℕ = number_finished read in
    cond (holds_up p ticket a.owner a.field n) (Some (codes "waits for " ++ (decimal a.owner ++ awaited a.field n))) None
waits_by p _ _ = None

abbrev pub waits_at : ℕ → Stage → Option FinishedRead → Called → Option (List ℕ)
waits_at p Waiting read c = waits_by p c.marks.ticket read
waits_at p _ read c = None

-- both lines, by what is known of the ticket, and by the number that was read last
abbrev pub call_reported : ℕ → Stage → Option KnownTicket → Option FinishedRead → Called → List ℕ
call_reported p stage known read c = line_if p (ticket_at stage known c) ++ line_if p (waits_at p stage read c)

abbrev pub ticket_lines : ℕ → Stage → Option KnownTicket → Option FinishedRead → Option Called → List ℕ
ticket_lines p stage known read None = []
ticket_lines p stage known read (Some c) = call_reported p stage known read c

-- Reading, writing and settling.

-- the name of a register, and how many of its accesses are made, of how many
abbrev pub progress_words : ℕ → Field → AccessProgress → List ℕ
progress_words owner field g = decimal owner ++ (codes "." ++ (field_word field ++ (codes " " ++ (decimal g.made ++ (codes " of " ++ decimal g.all)))))

-- one more, where a test holds
abbrev pub one_if : Bool → ℕ
one_if b = if b then 1 else 0

-- the write of a register has two accesses for each bit on each copy; those before this one are made
abbrev pub write_progress : Setup → Access → AccessProgress
write_progress s a = record { made = 2 * (a.bit * s.processes + a.reader) + one_if (is_end_of_write a.how); all = 2 * (s.processes * width s a.field) }

-- its read has two for each bit
abbrev pub read_progress : Setup → Access → AccessProgress
read_progress s a = record { made = 2 * a.bit + one_if (is_end_of_read a.how); all = 2 * width s a.field }

-- the register's first copy, once p alone has made the remaining accesses of its write
abbrev pub value_written : Setup → Past → ℕ → Access → List ℕ
value_written s past p a = copy_text s (steps_alone s p ((write_progress s a).all - (write_progress s a).made) past) a.owner a.field 0

-- the words before that value
abbrev pub writes_words : Access → AccessProgress → List ℕ
writes_words a g = codes "writes " ++ (progress_words a.owner a.field g ++ codes " value ")

-- the bits of a number that are read so far; those of an image are omitted
abbrev pub so_far : Access → ℕ → List ℕ
so_far a n = cond (is_image a.field || (a.bit == 0)) [] (codes " so far " ++ decimal n)

abbrev pub reads_words : Access → AccessProgress → ℕ → List ℕ
reads_words a g n = codes "reads " ++ (progress_words a.owner a.field g ++ so_far a n)

-- the value that a unit has chosen, if it has
abbrev pub chosen_words : Option Bool → List ℕ
chosen_words None = []
chosen_words (Some v) = codes " value " ++ bit_word v

-- the last access of the write that a failure of p has cut
abbrev pub cut_access : ℕ → Torn → Access
cut_access p t = record { owner = p; field = t.field; bit = t.bit; reader = t.cut / 2; how = BeginWrite t.written }

-- the write of a copy was begun, and has not ended
abbrev pub is_cut_open : Torn → Bool
is_cut_open t = t.cut % 2 == 1

-- a settling has two accesses on each copy, and one on the copy whose write was open
abbrev pub settling_progress : Setup → Torn → AccessProgress
settling_progress s t = record {
  made = 2 * t.copy + one_if t.begun - one_if (is_cut_open t && nat_lt (t.cut / 2) t.copy);
  all = 2 * s.processes - one_if (is_cut_open t);
}

abbrev pub settles_words : ℕ → Torn → AccessProgress → List ℕ
settles_words p t g = codes "settles " ++ (progress_words p t.field g ++ chosen_words t.value)

abbrev pub torn_words : ℕ → Torn → List ℕ
torn_words p t = codes "torn " ++ (decimal p ++ (codes "." ++ (field_word t.field ++ (codes "." ++ (decimal t.bit ++ (codes " write " ++ bit_word t.written))))))

abbrev pub is_writing : Move → Bool
is_writing (BeginWrite v) = true
is_writing EndWrite = true
is_writing _ = false

-- the register access that it is within, or begins with this access
abbrev pub access_words : Setup → Past → ℕ → Access → ℕ → List ℕ
access_words s past p a n = cond (is_writing a.how) (writes_words a (write_progress s a) ++ value_written s past p a) (reads_words a (read_progress s a) n)

abbrev pub settling_lines : ℕ → Torn → AccessProgress → List ℕ
settling_lines p t g = process_line p (settles_words p t g) ++ process_line p (torn_words p t)

abbrev pub busy_lines : Setup → Past → ℕ → Access → ℕ → Option Torn → List ℕ
busy_lines s past p a n None = process_line p (access_words s past p a n)
busy_lines s past p a n (Some t) = settling_lines p t (settling_progress s t)

-- The open access.

abbrev pub written_word : Bool → List ℕ
written_word v = codes " write " ++ bit_word v

abbrev pub read_word : Bool → List ℕ
read_word overlapped = cond overlapped (codes " read overlapped") (codes " read")

-- the access to this bit is open
abbrev pub opened_words : Access → List ℕ → List ℕ
opened_words a how = codes "open " ++ (decimal a.owner ++ (codes "." ++ (field_word a.field ++ (codes "." ++ (decimal a.bit ++ (codes "." ++ (decimal a.reader ++ how)))))))

-- before the first access of a settling: the write that the failure has cut
abbrev pub is_cut_first : Torn → Bool
is_cut_first t = (t.copy == 0) && not t.begun && is_cut_open t

abbrev pub cut_open : ℕ → Option Torn → Option (List ℕ)
cut_open p None = None
cut_open p (Some t) = cond (is_cut_first t) (Some (opened_words (cut_access p t) (written_word t.written))) None

-- where the next access ends one, that one
abbrev pub open_by : ℕ → Access → Move → CopyState → Option Torn → Option (List ℕ)
open_by p a EndWrite b torn = Some (opened_words a (written_word b.value))
open_by p a (EndRead v) b torn = Some (opened_words a (read_word b.touched))
open_by p a _ b torn = cut_open p torn

abbrev pub open_words : Setup → Past → ℕ → Access → Option Torn → Option (List ℕ)
open_words s past p a torn = open_by p a a.how (bit_at s past a) torn

-- All of it.

-- when it failed, while its unit settles
abbrev pub failed_words : Stage → ℕ → Option (List ℕ)
failed_words Settling at = Some (codes "failed at " ++ decimal at)
failed_words _ at = None

-- where it does this, and this access comes next
abbrev pub doing_with : Setup → Past → ℕ → Stage → Option Called → ProcessSummary → Doing → Access → List ℕ
doing_with s past p stage call k d a =
    line_if p (failed_words stage k.failed)
    ++ (ticket_lines p stage (ticket_known s d) k.read call ++ (busy_lines s past p a (number_read d) (settling_of d) ++ line_if p (open_words s past p a (settling_of d))))

-- the access of an entry, if there is one
abbrev pub access_in : Option Entry → Option Access
access_in None = None
access_in (Some e) = e.access

-- p makes this access with its next step
abbrev pub ComesNext : Setup → Past → ℕ → Access → Type 0
ComesNext s past p a = access_in (entry_of s past (Step p false)) ≡ Some a

abbrev pub doing_by : Setup → Past → ℕ → Stage → Option Access → List ℕ
doing_by s past p stage None = []
doing_by s past p stage (Some a) = doing_with s past p stage (open_call s p past) (kept s p past) (doing s p past) a

-- the lines of p at a stage, by the access of its next Step
abbrev pub doing_lines : Setup → Past → ℕ → Stage → List ℕ
doing_lines s past p stage = doing_by s past p stage (access_in (entry_of s past (Step p false)))
