-- The state of a process: how it is found by looking back over its entries, and how an entry changes it.
use Rattle.std.specs.Prelude.{◌≡◌, ℕ, zero, suc, ◌==◌, Bool, true, false, List, [], ◌∷◌, length, cond, Option, None, Some, is_none, is_some}
use Rattle.std.specs.List.{list_any}
use Rattle.plain_store.specs.{Setup}
use Rattle.model.specs.{Access, Entry, Mark, Past, called_in, has, is_failed, width}
use Rattle.calls.specs.{CallState, Called, at_rest, begun, ends_number, first_if, marked_all, no_accesses, number_after, call_state}
use Rattle.run_state.specs.declared.kept.FinishedRead.{FinishedRead}
use Rattle.calls.specs.world.laws.{doing}
use Rattle.calls.specs.world.process.{number_read}
use Rattle.run_state.specs.declared.kept.ProcessSummary.{ProcessSummary}

-- a call without the columns of its accesses, except the first access that the process makes itself
abbrev pub without_accesses : CallState → CallState
without_accesses k = record k { last = record k.last { accesses = record no_accesses { doorway = k.last.accesses.doorway } } }

-- the number of the entry with which p failed last
abbrev pub failed_at : ℕ → Past → ℕ
failed_at p [] = 0
failed_at p (e ∷ past) = cond (e.process == p) (cond (has is_failed e) (length past) (failed_at p past)) (failed_at p past)

-- the number that such a read has read
abbrev pub number_finished : FinishedRead → ℕ
number_finished read = number_after read.access.bit read.access.how read.before

-- the number that was read last, with an access without a mark, before which n was read of it
abbrev pub read_with : Setup → Access → ℕ → Option FinishedRead → Option FinishedRead
read_with s a n found = cond (ends_number (width s a.field) a.bit a.how) (Some (record { access = a; before = n })) found

-- the number that was read last, with an entry; one with a mark leads on, so that no number is the last
abbrev pub read_after : Setup → ℕ → Entry → Option FinishedRead → Option FinishedRead
read_after s n e found = elim e.marks [ [] ↦ elim e.access [ None ↦ found | Some a ↦ read_with s a n found ] | m ∷ marks ↦ None ]

-- the number that p has read last, unless that has led on
abbrev pub read_last : Setup → ℕ → Past → Option FinishedRead
read_last s p [] = None
read_last s p (e ∷ past) = cond (e.process == p) (read_after s (number_read (doing s p past)) e (read_last s p past)) (read_last s p past)

-- the state of p
abbrev pub kept : Setup → ℕ → Past → ProcessSummary
kept s p past = record { call_state = without_accesses (call_state s p past); failed = failed_at p past; read = read_last s p past }

-- without an entry
abbrev pub nothing_kept : ℕ → ProcessSummary
nothing_kept p = record { call_state = at_rest p; failed = 0; read = None }

-- with an access of the entry with this number, which counts unless the process has failed in its call
abbrev pub opened : ℕ → CallState → CallState
opened number k = record k { last = record k.last { accesses = record k.last.accesses { doorway = first_if (is_none k.last.marks.failed) number k.last.accesses.doorway } } }

abbrev pub opened_if : Bool → ℕ → CallState → CallState
opened_if b number k = cond b (opened number k) k

-- with an entry of this number and with these marks, which has an access or not
abbrev pub kept_marked : ℕ → Bool → List Mark → ProcessSummary → ProcessSummary
kept_marked number stepped marks k = record {
  call_state = elim (called_in marks) as (λ _. CallState) [ Some c ↦ begun number c k.call_state | None ↦ marked_all number (opened_if stepped number k.call_state) marks ];
  failed = cond (list_any is_failed marks) number k.failed;
  read = None;
}

-- with an access without a mark, before which n was read of the number
abbrev pub kept_stepped : Setup → ℕ → Access → ℕ → ProcessSummary → ProcessSummary
kept_stepped s number a n k = record { call_state = opened number k.call_state; failed = k.failed; read = read_with s a n k.read }

-- the call that goes on, if one does
abbrev pub call_kept : ProcessSummary → Option Called
call_kept k = cond k.call_state.calling (Some k.call_state.last) None

-- `n` is the number that was read before an access of p, if the access ends the read of a register
abbrev pub ReportsNumber : Setup → Past → ℕ → Access → ℕ → Type 0
ReportsNumber s past p a n = ends_number (width s a.field) a.bit a.how ≡ true → n ≡ number_read (doing s p past)

-- p itself has made an access of its last call
abbrev pub has_accessed : Setup → ℕ → Past → Bool
has_accessed s p past = is_some (call_state s p past).last.accesses.doorway

-- from one past to another p added a number of entries within a register access, none of them with the first access of its call
abbrev pub Passes : Setup → ℕ → ℕ → Past → Past → Type 0
Passes s p zero past after = after ≡ past
Passes s p (suc n) past after = (a : Access) × (ends_number (width s a.field) a.bit a.how ≡ false) × (has_accessed s p past ≡ true)
    × Passes s p n (record { process = p; access = Some a; marks = [] } ∷ past) after
