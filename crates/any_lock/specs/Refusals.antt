-- The refusals of an access and of marks: one table each, in which the first reason that applies is the refusal.
use Rattle.std.specs.Prelude.{ℕ, ◌==◌, nat_lt, nat_le, Bool, true, false, not, ◌&&◌, ◌||◌, List, [], ◌∷◌, ◌++◌, length, Option, None, Some, is_none, is_some, if◌then◌else◌}
use Rattle.std.specs.List.{list_any}
use Rattle.std.specs.Ordering.{int_eq}
use Rattle.model.specs.safe_bit.{Move, is_begin_of_write, is_end, is_of_read, settles}
use Rattle.plain_store.specs.{Answer, Reply, Setup, same_value}
use Rattle.plain_store.specs.declared.Answer.TheVariants as answer
use Rattle.plain_store.specs.declared.Reply.TheVariants as reply
use Rattle.model.specs.{Access, Entry, Mark, Past, Stage, is_down, is_in_doorway, is_leaving, is_running, is_settling, is_waiting_stage, same_bit, width}
use Rattle.model.specs.declared.marks.Mark.TheVariants.{Called, Waiting, Entered, Taken, Left, Answered, Failed, Settled, Down, Withdrew, Restarted}
use Rattle.any_lock.specs.declared.refusals.AccessRefusal.{AccessRefusal}
use Rattle.any_lock.specs.declared.refusals.AccessRefusal.TheVariants as access
use Rattle.any_lock.specs.declared.refusals.MarkRefusal.{MarkRefusal}
use Rattle.any_lock.specs.declared.refusals.MarkRefusal.TheVariants as mark
use Rattle.any_lock.specs.declared.process_views.BegunAccess.{BegunAccess}
use Rattle.any_lock.specs.declared.process_views.ProcessView.{ProcessView}
use Rattle.any_lock.specs.ProcessViews.{process_view}

-- the first value whose test holds
abbrev pub first_that : {R : Type 0} → List (Bool × R) → Option R
first_that [] = None
first_that (test ∷ tests) = if test.0 then Some test.1 else first_that tests

-- Accesses.

-- both are true, or both are false
abbrev pub same_truth : Bool → Bool → Bool
same_truth true b = b
same_truth false b = not b

-- the bit of an access exists
abbrev pub is_there : Setup → Access → Bool
is_there s a = nat_lt a.owner s.processes && nat_lt a.reader s.processes && nat_lt a.bit (width s a.field)

-- a process at this stage may make this move: any move while it runs, a move of a write while it is settling; a settling has its own rules
abbrev pub may_move : Stage → Move → Bool
may_move at how = settles how || is_running at || (is_settling at && not (is_of_read how))

-- this began an access to the same bit
abbrev pub is_of_bit : Option BegunAccess → Access → Bool
is_of_bit None a = false
is_of_bit (Some b) a = same_bit b.access a

-- this began the access that ends here
abbrev pub is_end_of : Option BegunAccess → Access → Bool
is_end_of None a = false
is_end_of (Some b) a = same_bit b.access a && same_truth (is_of_read a.how) (is_of_read b.access.how)

-- The tables of refusals of an access: by the process that makes it, and by the state of that process.
abbrev pub maker_refusals : Setup → ℕ → Access → List (Bool × AccessRefusal)
maker_refusals s p a =
    (not (nat_lt p s.processes), access.NoProcess)
    ∷ (not (is_there s a), access.NoBit)
    ∷ (not (is_of_read a.how) && not (a.owner == p), access.NotOwner)
    ∷ (is_of_read a.how && not (a.reader == p), access.NotReader)
    ∷ []

abbrev pub move_refusals : ProcessView → Access → List (Bool × AccessRefusal)
move_refusals k a =
    (settles a.how && not (is_settling k.stage), access.NotSettling)
    ∷ (not (may_move k.stage a.how), access.NotRunning)
    ∷ (is_end a.how && not (is_end_of k.opened a), access.NotOpen)
    ∷ (not (is_end a.how) && is_some k.opened, access.AccessOpen)
    ∷ (settles a.how && not (is_of_bit k.torn a), access.NotTorn)
    ∷ (is_begin_of_write a.how && is_of_bit k.torn a, access.Torn)
    ∷ []

-- the refusal of an access that p makes in this state
abbrev pub access_refusal : Setup → ℕ → ProcessView → Access → Option AccessRefusal
access_refusal s p k a = first_that (maker_refusals s p a ++ move_refusals k a)

-- Answers.

-- both are one reply
abbrev pub same_reply : Reply → Reply → Bool
same_reply (reply.Value x) (reply.Value y) = same_value x y
same_reply reply.Done reply.Done = true
same_reply (reply.Sum m) (reply.Sum n) = int_eq m n
same_reply reply.Swapped reply.Swapped = true
same_reply (reply.Kept x) (reply.Kept y) = same_value x y
same_reply reply.NoName reply.NoName = true
same_reply reply.NotCounter reply.NotCounter = true
same_reply reply.Overflow reply.Overflow = true
same_reply reply.StoreFull reply.StoreFull = true
same_reply (reply.Last m) (reply.Last n) = m == n
same_reply _ _ = false

-- the answer is a reply
abbrev pub is_reply : Answer → Bool
is_reply (answer.Reply r) = true
is_reply _ = false

-- the answer is that of a withdrawal
abbrev pub is_withdrawn : Answer → Bool
is_withdrawn answer.Withdrawn = true
is_withdrawn _ = false

-- the answer is this reply
abbrev pub is_the_reply : Answer → Reply → Bool
is_the_reply (answer.Reply q) r = same_reply q r
is_the_reply _ r = false

-- a command was taken with another reply than this answer
abbrev pub has_other_reply : Option Reply → Answer → Bool
has_other_reply None a = false
has_other_reply (Some r) a = not (is_the_reply a r)

-- The table of refusals of each mark, if its process is in this state.
abbrev pub mark_refusal : ProcessView → Mark → Option MarkRefusal
mark_refusal k (Called c) = first_that (
    (is_running k.stage, mark.Busy)
    ∷ (is_settling k.stage || is_down k.stage, mark.IsDown)
    ∷ (nat_le 65535 k.number, mark.CallsFull)
    ∷ [])
mark_refusal k Failed = first_that ((is_settling k.stage || is_down k.stage, mark.AlreadyFailed) ∷ [])
mark_refusal k Withdrew = first_that ((not (is_waiting_stage k.stage), mark.NotWaiting) ∷ [])
mark_refusal k Entered = first_that ((not (is_waiting_stage k.stage), mark.NotWaiting) ∷ [])
mark_refusal k Restarted = first_that ((not (is_down k.stage), mark.NotDown) ∷ [])
mark_refusal k (Waiting t) = first_that ((not (is_in_doorway k.stage), mark.NotInDoorway) ∷ [])
mark_refusal k Left = first_that ((not k.passage.inside, mark.NotInside) ∷ [])
mark_refusal k (Taken n r) = first_that (
    (not k.passage.inside, mark.NotInside)
    ∷ (is_some k.reply, mark.TakenBefore)
    ∷ [])
mark_refusal k (Answered a) = first_that (
    (not (is_in_doorway k.stage || is_leaving k.stage), mark.NotLeaving)
    ∷ (k.withdrawn && not (is_withdrawn a), mark.WasWithdrawn)
    ∷ (has_other_reply k.reply a, mark.OtherReply)
    ∷ (is_none k.reply && is_reply a, mark.NotTaken)
    ∷ (not k.withdrawn && is_withdrawn a, mark.NotWithdrawn)
    ∷ (is_some k.opened, mark.AccessOpen)
    ∷ [])
mark_refusal k (Settled v) = first_that (
    (not (is_settling k.stage), mark.NotSettling)
    ∷ (is_some k.torn, mark.Torn)
    ∷ [])
mark_refusal k Down = first_that (
    (not (is_settling k.stage), mark.NotSettling)
    ∷ (k.passage.inside, mark.StillInside)
    ∷ (is_some k.opened, mark.AccessOpen)
    ∷ (is_some k.torn, mark.Torn)
    ∷ [])

-- the mark must be alone: without an access and without another mark
abbrev pub must_be_alone : Mark → Bool
must_be_alone (Called c) = true
must_be_alone Failed = true
must_be_alone Withdrew = true
must_be_alone Restarted = true
must_be_alone _ = false

-- an entry has neither an access nor a mark
abbrev pub has_nothing : Entry → Bool
has_nothing e = is_none e.access && (length e.marks == 0)

-- an entry has one mark and no access
abbrev pub has_one_mark : Entry → Bool
has_one_mark e = is_none e.access && (length e.marks == 1)

-- one of its marks must be alone, and is not
abbrev pub is_crowded : Entry → Bool
is_crowded e = list_any must_be_alone e.marks && not (has_one_mark e)

-- The refusals of an entry, after a past.

-- the refusal of the access of an entry
abbrev pub refusal_of_access : Setup → Past → Entry → Option AccessRefusal
refusal_of_access s past e = elim e.access [
  | None ↦ first_that ((not (nat_lt e.process s.processes), access.NoProcess) ∷ [])
  | Some a ↦ access_refusal s e.process (process_view s e.process past) a
]

-- an entry with these marks in place of its own
abbrev pub up_to : Entry → List Mark → Entry
up_to e marks = record { process = e.process; access = e.access; marks = marks }

-- the first refused mark after the earlier marks
abbrev pub refusal_behind : Setup → Past → Entry → List Mark → List Mark → Option MarkRefusal
refusal_behind s past e earlier [] = None
refusal_behind s past e earlier (m ∷ later) = elim (mark_refusal (process_view s e.process (up_to e earlier ∷ past)) m) [
  | Some r ↦ Some r
  | None ↦ refusal_behind s past e (earlier ++ m ∷ []) later
]

-- the refusal of the marks of an entry, one after the other, after its access
abbrev pub refusal_of_marks : Setup → Past → Entry → Option MarkRefusal
refusal_of_marks s past e =
    if has_nothing e then Some mark.Nothing else
    if is_crowded e then Some mark.NotAlone else
    refusal_behind s past e [] e.marks
