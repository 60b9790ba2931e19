-- The stage of a process and its passage through the lock, by looking back over a past.
use Rattle.std.specs.Prelude.{ℕ, ◌==◌, [], ◌∷◌, fold, length, cond}
use Rattle.trace.specs.{LockMark}
use Rattle.trace.specs.declared.marks.LockMark.TheVariants as mark
use Rattle.lock_stages.specs.declared.passages.Passage.{Passage}
use Rattle.lock_stages.specs.declared.states.LockStage.{LockStage}
use Rattle.lock_stages.specs.declared.states.LockStage.TheVariants.{Idle, Doorway, Waiting, Inside, Leaving}
use Rattle.lock_stages.specs.declared.states.ProcessState.{ProcessState}
use Rattle.lock_stages.specs.Entries.{LockEntry, LockPast}
use Rattle.lock_stages.specs.Passages.{no_passage, with_access, with_call, with_enter, with_leave, with_wait}

-- the stage after a mark
abbrev pub stage_after : LockStage → LockMark → LockStage
stage_after before mark.Call = Doorway
stage_after before mark.Wait = Waiting
stage_after before mark.Enter = Inside
stage_after before mark.Leave = Leaving
stage_after before mark.Answer = Idle

-- the stage of a process, at first idle
abbrev pub lock_stage : ℕ → LockPast → LockStage
lock_stage p [] = Idle
lock_stage p (e ∷ past) = cond (e.process == p) (fold stage_after (lock_stage p past) e.marks) (lock_stage p past)

-- the passage after a mark of entry n: a process is at one stage at a time, so it is inside after `enter` alone
abbrev pub passage_marked : ℕ → Passage → LockMark → Passage
passage_marked n t mark.Call = with_call (with_leave t)
passage_marked n t mark.Wait = with_wait n (with_leave t)
passage_marked n t mark.Enter = with_enter n t
passage_marked n t mark.Leave = with_leave t
passage_marked n t mark.Answer = with_leave t

-- the passage of a process after its entry n: after the access, if there is one, and then after each mark
abbrev pub passage_after : ℕ → LockEntry → Passage → Passage
passage_after n e t = fold (passage_marked n) (cond e.accesses (with_access n t) t) e.marks

-- the passage of a process
abbrev pub lock_passage : LockPast → ℕ → Passage
lock_passage [] p = no_passage
lock_passage (e ∷ past) p = cond (e.process == p) (passage_after (length past) e (lock_passage past p)) (lock_passage past p)

-- both
abbrev pub process_state : ℕ → LockPast → ProcessState
process_state p past = record { stage = lock_stage p past; passage = lock_passage past p }
