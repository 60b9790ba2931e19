-- How laws and refusals are printed.
use Rattle.std.specs.Prelude.{ℕ, List, codes}
use Rattle.any_lock.specs.declared.any_lock_law.AnyLockLaw.{AnyLockLaw}
use Rattle.any_lock.specs.declared.any_lock_law.AnyLockLaw.TheVariants as law
use Rattle.any_lock.specs.declared.refusals.AccessRefusal.{AccessRefusal}
use Rattle.any_lock.specs.declared.refusals.AccessRefusal.TheVariants as access
use Rattle.any_lock.specs.declared.refusals.MarkRefusal.{MarkRefusal}
use Rattle.any_lock.specs.declared.refusals.MarkRefusal.TheVariants as mark

-- the text of a law
abbrev pub law_text : AnyLockLaw → List ℕ
law_text law.Safe = codes "safe"
law_text law.Access = codes "access"
law_text law.Marks = codes "marks"
law_text law.Together = codes "together"
law_text law.Overtaken = codes "overtaken"
law_text law.History = codes "history"

-- the text of a refusal of an access
abbrev pub access_refusal_text : AccessRefusal → List ℕ
access_refusal_text access.NoProcess = codes "no-process"
access_refusal_text access.NoBit = codes "no-bit"
access_refusal_text access.NotOwner = codes "not-owner"
access_refusal_text access.NotReader = codes "not-reader"
access_refusal_text access.NotSettling = codes "not-settling"
access_refusal_text access.NotRunning = codes "not-running"
access_refusal_text access.NotOpen = codes "not-open"
access_refusal_text access.AccessOpen = codes "access-open"
access_refusal_text access.NotTorn = codes "not-torn"
access_refusal_text access.Torn = codes "torn"

-- the text of a refusal of a mark
abbrev pub mark_refusal_text : MarkRefusal → List ℕ
mark_refusal_text mark.Nothing = codes "nothing"
mark_refusal_text mark.NotAlone = codes "not-alone"
mark_refusal_text mark.Busy = codes "busy"
mark_refusal_text mark.IsDown = codes "is-down"
mark_refusal_text mark.CallsFull = codes "calls-full"
mark_refusal_text mark.AlreadyFailed = codes "already-failed"
mark_refusal_text mark.NotWaiting = codes "not-waiting"
mark_refusal_text mark.NotDown = codes "not-down"
mark_refusal_text mark.NotInDoorway = codes "not-in-doorway"
mark_refusal_text mark.NotInside = codes "not-inside"
mark_refusal_text mark.TakenBefore = codes "taken-before"
mark_refusal_text mark.NotLeaving = codes "not-leaving"
mark_refusal_text mark.WasWithdrawn = codes "was-withdrawn"
mark_refusal_text mark.OtherReply = codes "other-reply"
mark_refusal_text mark.NotTaken = codes "not-taken"
mark_refusal_text mark.NotWithdrawn = codes "not-withdrawn"
mark_refusal_text mark.AccessOpen = codes "access-open"
mark_refusal_text mark.NotSettling = codes "not-settling"
mark_refusal_text mark.Torn = codes "torn"
mark_refusal_text mark.StillInside = codes "still-inside"
