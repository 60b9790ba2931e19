-- An entry with a change that makes it keep all laws.
use Rattle.std.specs.Prelude.{◌≡◌, map, Option, None, Some}
use Rattle.plain_store.specs.{Setup}
use Rattle.plain_store.specs.declared.Answer.TheVariants.{Reply}
use Rattle.model.specs.{Access, Entry, Mark, Past}
use Rattle.model.specs.declared.marks.Mark.TheVariants.{Answered, Taken}
use Rattle.any_lock.specs.declared.reasons.Remedy.{Remedy}
use Rattle.any_lock.specs.declared.reasons.Remedy.TheVariants.{Value, Taking}
use Rattle.any_lock.specs.declared.any_lock_law.AnyLockLaw.{AnyLockLaw}
use Rattle.safe_monitor.specs.declared.verdicts.Verdict.TheVariants.{Good}
use Rattle.any_lock.specs.Laws.{first_broken}
use Rattle.any_lock.specs.Reasons.{change_of, ends_with}
use Rattle.any_lock.specs.Verdicts.{verdict_after}

-- the access of the changed entry: with a value, it ends a read with that value
abbrev pub access_with : Remedy → Option Access → Option Access
access_with (Value v) access = ends_with v access
access_with (Taking place reply) access = access

-- a mark of the changed entry: a taken command has this position and this reply, and an answered reply is this reply
abbrev pub mark_with : Remedy → Mark → Mark
mark_with (Taking place reply) (Taken n r) = Taken place reply
mark_with (Taking place reply) (Answered (Reply r)) = Answered (Reply reply)
mark_with change m = m

abbrev pub changed : Remedy → Entry → Entry
changed change e = record { process = e.process; access = access_with change e.access; marks = map (mark_with change) e.marks }

-- After a good record, an entry that breaks a law keeps all laws with the change that its reasons state.
abbrev pub MaysKeepAllLaws : Type 0
MaysKeepAllLaws = (s : Setup) (past : Past) → verdict_after s past ≡ Good → (e : Entry) (l : AnyLockLaw) (c : Remedy) → first_broken s past e ≡ Some l → change_of l s past e ≡ Some c → first_broken s past (changed c e) ≡ None
