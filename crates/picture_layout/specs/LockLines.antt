-- The lines of a trace, and the marks of a record that its marks resemble.
use Rattle.std.specs.Prelude.{ℕ, List, ◌++◌, codes}
use Rattle.std.specs.Fmt.{decimal}
use Rattle.model.specs.{Mark}
use Rattle.model.specs.declared.marks.Mark.TheVariants.{Answered, Called, Entered, Left, Waiting}
use Rattle.model.specs.plain_store.declared.commands.Answer.TheVariants.{Withdrawn}
use Rattle.model.specs.plain_store.declared.commands.Command.TheVariants.{Ask}
use Rattle.trace.specs.{LockMark, lock_mark_text}
use Rattle.trace.specs.declared.marks.LockMark.TheVariants as lock

-- the mark of a record that leads to the same stage as a mark of a trace, and has the same sign
abbrev pub like : LockMark → Mark
like lock.Call = Called Ask
like lock.Wait = Waiting 0
like lock.Enter = Entered
like lock.Leave = Left
like lock.Answer = Answered Withdrawn

-- the text of a mark of a process in the entry with this number
abbrev pub lock_marked_text : (entry p : ℕ) → LockMark → List ℕ
lock_marked_text entry p mark = decimal entry ++ codes " " ++ decimal p ++ codes " " ++ lock_mark_text mark

-- the text of the end of a trace
abbrev pub lock_ended_text : ℕ → List ℕ
lock_ended_text entries = codes "end entries " ++ decimal entries
