use Rattle.std.proofs.Common.{ℕ, List}
use Rattle.plain_store.specs.{Setup}
use Rattle.call_check.specs.{ArePart, Call, IsFollowed, IsJudged}
use Rattle.call_check.proofs.notes.CallNotes.first_bad.Given as goal

-- no call before the present one is bad
abbrev pub invariant-loop-index : goal.invariant-loop-index
invariant-loop-index l = (s : Setup) (calls : List Call) (p : ℕ) → ArePart calls p l.before l.list → IsFollowed s calls l.self.notes.items l.self.count l.self.store l.self.several → IsJudged s calls l.self.count l.self.store p l.list l.index l.least
