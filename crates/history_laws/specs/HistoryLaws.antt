-- The laws of the history that need no register and are not among the main theorems of `record`. They hold of the record of every list of events.
use Rattle.std.specs.Prelude.{◌≡◌, ℕ, ◌∷◌, ◌++◌, length, map, Contains}
use Rattle.plain_store.specs.{Reply, Setup}
use Rattle.model.specs.{Call, EachEntry, Entry, Past, Taken, call_of, history, takings}

-- The place of a command that is taken is the number of commands taken before.
abbrev pub TakenAtItsPlace : Type 0
TakenAtItsPlace = EachEntry λ s past e. (k : ℕ) (r : Reply) → Contains (takings e.marks) (k, r) → k ≡ length (history s past)

-- the command of the call of an entry that is added to a past, taken with this reply
abbrev pub taken_with : Setup → Past → Entry → Reply → Taken
taken_with s past e reply =
    let c : Call = call_of s past e in
    record { process = e.process; command = c.command; reply = reply; number = c.number }

-- An entry adds to the history the commands that its marks take, and nothing else.
abbrev pub HistoryGrowsByTheTaken : Type 0
HistoryGrowsByTheTaken = EachEntry λ s past e. history s (e ∷ past) ≡ history s past ++ map (λ t. taken_with s past e t.1) (takings e.marks)
