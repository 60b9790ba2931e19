-- The memory unit: its remaining work. Its accesses are those of any closing of the failure rule.
use Rattle.std.specs.Prelude.{◌≡◌, ℕ, Bool, false, cond, List, [], ◌∷◌, Option, None, Some, option_map}
use Rattle.reader_copies.specs.{settled_at}
use Rattle.model.specs.{Access, Call, Change, Mark, Next, TornBit, cut}
use Rattle.plain_store.specs.declared.Command.TheVariants.{Ask}
use Rattle.plain_store.specs.{Setup}
use Rattle.model.specs.declared.Mark.TheVariants as mark
use Rattle.model.specs.Closings.{Closing, Settles, Frees, Lowers, closing_next, closing_after, settled_marks}
use Rattle.process.specs.laws.{Doing, Closes, Lies, is_inside_closing}
use Rattle.process.specs.{ProcessState, may_step, settles}
use Rattle.bakery.specs.Memory.{BorrowedMemory, memory_after}
use Rattle.bakery.specs.Sections.{is_data}
use Rattle.bakery.specs.declared.unit_progress.UnitProgress.{UnitProgress}
use Rattle.bakery.specs.declared.unit_progress.UnitProgress.TheVariants as progress

-- the remaining work
abbrev pub remains : Doing → UnitProgress
remains d = cond (settles d) progress.Settling (cond (may_step d) progress.Clearing progress.Down)

-- the lock after an access: an access to the versions leaves it as it is
abbrev pub lock_after : BorrowedMemory → Access → BorrowedMemory
lock_after lock a = record lock { memory = cond (is_data a.field) lock.memory (memory_after lock.memory a) }

-- the versions after an access: an access to the lock leaves them as they are
abbrev pub versions_after : BorrowedMemory → Access → BorrowedMemory
versions_after versions a = record versions { memory = cond (is_data a.field) (memory_after versions.memory a) versions.memory }

-- ANY CLOSING

-- the unit's work at a closing, whether or not its process is inside and whichever command is taken
abbrev pub work_at : Closing → Doing
work_at (Settles field bit begun taken inside t) = Closes Ask 0 (Settles field bit false None false t)
work_at (Frees inside w) = Closes Ask 0 (Frees false w)
work_at (Lowers w) = Closes Ask 0 (Lowers w)
work_at _ = Lies

-- the unit at a closing of this call
abbrev pub unit_at : Call → Closing → ProcessState
unit_at c at = record { setup = c.setup; process = c.process; doing = work_at at; command = Ask; number = 0 }

-- the closing of each call of the process that was cut with this torn bit begins there
abbrev pub BeginsClosings : Setup → ℕ → Option TornBit → ProcessState → Type 0
BeginsClosings s p torn u = (c : Call) (begun : Bool) (pending : Option Change) (inside : Bool) → c.setup ≡ s → c.process ≡ p → u ≡ unit_at c (cut c torn begun pending inside)

-- the next access at a flick
abbrev pub IsNextOfClosing : ProcessState → Bool → Access → Type 0
IsNextOfClosing u flick access = (c : Call) (at : Closing) → u ≡ unit_at c at → option_map (λ (n : Next). n.access) (closing_next c at flick) ≡ Some access

-- the access moves the closing to its next place
abbrev pub ClosingGoesOn : ProcessState → Bool → ProcessState → Type 0
ClosingGoesOn u flick then = (c : Call) (at : Closing) → u ≡ unit_at c at → then ≡ unit_at c (closing_after c at flick)

-- the marks on the last access of a settling
abbrev pub settled_by : Closing → Bool → List Mark
settled_by (Settles field bit begun taken inside t) flick = settled_marks begun taken (settled_at t flick)
settled_by _ flick = []

-- the marks of an access, by the remaining work before it and after it
abbrev pub marks_reported : Closing → Bool → UnitProgress → UnitProgress → List Mark
marks_reported at flick progress.Settling progress.Clearing = settled_by at flick
marks_reported at flick progress.Clearing progress.Clearing = cond (is_inside_closing at) (mark.Left ∷ []) []
marks_reported at flick progress.Clearing progress.Down = mark.Down ∷ []
marks_reported at flick _ _ = []

-- the remaining work after the access determines its marks
abbrev pub MarksOfClosing : ProcessState → Bool → UnitProgress → Type 0
MarksOfClosing u flick then = (c : Call) (at : Closing) → u ≡ unit_at c at → option_map (λ (n : Next). n.marks) (closing_next c at flick) ≡ Some (marks_reported at flick (remains u.doing) then)
