-- The effect of a call that takes the next line of a source.
use Rattle.std.specs.Prelude.{◌≡◌, ℕ, ◌+◌, ◌<◌, ◌≤◌, Bool, true, false, cond, List, [], length, Option, Some, None, IfSome, IfOk, Result, Ok, Err}
use Rattle.std.specs.Global.{Vec}
use Rattle.std.specs.Io.KnownBytes.{IsAtEnd, Keeps, prepend_known}
use Rattle.files.specs.declared.faults.Fault.{Fault}
use Rattle.files.specs.declared.faults.Fault.TheVariants as fault
use Rattle.files.specs.declared.faults.FaultKind.TheVariants.{TooLong}
use Rattle.files.specs.Lines.{IsTooLong, MovesAll, MovesEnded, TakesLine, without_return}

-- the bytes that a source has given and that no line has taken, and whether the source has reported its end
pub record Given : Type 0 where
  pub bytes : List ℕ
  pub ended : Bool

-- these bytes, and the line that was found last in its place among them
pub record Held : Type 0 where
  pub given : Given
  pub line : List ℕ

-- the number of lines that were taken, the bytes of the last one, and the bytes that the source has given after it
pub record LineState : Type 0 where
  pub taken : ℕ
  pub line : List ℕ
  pub ahead : Given

-- the bytes that a source still has: none after it has reported its end
abbrev pub unless_ended : Bool → Option (List ℕ) → Option (List ℕ)
unless_ended false to_come = to_come
unless_ended true to_come = Some []

-- the bytes to come: those that a source has given already, and then those that it still has
abbrev pub coming : Given → Option (List ℕ) → Option (List ℕ)
coming ahead to_come = prepend_known ahead.bytes (unless_ended ahead.ended to_come)

-- a source that has reported its end has no bytes to come
abbrev pub EndHolds : Given → Option (List ℕ) → Type 0
EndHolds ahead to_come = ahead.ended ≡ true → IsAtEnd to_come

-- such a source has no bytes to come after a call either
abbrev pub KeepsEnd : Given → Option (List ℕ) → Given → Option (List ℕ) → Type 0
KeepsEnd old to_come new rest = EndHolds old to_come → EndHolds new rest

-- the bytes to come are unchanged
abbrev pub Stays : Option (List ℕ) → Option (List ℕ) → Type 0
Stays old new = Keeps old new

-- the bytes to come are unchanged, if a call found some
abbrev pub Waits : Result Bool Fault → Given → Option (List ℕ) → Given → Option (List ℕ) → Type 0
Waits found old to_come new rest = IfOk found (λ some. some ≡ true → Stays (coming old to_come) (coming new rest))

-- there were no bytes to come, and now it is known that there are none
abbrev pub ComesToEnd : Option (List ℕ) → Option (List ℕ) → Type 0
ComesToEnd old new = IsAtEnd old × (new ≡ Some [])

-- there were no bytes to come, and this is known now, if a call found none
abbrev pub Ends : Result Bool Fault → Given → Option (List ℕ) → Given → Option (List ℕ) → Type 0
Ends found old to_come new rest = IfOk found (λ some. some ≡ false → ComesToEnd (coming old to_come) (coming new rest))

-- if a call found no bytes, there were none to come, and there are none now
abbrev pub NoneCome : Result Bool Fault → Given → Option (List ℕ) → Given → Option (List ℕ) → Type 0
NoneCome found old to_come new rest = IfOk found (λ some. some ≡ false → IsAtEnd (coming old to_come) × IsAtEnd (coming new rest))

-- the waiting bytes up to the end of their first line were appended to a line, if they contain this end
abbrev pub MovesToEnd : {E : Type 0} → Result Bool E → Given → Given → (line longer : Vec ℕ) → Type 0
MovesToEnd ended old new line longer = IfOk ended (λ is. is ≡ true → MovesEnded old.bytes new.bytes line.items longer.items)

-- all waiting bytes were appended to a line, if they contain no end of a line
abbrev pub MovesOn : {E : Type 0} → Result Bool E → Given → Given → (line longer : Vec ℕ) → Type 0
MovesOn ended old new line longer = IfOk ended (λ is. is ≡ false → MovesAll old.bytes new.bytes line.items longer.items)

-- The first line of the waiting bytes was found, if its end is among them. The bytes after it still wait.
pub record FindsLine (old new : Held) : Type 0 where
  pub whole : List ℕ
  pub ends : MovesEnded old.given.bytes new.given.bytes [] whole
  pub line : new.line ≡ without_return whole

-- the line that was taken: the line in its place if it was found there, or the bytes that were moved together
abbrev pub shown_line : Bool → Held → List ℕ → List ℕ
shown_line in_place held moved = cond in_place held.line moved

-- a fact about the bytes to come before a call and after it, if they are known
abbrev pub Reported : Option (List ℕ) → Option (List ℕ) → (List ℕ → List ℕ → Type 0) → Type 0
Reported None rest P = Unit {0}
Reported (Some text) None P = ⊥
Reported (Some text) (Some rest) P = P text rest

-- the first line of the bytes to come was taken, if it is short enough
abbrev pub TakesShort : Result Bool Fault → Given → Option (List ℕ) → Given → Option (List ℕ) → List ℕ → Type 0
TakesShort found old to_come new rest line =
    IfOk found (λ some. some ≡ true → length line ≤ 128 → Reported (coming old to_come) (coming new rest) (λ text remaining. TakesLine text line remaining))

-- a longer line is too long
abbrev pub TakesLong : Result Bool Fault → Given → Option (List ℕ) → List ℕ → Type 0
TakesLong found old to_come line = IfOk found (λ some. some ≡ true → 128 < length line → IfSome (coming old to_come) IsTooLong)

-- the next line was taken
pub record TakesNext (old new : LineState) (to_come rest : Option (List ℕ)) : Type 0 where
  pub taken : new.taken ≡ old.taken + 1
  pub short : length new.line ≤ 128
  pub line : Reported to_come rest (λ text remaining. TakesLine text new.line remaining)

-- there was no next line
pub record FindsEnd (old new : LineState) (to_come rest : Option (List ℕ)) : Type 0 where
  pub taken : new.taken ≡ old.taken
  pub before : IsAtEnd to_come
  pub behind : IsAtEnd rest

-- The five ends of a call that takes the next line: the line, no line, a line that is too long, a failed call, or no memory.
abbrev pub GoesToNext : Result Bool Fault → LineState → LineState → Option (List ℕ) → Option (List ℕ) → Type 0
GoesToNext (Ok true) old new to_come rest = TakesNext old new to_come rest
GoesToNext (Ok false) old new to_come rest = FindsEnd old new to_come rest
GoesToNext (Err (fault.Line f)) old new to_come rest = (f ≡ record { line = old.taken + 1; kind = TooLong }) × IfSome to_come IsTooLong
GoesToNext (Err fault.Read) old new to_come rest = Unit {0}
GoesToNext (Err fault.Memory) old new to_come rest = Unit {0}
GoesToNext (Err fault.Write) old new to_come rest = ⊥

-- the end of such a call, by the bytes that the source has given and those that it still has
abbrev pub GoesOn : Result Bool Fault → LineState → Option (List ℕ) → LineState → Option (List ℕ) → Type 0
GoesOn found old to_come new rest = GoesToNext found old new (coming old.ahead to_come) (coming new.ahead rest)

-- a call of lines keeps the end of their source
abbrev pub LinesKeepEnd : LineState → Option (List ℕ) → LineState → Option (List ℕ) → Type 0
LinesKeepEnd old to_come new rest = KeepsEnd old.ahead to_come new.ahead rest
