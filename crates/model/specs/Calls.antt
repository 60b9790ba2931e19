-- The call of a process, and the numbers that it has read, looked up in its own entries.
use Rattle.std.specs.Prelude.{ℕ, suc, ◌+◌, ◌==◌, Bool, true, false, List, [], ◌∷◌, ◌++◌, Option, None, Some, cond}
use Rattle.safe_bit.specs.{Move}
use Rattle.safe_bit.specs.declared.Move.TheVariants.{EndRead}
use Rattle.model.specs.declared.access.Access.{Access}
use Rattle.plain_store.specs.{Command, Setup}
use Rattle.plain_store.specs.declared.Command.TheVariants.{Ask}
use Rattle.model.specs.declared.marks.Mark.{Mark}
use Rattle.model.specs.declared.marks.Mark.TheVariants.{Called}
use Rattle.model.specs.Entries.{Past, has, is_called}
use Rattle.model.specs.Registers.{width}
use Rattle.model.specs.Scripts.{Call, Numbers}

-- the numbers read, and the bits so far of the one that is being read
pub record ReadSoFar : Type 0 where
  pub finished : Numbers
  pub bits : List Bool

-- one more bit: the last one finishes the number
abbrev pub with_bit : ℕ → ℕ → Bool → ReadSoFar → ReadSoFar
with_bit w k v r = cond (k + 1 == w)
    (record { finished = r.finished ++ (r.bits ++ v ∷ []) ∷ []; bits = [] })
    (record { finished = r.finished; bits = r.bits ++ v ∷ [] })

-- the numbers read, after a move on bit k of a number of w bits
abbrev pub with_move : ℕ → ℕ → Move → ReadSoFar → ReadSoFar
with_move w k (EndRead v) r = with_bit w k v r
with_move w k _ r = r

-- the numbers read, after an entry's access
abbrev pub with_access : Setup → Option Access → ReadSoFar → ReadSoFar
with_access s None r = r
with_access s (Some a) r = with_move (width s a.field) a.bit a.how r

-- the numbers and bits read in these entries
abbrev pub read_so_far : Setup → Past → ReadSoFar
read_so_far s [] = record { finished = []; bits = [] }
read_so_far s (e ∷ past) = with_access s e.access (read_so_far s past)

-- the command of a mark `Called`
abbrev pub called_in : List Mark → Option Command
called_in [] = None
called_in (Called c ∷ marks) = Some c
called_in (_ ∷ marks) = called_in marks

-- the command of the last call, or `Ask` if there was no call
abbrev pub last_command : Past → Command
last_command [] = Ask
last_command (e ∷ past) = elim (called_in e.marks) [ None ↦ last_command past | Some c ↦ c ]

-- the number of calls
abbrev pub calls_in : Past → ℕ
calls_in [] = 0
calls_in (e ∷ past) = elim (has is_called e) [ true ↦ suc (calls_in past) | false ↦ calls_in past ]

-- the number of the last call: in version 2 the number of calls, including this one; in version 1 always 0
abbrev pub call_number : Setup → Past → ℕ
call_number s past = cond (s.version == 2) (calls_in past) 0

-- the last call of a process, from its own entries
abbrev pub last_call : Setup → ℕ → Past → Call
last_call s p past = record { setup = s; process = p; command = last_command past; number = call_number s past }
