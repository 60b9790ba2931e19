-- Entries, and a past: the entries so far, the newest first.
use Rattle.std.specs.Prelude.{ℕ, ◌==◌, Bool, true, false, List, [], ◌∷◌, filter, Option}
use Rattle.std.specs.List.{list_any}
use Rattle.model.specs.declared.access.Access.{Access}
use Rattle.model.specs.declared.marks.Mark.{Mark}
use Rattle.model.specs.declared.marks.Mark.TheVariants.{Called, Waiting, Entered, Failed, Withdrew}

-- an entry: a process, at most one access, and the marks in their order
pub record Entry : Type 0 where
  pub process : ℕ
  pub access : Option Access
  pub marks : List Mark

-- the entries so far, the newest first
abbrev pub Past : Type 0
Past = List Entry

-- the entries of one process
abbrev pub own : ℕ → Past → Past
own p past = filter (λ e. e.process == p) past

-- a call begins
abbrev pub is_called : Mark → Bool
is_called (Called c) = true
is_called _ = false

-- the process fails
abbrev pub is_failed : Mark → Bool
is_failed Failed = true
is_failed _ = false

-- the process has a ticket, and waits
abbrev pub is_waiting : Mark → Bool
is_waiting (Waiting t) = true
is_waiting _ = false

-- the process gets inside
abbrev pub is_entered : Mark → Bool
is_entered Entered = true
is_entered _ = false

-- a mark with which a process begins another program: that of its call, that of a withdrawal, or that of its memory unit
abbrev pub starts : Mark → Bool
starts (Called c) = true
starts Withdrew = true
starts Failed = true
starts _ = false

-- an entry has such a mark
abbrev pub has : (Mark → Bool) → Entry → Bool
has test e = list_any test e.marks

-- the entries after the last one with such a mark
abbrev pub since : (Mark → Bool) → Past → Past
since test [] = []
since test (e ∷ past) = elim (has test e) [ true ↦ [] | false ↦ e ∷ since test past ]

-- the entries before the last one with such a mark
abbrev pub before : (Mark → Bool) → Past → Past
before test [] = []
before test (e ∷ past) = elim (has test e) [ true ↦ past | false ↦ before test past ]
