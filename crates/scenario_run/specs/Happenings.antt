-- Happenings of a run. Lists of happenings have the newest first.
use Rattle.std.specs.Prelude.{ℕ, ◌+◌, List, [], ◌∷◌, None, Some}
use Rattle.plain_store.specs.{Setup}
use Rattle.model.specs.{Event, Past, past_of, refused}

-- one happening of a run
pub data Happening : Type 0 where
  Tries : Event → Happening  -- an event is made, or refused
  Lacks : ℕ → Happening  -- `go` finds no such process
  Tires : ℕ → Happening  -- `go` has made all its Steps, and the process is not at its target
  Looks : Happening  -- the newest store is shown

-- the events that were made or refused
abbrev pub tried : List Happening → List Event
tried [] = []
tried (Tries event ∷ before) = event ∷ tried before
tried (Lacks p ∷ before) = tried before
tried (Tires p ∷ before) = tried before
tried (Looks ∷ before) = tried before

-- the entries of the record so far
abbrev pub past_after : Setup → List Happening → Past
past_after s before = past_of s (tried before)

-- the events that are accepted, each against the past before it
abbrev pub accepted : Setup → List Event → List Event
accepted s [] = []
accepted s (event ∷ before) = elim (refused s (past_of s before) event) [ None ↦ event ∷ accepted s before | Some r ↦ accepted s before ]

-- 1 for a happening that is reported as a refusal, and 0 for any other
abbrev pub refusals_at : Setup → Past → Happening → ℕ
refusals_at s past (Tries event) = elim (refused s past event) [ None ↦ 0 | Some r ↦ 1 ]
refusals_at s past (Lacks p) = 1
refusals_at s past (Tires p) = 0
refusals_at s past Looks = 0

-- the number of refusals reported
abbrev pub refusals : Setup → List Happening → ℕ
refusals s [] = 0
refusals s (this ∷ before) = refusals s before + refusals_at s (past_after s before) this
