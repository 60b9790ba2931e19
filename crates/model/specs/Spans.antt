-- Calls, their spans, and what they took.
use Rattle.std.specs.Prelude.{ℕ, Bool, true, false, ◌||◌, List, [], ◌∷◌, ◌++◌}
use Rattle.std.specs.List.{list_any}
use Rattle.plain_store.specs.{Reply}
use Rattle.model.specs.declared.marks.Mark.{Mark}
use Rattle.model.specs.declared.marks.Mark.TheVariants.{Taken, Answered, Down}
use Rattle.model.specs.Entries.{Past, own, has, is_called}

-- a mark with which the span of a call ends: the call is answered, or its process is down
abbrev pub ends_span : Mark → Bool
ends_span (Answered a) = true
ends_span Down = true
ends_span _ = false

-- the entries before the first one with such a mark
abbrev pub until : (Mark → Bool) → Past → Past
until test [] = []
until test (e ∷ past) = elim (has test e || list_any (has test) past) [ true ↦ until test past | false ↦ e ∷ past ]

-- the entries of a call of p: of those that came after its mark `Called`, p's own up to its next call
abbrev pub entries_of_call : ℕ → Past → Past
entries_of_call p later = until is_called (own p later)

-- whether a call of p has come to the end of its span, by what came after its mark `Called`
abbrev pub has_ended : ℕ → Past → Bool
has_ended p later = list_any (has ends_span) (entries_of_call p later)

-- the positions and replies of the marks `Taken`
abbrev pub takings : List Mark → List (ℕ × Reply)
takings [] = []
takings (Taken k r ∷ marks) = (k, r) ∷ takings marks
takings (_ ∷ marks) = takings marks

-- the positions and replies of the marks `Taken` of all these entries, the oldest first
abbrev pub all_takings : Past → List (ℕ × Reply)
all_takings [] = []
all_takings (e ∷ past) = all_takings past ++ takings e.marks

-- the positions and replies of the marks `Taken` of a call of p
abbrev pub takings_of_call : ℕ → Past → List (ℕ × Reply)
takings_of_call p later = all_takings (entries_of_call p later)
