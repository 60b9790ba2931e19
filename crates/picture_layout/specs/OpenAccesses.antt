-- The accesses that are open after columns.
use Rattle.std.specs.Prelude.{ℕ, zero, suc, Bool, ◌==◌, ◌||◌, cond, List, [], ◌∷◌, ◌++◌, get_or, replicate, Option, None, Some, option_map}
use Rattle.picture_layout.specs.Accesses.{is_any, is_over}
use Rattle.picture_layout.specs.Columns.{Seen}
use Rattle.picture_layout.specs.declared.accesses.AccessKind.{AccessKind}
use Rattle.picture_layout.specs.declared.accesses.AccessStep.{AccessStep}
use Rattle.picture_layout.specs.declared.accesses.AccessStep.TheVariants as step
use Rattle.picture_layout.specs.declared.accesses.ShownAccess.{ShownAccess}
use Rattle.picture_layout.specs.declared.open_accesses.UnendedAccess.{UnendedAccess}

-- the open access of a process after an entry of its own
abbrev pub open_by : AccessStep → AccessKind → Bool → Option UnendedAccess
open_by step.Begin kind overlaps = Some (record { kind = kind; is_overlapped = overlaps })
open_by _ kind overlaps = None

-- an open access, after one that may overlap it
abbrev pub overlapped_if : Bool → UnendedAccess → UnendedAccess
overlapped_if overlaps access = record access { is_overlapped = access.is_overlapped || overlaps }

-- the open access of a process after an entry; `before` was open before it
abbrev pub open_behind : ℕ → Option UnendedAccess → ShownAccess → Option UnendedAccess
open_behind p before access = cond (access.process == p)
    (open_by access.step access.kind (is_any access.overlaps))
    (option_map (overlapped_if (is_over access p)) before)

-- the open access after an entry that may show no access, and after a column
abbrev pub open_with : ℕ → Option UnendedAccess → Option ShownAccess → Option UnendedAccess
open_with p before None = before
open_with p before (Some access) = open_behind p before access

abbrev pub open_next : ℕ → Option UnendedAccess → Seen → Option UnendedAccess
open_next p before column = open_with p before column.access

-- the open access after columns
abbrev pub open_after : ℕ → Option UnendedAccess → List Seen → Option UnendedAccess
open_after p before [] = before
open_after p before (column ∷ columns) = open_after p (open_next p before column) columns

-- the open access of a process, from the list of all
abbrev pub open_of : List (Option UnendedAccess) → ℕ → Option UnendedAccess
open_of all p = get_or all p None

-- no access is open
abbrev pub none_open : List (Option UnendedAccess)
none_open = replicate 16 None

-- the open accesses of the first p processes, after columns
abbrev pub first_open : List (Option UnendedAccess) → List Seen → ℕ → List (Option UnendedAccess)
first_open before columns zero = []
first_open before columns (suc p) = first_open before columns p ++ open_after p (open_of before p) columns ∷ []
