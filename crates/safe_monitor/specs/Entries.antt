-- An entry by its parts.
use Rattle.std.specs.Prelude.{ℕ, List, Option}
use Rattle.model.specs.{Access, Entry, Mark}

-- the entry of process p with this access and these marks
abbrev pub entry_by : ℕ → Option Access → List Mark → Entry
entry_by p access marks = record { process = p; access = access; marks = marks }
