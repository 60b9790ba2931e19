-- Accesses to the registers of processes.
use Rattle.std.specs.Prelude.{ℕ}
use Rattle.reader_copies.specs.{Made}
use Rattle.model.specs.declared.access.Access.{Access}
use Rattle.model.specs.declared.access.Field.{Field}

-- an access to a bit of a register, as an access to that register
abbrev pub access_of : ℕ → Field → ℕ × Made → Access
access_of owner field a = record { owner = owner; field = field; bit = a.0; reader = a.1.reader; how = a.1.how }
