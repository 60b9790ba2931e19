-- The part of a register that a setup refuses.
use Rattle.std.specs.Prelude.{◌-◌, ◌^◌, ◌&&◌, not, nat_lt, Option, [], ◌∷◌, length}
use Rattle.std.specs.Int.{is_in_range}
use Rattle.trace.specs.{TraceRegister, TraceSetup, first_that, is_atomic, most_bits}
use Rattle.trace_file.specs.TraceFiles.{has_name}
use Rattle.diagnostics.specs.declared.registers.RegisterPart.{RegisterPart}
use Rattle.diagnostics.specs.declared.registers.RegisterPart.TheVariants.{Sharing, Count, Name, Width, Opens}

-- the first part that is refused. Only atomic memory has shared registers; there are at most 64; each name is declared once.
-- The memory bounds the width, and the width bounds the opening value
abbrev pub refused_part : TraceSetup → TraceRegister → Option RegisterPart
refused_part s r = first_that (
    (r.is_shared && not (is_atomic s.memory), Sharing)
    ∷ (not (nat_lt (length s.registers) 64), Count)
    ∷ (has_name s.registers r.name, Name)
    ∷ (not (is_in_range 1 (most_bits s.memory) r.width), Width)
    ∷ (not (nat_lt r.opens (2 ^ r.width)), Opens (2 ^ r.width - 1))
    ∷ [])
