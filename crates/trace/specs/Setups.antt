-- What a trace states before its entries.
use Rattle.std.specs.Prelude.{ℕ, ◌^◌, nat_lt, nat_le, Bool, true, false, not, ◌&&◌, ◌||◌, List, length}
use Rattle.std.specs.List.{list_all}
use Rattle.trace.specs.declared.setups.TraceMemory.{TraceMemory}
use Rattle.trace.specs.declared.setups.TraceMemory.TheVariants.{Safe, Regular, Atomic}
use Rattle.trace.specs.declared.setups.TraceRegister.{TraceRegister}

-- the processes, the memory and the registers
pub record TraceSetup : Type 0 where
  pub processes : ℕ
  pub memory : TraceMemory
  pub registers : List TraceRegister

-- the greatest width of a register in a memory
abbrev pub most_bits : TraceMemory → ℕ
most_bits Safe = 32
most_bits Regular = 8
most_bits Atomic = 32

-- in this memory accesses do not overlap
abbrev pub is_atomic : TraceMemory → Bool
is_atomic Safe = false
is_atomic Regular = false
is_atomic Atomic = true

-- a memory has registers such as this one: width, opening value and sharing are in range
abbrev pub is_register : TraceMemory → TraceRegister → Bool
is_register m r =
    nat_lt 0 r.width && nat_le r.width (most_bits m)
    && nat_lt r.opens (2 ^ r.width)
    && (not r.is_shared || is_atomic m)

-- 1 to 16 processes, and at most 64 registers, each in range
abbrev pub is_trace_setup : TraceSetup → Bool
is_trace_setup s =
    nat_lt 0 s.processes && nat_le s.processes 16
    && nat_le (length s.registers) 64
    && list_all (is_register s.memory) s.registers
