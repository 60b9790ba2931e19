-- The title of a trace's picture, and the lines that its page lists.
use Rattle.std.specs.Prelude.{ℕ, ◌+◌, Bool, true, false, List, ◌++◌, codes, flat_map, length}
use Rattle.std.specs.Fmt.{decimal}
use Rattle.picture.specs.{plural_of}
use Rattle.trace.specs.{TraceMemory, TraceRegister, TraceSetup}
use Rattle.trace.specs.declared.setups.TraceMemory.TheVariants.{Safe, Regular, Atomic}

-- the word of a memory
abbrev pub memory_word : TraceMemory → List ℕ
memory_word Safe = codes "safe"
memory_word Regular = codes "regular"
memory_word Atomic = codes "atomic"

-- the title of a picture
abbrev pub title_of : TraceSetup → List ℕ
title_of s = codes "Trace of " ++ (decimal s.processes ++ (codes " process" ++ (plural_of s.processes ++ (codes " (" ++ (memory_word s.memory ++ codes " memory)")))))

-- the headings
abbrev pub first_lines : TraceSetup → List ℕ
first_lines s = codes "trace 1\nprocesses " ++ (decimal s.processes ++ (codes "\nmemory " ++ (memory_word s.memory ++ codes "\n")))

-- the first word of the line of a register
abbrev pub kind_word : Bool → List ℕ
kind_word true = codes "shared"
kind_word false = codes "register"

-- the line of a register
abbrev pub register_line : TraceRegister → List ℕ
register_line r = kind_word r.is_shared ++ (codes " " ++ (r.name ++ (codes " " ++ (decimal r.width ++ (codes " opens " ++ (decimal r.opens ++ codes "\n"))))))

-- the lines that a page lists: the headings and registers of the trace, and one line for all entries
abbrev pub listed : TraceSetup → List ℕ
listed s = first_lines s ++ flat_map register_line s.registers ++ codes "(entries)\n"

-- the number of that line
abbrev pub source_of : TraceSetup → ℕ
source_of s = length s.registers + 4
