-- The progress of the register access of a process: the number of accesses made, their total, and the last one.
use Rattle.std.specs.Prelude.{ℕ, ◌+◌, ◌-◌, ◌*◌, ◌==◌, Bool, false, cond, if◌then◌else◌, List, length, Option, None, Some, option_map, slice_index_or}
use Rattle.plain_store.specs.{Setup}
use Rattle.registers.specs.safe_bit.declared.moves.Move.TheVariants.{BeginRead, EndRead, EndWrite}
use Rattle.registers.specs.reader_copies.{Made, next_write}
use Rattle.registers.specs.reader_copies.Runs as copies
use Rattle.registers.specs.{made_of_settling, settling_in_all}
use Rattle.model.specs.safe_number.{NumberWrite}
use Rattle.model.specs.{Access, Call, Closing, Part, Reading, Run, Settles, Writing, access_of, read_at, width, written_at}
use Rattle.laws.specs.{Closes, Doing, RegisterWrite, Runs, accesses_in_all, accesses_made, call, closing_write}
use Rattle.process.specs.declared.looks.AccessProgress.{AccessProgress}

-- THE NUMBER OF ACCESSES

-- The progress of the read of a register of `width` bits.
abbrev pub read_progress : ℕ → List Bool → Bool → AccessProgress
read_progress width bits begun = record { made = 2 * length bits + (if begun then 1 else 0); all = 2 * width }

-- The progress of a write.
abbrev pub write_progress : ℕ → RegisterWrite → AccessProgress
write_progress n w = record { made = accesses_made n w; all = accesses_in_all n w }

-- The progress of a settling.
abbrev pub settling_progress : ℕ → copies.Settling → AccessProgress
settling_progress n t = record { made = made_of_settling t.made t.reader t.begun; all = settling_in_all t.made n }

abbrev pub run_progress : Call → Part → Run → AccessProgress
run_progress c part (Reading bits begun) = read_progress (width c.setup (read_at c part).1) bits begun
run_progress c part (Writing w) = write_progress c.setup.processes (record { field = (written_at c part).0; bits = (written_at c part).1; run = w })

abbrev pub closing_progress : Call → Closing → Option AccessProgress
closing_progress c (Settles field bit begun taken inside t) = Some (settling_progress c.setup.processes t)
closing_progress c at = option_map (write_progress c.setup.processes) (closing_write c at)

-- The progress of the register access of a process or of its memory unit. The result is `None` if neither makes one.
abbrev pub progress : Setup → ℕ → Doing → Option AccessProgress
progress s p (Runs command number at) = Some (run_progress (call s p command number) at.part at.run)
progress s p (Closes command number at) = closing_progress (call s p command number) at
progress s p _ = None

-- THE LAST ONE

-- A read made this access last: the begin of the present bit, or the end of the one before it.
abbrev pub last_of_read : ℕ → List Bool → Bool → Option (ℕ × Made)
last_of_read reader bits begun = cond begun
    (Some (length bits, record { reader = reader; how = BeginRead }))
    (cond (length bits == 0) None (Some (length bits - 1, record { reader = reader; how = EndRead (slice_index_or bits (length bits - 1) false) })))

-- A write of n copies of each bit made this access last: one of the present bit, or the end of the one before it.
abbrev pub last_of_write : ℕ → NumberWrite → Option (ℕ × Made)
last_of_write n w = elim w.run as (λ _. Option (ℕ × Made)) [
  | Some run ↦ Some (w.bit, next_write (record { value = run.value; made = run.made - 1; ended = false }))
  | None ↦ cond (w.bit == 0) None (Some (w.bit - 1, record { reader = n - 1; how = EndWrite }))
]

abbrev pub last_of_run : Call → Part → Run → Option Access
last_of_run c part (Reading bits begun) = option_map (access_of (read_at c part).0 (read_at c part).1) (last_of_read c.process bits begun)
last_of_run c part (Writing w) = option_map (access_of c.process (written_at c part).0) (last_of_write c.setup.processes w)

-- The call of a process made this access last within its present register access. It is `None` if the call has made none of it.
abbrev pub last_access : Setup → ℕ → Doing → Option Access
last_access s p (Runs command number at) = last_of_run (call s p command number) at.part at.run
last_access s p _ = None
