use Rattle.std.proofs.Common.{◌≡◌, ℕ, ◌<◌, ◌%◌, [], false, length, slice_index_or}
use Rattle.model.specs.safe_number.{bit_in}
use Rattle.safe_monitor.specs.{monitored_after}
use Rattle.safe_monitor.proofs.monitor.open_copies.Given as goal

-- the copies before the present one open as in the bytes
abbrev pub invariant-loop-k : goal.invariant-loop-k
invariant-loop-k l = (length l.monitored_bits ≡ length l.fn.monitored_bits) × ((j : ℕ) → j < l.k → slice_index_or l.monitored_bits j (monitored_after false []) ≡ monitored_after (bit_in l.bytes (j % l.width)) [])
