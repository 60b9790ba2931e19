-- The bytes that the program's writer holds, where they are known.
use Rattle.std.specs.Prelude.{ℕ, List, Option}
use Rattle.std.specs.Io.Buffered.{line_writer_contents, writer_contents}
use Rattle.command_line.specs.declared.terminal.Output.{Output}
use Rattle.command_line.specs.declared.terminal.Output.TheVariants.{Lines, Blocks}
use Rattle.command_line.specs.declared.terminal.UpToFailure.{UpToFailure}

-- the bytes of the writer that may fail
abbrev pub held_by : {W : Type 0} → (W → Option (List ℕ)) → UpToFailure W → Option (List ℕ)
held_by contents w = contents w.writer

-- these bytes, and after them those that wait in the buffer
abbrev pub held_in : {W : Type 0} → (W → Option (List ℕ)) → Output W → Option (List ℕ)
held_in contents (Lines writer) = line_writer_contents (held_by contents) writer
held_in contents (Blocks writer) = writer_contents (held_by contents) writer
