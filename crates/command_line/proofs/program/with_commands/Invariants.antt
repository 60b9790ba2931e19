use Rattle.std.specs.Prelude.{◌≡◌, fold, take}
use Rattle.clap.specs.Words.{app_of}
use Rattle.command_line.specs.{with_row}
use Rattle.command_line.proofs.program.with_commands.Given as goal

-- the program has the commands that the loop has passed
abbrev pub invariant-loop-row : goal.invariant-loop-row
invariant-loop-row l = app_of l.program ≡ fold with_row (app_of l.fn.program) (take l.row-index l.rows)
