use Rattle.clap.specs.Words.{app_of}
use Rattle.command_line.specs.{with_row}
use Rattle.command_line.proofs.Added.{fold_on}
use Rattle.command_line.proofs.program.with_commands.Goals as goal

pub loop-row-preserved : goal.loop-row-preserved
loop-row-preserved c = fold_on with_row (app_of c.args.program) c.args.rows.now c.loop-row.row-index _ (app_of c.loop-row.program) (app_of c.in_ok-program.program) c.loop-row-test.true c.loop-row.invariant c.in_ok-program.ensures.shape
