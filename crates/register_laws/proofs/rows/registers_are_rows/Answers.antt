-- A step of a cursor is a step on the row of its register.
use Rattle.std.proofs.Common.{refl, arith}
use Rattle.register_laws.proofs.RowMoves.{row-dropped, row-stays}
use Rattle.register_laws.proofs.RowRuns.{read-runs, write-runs}
use Rattle.register_laws.proofs.RowSteps.{reads, settles, settlings-begin, step-others, step-row, writes}
use Rattle.register_laws.proofs.rows.registers_are_rows.Goals as goal

pub returns : goal.returns
returns x = record {
  step = step-row;
  step_others = step-others;
  drop = λ memory copies wide register reader h inside. row-dropped copies memory register reader inside (omega (arith, h.lanes));
  drop_others = λ memory copies register other reader inside differ. row-stays copies memory register other reader _ inside differ;
  writes = writes;
  reads = reads;
  settles = settles;
  write_runs = write-runs;
  read_runs = read-runs;
  writes_begin = λ s register value. record { run = refl; bits = refl; progress = refl };
  reads_begin = λ s register reader room. record { run = refl; width = refl; bits = refl; begun = refl; bit = refl };
  settlings_begin = settlings-begin;
}
