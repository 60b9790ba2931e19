use Rattle.std.proofs.Common.{◌∷◌, Some, ap, length, ◌∙◌}
use Rattle.trace.specs.{TraceEntry, TraceSetup, trace_entry}
use Rattle.trace_memory.specs.{CellState, cell_after, moves_on, open_write, place_of}
use Rattle.trace_accesses.specs.{RowsState, change_of, counts_from, row_at, rows_taken, waves_since}
use Rattle.trace_accesses.proofs.RowFacts.{long-taken, rows-taken}
use Rattle.trace_accesses.proofs.making.make.Goals as goal

pub returns-clause-places : goal.returns-clause-places
returns-clause-places c = ap (λ (r : RowsState). length r.places) c.take-2.ensures ∙ long-taken c.counts.result c.args.access.now.cell c.args.rows.now

pub returns-clause-rows : goal.returns-clause-rows
returns-clause-rows c = λ past made is.
    let a = c.args.access.now in
    let counting = c.counts.ensures ∙ ap (λ (k : CellState). counts_from c.args.limit.from c.args.number a.how k.writing) (c.cell-before.ensures past made) in
    c.take-2.ensures ∙ (λ j. rows_taken (counting j) a.cell c.args.rows.now)

pub returns-clause-monitored : goal.returns-clause-monitored
returns-clause-monitored c = λ marks past made is has.
    let a = c.args.access.now in
    let e : TraceEntry = trace_entry c.args.process (Some a) marks in
    let before = c.cell-before.ensures past made in
    let after = c.cell-after.ensures (e ∷ past) (c.take.ensures.made marks past made is) ∙ ap (λ (s : TraceSetup). cell_after s a.cell (e ∷ past)) c.take.ensures.setup in
    let rows = rows-taken c.args.memory.now.setup c.args.rows.now (waves_since c.args.limit.from past) c.requires.good c.requires.places has
    (counts_from c.args.limit.from (length past) a.how (open_write (moves_on a.cell past))) a.cell c.requires.cell in
    let taken = returns-clause-rows c past made is ∙ (λ i. rows_taken (counts_from c.args.limit.from (is i) a.how (open_write (moves_on a.cell past))) a.cell c.args.rows.now) in
    let row = c.row-row.ensures ∙ ap (λ (r : RowsState). row_at r (place_of a.cell)) taken ∙ rows.places a.cell c.requires.cell in
    let change = c.change.ensures ∙ (λ i. change_of c.args.limit.count (row i) a.how (before i) (after i)) in
    λ i. record {
      event = is i;
      process = c.args.process;
      access = a;
      begin = c.begin-since.ensures past made is i;
      stored = (before i).stored;
      overlaps = c.overlaps-over.ensures past made i;
      change = change i;
    }
