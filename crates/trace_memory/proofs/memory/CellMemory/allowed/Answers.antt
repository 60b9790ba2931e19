use Rattle.std.proofs.Common.{sym, ap, ◌∙◌}
use Rattle.std.specs.Option.{option_to_list}
use Rattle.trace_memory.specs.{allowed_of, cell_after}
use Rattle.trace_memory.proofs.ReadValues.{kept_or_first, read-kept}
use Rattle.trace_memory.proofs.memory.CellMemory.allowed.Goals as goal

pub returns-in-Some : goal.returns-in-Some
returns-in-Some c = λ idle past made h.
    let s = c.args.self.now.setup in
    ap (kept_or_first s (cell_after s c.args.access.now.cell past)) (sym c.in-Some.is ∙ c.allowed_open.ensures past made)
    ∙ read-kept s past c.args.process idle c.args.access.now h

pub returns-in-None : goal.returns-in-None
returns-in-None c = λ idle past made h.
    let s = c.args.self.now.setup in
    c.begin.ensures
    ∙ (λ i. allowed_of (c.memory.ensures i) (c.cell.ensures past made i).stored (option_to_list (c.cell.ensures past made i).writing))
    ∙ ap (kept_or_first s (cell_after s c.args.access.now.cell past)) (sym c.in-None.is ∙ c.allowed_open.ensures past made)
    ∙ read-kept s past c.args.process idle c.args.access.now h
