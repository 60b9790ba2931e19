use Rattle.std.proofs.Common.{cond, length, sym, ap, ◌∙◌}
use Rattle.std.specs.Option.{option_map_or}
use Rattle.trace_memory.specs.{number_of, opened}
use Rattle.trace_accesses.specs.{kept_begin}
use Rattle.trace_accesses.proofs.KeptAccesses.{begin-kept}
use Rattle.trace_accesses.proofs.overlaps.begin.Goals as goal

pub returns-then-ends : goal.returns-then-ends
returns-then-ends c = λ past made is.
    let n = c.args.number in
    let p = c.args.process in
    c.kept_begin.ensures
    ∙ ap (kept_begin n) (c.opened-opened.ensures past made)
    ∙ begin-kept c.args.memory.now.setup n p past
    ∙ ap (option_map_or number_of (opened p past)) is
    ∙ ap (λ b. cond b (option_map_or number_of (opened p past) (length past)) (length past)) (sym c.if-ends.true ∙ c.ends.ensures)
