use Rattle.std.proofs.Common.{ap, not, sym, ◌∙◌, true≢false}
use Rattle.board.proofs.Orders.{found_at, found_more, not_found}
use Rattle.board.proofs.order.are_of_all.Goals as goal

pub returns-then-is_none : goal.returns-then-is_none
returns-then-is_none c = (
  λ no. absurd (true≢false (sym no)),
  λ all.
      let here = all.each c.loop-process.process c.loop-process-test.true in
      absurd (not_found c.args.ports.now.items c.loop-process.process c.place_of.result c.place_of.ensures.none (c.is_none.ensures ∙ ap not c.if-is_none.true) here.0 here.1),
)

pub loop-process-preserved : goal.loop-process-preserved
loop-process-preserved c = found_more c.args.ports.now.items c.loop-process.process c.loop-process.invariant
    (found_at c.args.ports.now.items c.loop-process.process c.place_of.result c.place_of.ensures.found (c.is_none.ensures ∙ ap not c.if-is_none.false))
