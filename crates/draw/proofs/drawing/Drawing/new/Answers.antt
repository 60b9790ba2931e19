use Rattle.std.proofs.Common.{refl}
use Rattle.draw.proofs.StoresBefore.{first_before}
use Rattle.draw.proofs.drawing.Drawing.new.Goals as goal

pub returns-clause-recalls : goal.returns-clause-recalls
returns-clause-recalls c = record { entries = refl; store = c.in_ok-store.ensures; waits = c.in_ok-canvas.ensures.observes; accesses = c.in_ok-accesses.ensures; before = first_before c.args.view.window c.args.setup.now c.new-before.result c.new-before.ensures.from c.new-before.ensures.kept }

pub returns-clause-first : goal.returns-clause-first
returns-clause-first c = c.in_ok-canvas.ensures.kept c.in_ok-store.ensures
