-- The writer of a bit owns it.
use Rattle.std.proofs.Common.{sym, ◌∙◌}
use Rattle.model.specs.{past_of, process_of}
use Rattle.model.proofs.Singles.{is_of_write-true}
use Rattle.model.proofs.Width.{is_good}
use Rattle.model.proofs.World.{entry-accepted, entry_view, view}
use Rattle.model.proofs.Writer.{added-own, one_writer}
use Rattle.model.proofs.laws.single_writer.Goals as goal

pub returns : goal.returns
returns x s h events event e is a k w =
    let g = is_good s h in
    let past = past_of s events in
    let acc = entry-accepted s past event e is in
    let own = (entry_view s g past event e acc.1 (view s g events (process_of event)) acc.2).0 in
    added-own s g past event e acc.1 (view s g events (process_of event)) (one_writer s g events (process_of event)) acc.2 a k (is_of_write-true a.how w) ∙ sym own
