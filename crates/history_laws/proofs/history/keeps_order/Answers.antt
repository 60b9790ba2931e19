-- Places are in the order of spans.
use Rattle.history_laws.proofs.MainTheorems.{keeps_order}
use Rattle.history_laws.proofs.history.keeps_order.Goals as goal

pub returns : goal.returns
returns x = keeps_order
