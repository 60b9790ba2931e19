use Rattle.plain_store.proofs.Changes.{changes_differs}
use Rattle.plain_store.proofs.outcomes.changes_are_reported_by_pairs.Goals as goal

pub returns : goal.returns
returns x = λ s command caller. changes_differs s command
