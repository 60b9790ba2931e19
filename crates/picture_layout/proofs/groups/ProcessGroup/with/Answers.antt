use Rattle.picture_layout.proofs.Lines.{group_with}
use Rattle.picture_layout.proofs.groups.ProcessGroup.with.Goals as goal

pub returns : goal.returns
returns c = λ some is. group_with some c.args.process c.args.self.now _ _ is c.saturating_add.ensures c.with_at.ensures
