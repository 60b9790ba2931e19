use Rattle.std.proofs.Common.{◌≡◌, ℕ, None}
use Rattle.lock_stages.specs.{HavePassages, Passage, is_other_inside, lowest_below}
use Rattle.lock_stages.proofs.order.other_inside.Given as goal

-- none below the present one
abbrev pub invariant-loop-other : goal.invariant-loop-other
invariant-loop-other g l = (passage : ℕ → Passage) → HavePassages g.S.HasPassage.passage_of l.states passage → lowest_below l.other (is_other_inside passage l.process) ≡ None
