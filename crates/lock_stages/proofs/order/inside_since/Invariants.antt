use Rattle.std.proofs.Common.{◌≡◌, ℕ, ◌<◌, None, get_or, length}
use Rattle.lock_stages.specs.{HavePassages, Passage, inside_since}
use Rattle.lock_stages.proofs.order.inside_since.Given as goal

-- those below the present one are given
abbrev pub invariant-loop-other : goal.invariant-loop-other
invariant-loop-other g l = record {
  size : length l.entries ≡ 16;
  given : (passage : ℕ → Passage) → HavePassages g.S.HasPassage.passage_of l.states passage → (q : ℕ) → q < l.other → get_or l.entries q None ≡ inside_since passage l.processes l.process q;
}
