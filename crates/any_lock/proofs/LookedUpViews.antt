-- The kept state of a process, looked up by its number.
use Rattle.std.proofs.Common.{◌≡◌, ℕ, ◌<◌, get_or, length, option_map, slice_get, ap, subst, ◌∙◌}
use Rattle.model.specs.{Past}
use Rattle.lock_stages.specs.{HavePassages}
use Rattle.any_lock.specs.{LockRunState, Knows, ProcessView, passage_in, process_view}
use Rattle.any_lock.proofs.Unmarked.{given_at}

pub view_looked_up : (k now : LockRunState) (past : Past) (i p : ℕ) (x : ProcessView) → k ≡ now → i ≡ p → p < now.setup.processes → x ≡ get_or k.process_views i x → Knows now past →
    x ≡ process_view now.setup p past
view_looked_up k now past i p x is same below read knows =
    read ∙ given_at k.process_views i x (process_view now.setup p past) ((λ j. slice_get (is j).process_views (same j)) ∙ knows.process_views p below)

-- the passages of the kept states are those of the past
pub passages_known : (k : LockRunState) (past : Past) → length k.process_views ≡ k.setup.processes → Knows k past → HavePassages (λ (x : ProcessView). x.passage) k.process_views (passage_in past)
passages_known k past size knows q below = ap (option_map (λ (x : ProcessView). x.passage)) (knows.process_views q (subst (λ n. q < n) size below))
