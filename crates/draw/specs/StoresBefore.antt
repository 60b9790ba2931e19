-- The one-thread store before the entries of a window.
use Rattle.std.specs.Prelude.{◌≡◌, ◌≤◌, ℕ, Bool, true, false, nat_lt, List, [], ◌∷◌, length}
use Rattle.model.specs.plain_store.{Contents, Setup}
use Rattle.model.specs.{Past}
use Rattle.picture.specs.{Window}
use Rattle.draw.specs.Items.{marks_back}
use Rattle.draw.specs.StoreChanges.{store_words}
use Rattle.draw.specs.TakenStores.{store_by}
use Rattle.draw.specs.declared.store_before.StoreBefore.{StoreBefore}

-- the first entries, as many as come before a window that begins with this number
abbrev pub entries_before : ℕ → Past → Past
entries_before from [] = []
entries_before from (e ∷ past) = elim (nat_lt (length past) from) [ true ↦ e ∷ past | false ↦ entries_before from past ]

-- The store before the entries of a window: after all entries, if they all come before it.
abbrev pub store_before : Window → Setup → Past → Contents
store_before w s past = store_by s (marks_back (entries_before w.from past))

-- The words of this store are kept once all entries before the window are drawn. Until then, all marks so far come before it.
abbrev pub KeepsStore : Window → Setup → Past → Bool → List ℕ → Type 0
KeepsStore w s past true words = (w.from ≤ length past) × (words ≡ store_words (store_before w s past))
KeepsStore w s past false words = marks_back (entries_before w.from past) ≡ marks_back past

-- after these entries
pub record IsStoreBefore (w : Window) (s : Setup) (past : Past) (b : StoreBefore) : Type 0 where
  pub from : b.from ≡ w.from
  pub keeps : KeepsStore w s past b.is_kept b.words.items
