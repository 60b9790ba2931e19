-- What a drawing has drawn.
use Rattle.std.specs.Prelude.{◌≡◌, ◌+◌, ◌||◌, ℕ, Bool, is_some, List, ◌∷◌, length, Option, None, Some}
use Rattle.model.specs.plain_store.{Setup}
use Rattle.picture.specs.declared.reads.Reads.{Reads as Mode}
use Rattle.picture.specs.declared.reads.Reads.TheVariants.{All}
use Rattle.model.specs.{Past}
use Rattle.record_accesses.specs.{HasMonitored, MonitorState, WaveLimit}
use Rattle.draw.specs.Canvases.{DrawsOn, Kept, kept}
use Rattle.draw.specs.Items.{Part, entries_among, given_last, given_of, marks_back, reads_since}
use Rattle.draw.specs.Overlaps.{ObservesAll}
use Rattle.draw.specs.StoreChanges.{store_words}
use Rattle.draw.specs.StoresBefore.{IsStoreBefore, store_before}
use Rattle.draw.specs.TakenStores.{IsAfterMarks}
use Rattle.draw.specs.declared.drawing.Drawing.{Drawing}
use Rattle.draw.specs.declared.views.AccessView.{AccessView}

-- the accesses of these entries were observed, if all accesses are shown
abbrev pub MonitorsAccesses : Mode → WaveLimit → Setup → Past → Option MonitorState → Type 0
MonitorsAccesses All limit s past (Some monitor) = HasMonitored monitor s limit past
MonitorsAccesses All limit s past None = ⊥
MonitorsAccesses _ limit s past (Some monitor) = ⊥
MonitorsAccesses _ limit s past None = Unit {0}

-- A drawing comes after these parts: it counts their entries, its store is the one after their marks, the overlapped reads that wait are those since the last line, it has observed the accesses of the entries, if it shows all, and it keeps the store before its window.
pub record Recalls (view : AccessView) (s : Setup) (parts : List Part) (d : Drawing) : Type 0 where
  pub entries : d.entries ≡ length (entries_among parts)
  pub store : IsAfterMarks s (marks_back (entries_among parts)) d.store
  pub waits : ObservesAll view.reads s (entries_among parts) (reads_since s parts) d.canvas.overlaps
  pub accesses : MonitorsAccesses view.reads view.limit s (entries_among parts) d.accesses
  pub before : IsStoreBefore view.window s (entries_among parts) d.before

-- These are the words of the store before the window, whatever parts were drawn.
abbrev pub HasOpening : Drawing → List ℕ → Type 0
HasOpening d words = (view : AccessView) (s : Setup) (parts : List Part) → Recalls view s parts d → words ≡ store_words (store_before view.window s (entries_among parts))

-- each access is observed, since overlapped reads are shown, or all accesses
abbrev pub observes : Drawing → Bool
observes d = is_some d.canvas.overlaps || is_some d.accesses

-- The drawing `had` came after these parts. One part more was drawn, and `has` comes after it.
abbrev pub DrawsPart : AccessView → Setup → List Part → Part → (had has : Drawing) (old new : Option (List ℕ)) → Type 0
DrawsPart view s parts part had has old new = DrawsOn (kept had.canvas) (kept has.canvas) old new (given_of view s had.source parts part) × Recalls view s (part ∷ parts) has

-- Since a drawing came after `start`, where a page kept so much and so much was written, all parts up to `now` were drawn.
pub record HasDrawn (view : AccessView) (s : Setup) (start : List Part) (had : Kept) (old : Option (List ℕ)) (now : List Part) (d : Drawing) (new : Option (List ℕ)) : Type 0 where
  pub recalls : Recalls view s now d
  pub more : ℕ
  pub long : length now ≡ more + length start
  pub draws : DrawsOn had (kept d.canvas) old new (given_last view s d.source more now)
