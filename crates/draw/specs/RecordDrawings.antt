-- The parts that a drawing of a record has drawn.
use Rattle.std.specs.Prelude.{ℕ, List, ◌∷◌, Option}
use Rattle.model.specs.plain_store.{Setup}
use Rattle.model.specs.{Entry}
use Rattle.draw.specs.Drawings.{DrawsPart, Recalls}
use Rattle.draw.specs.Items.{Part, PartEntry, entries_among}
use Rattle.draw.specs.Overlaps.{Monitors}
use Rattle.draw.specs.declared.records.drawing.RecordDrawing.{RecordDrawing}
use Rattle.draw.specs.declared.views.AccessView.{AccessView}

-- The drawing of a record and its monitor come after these parts.
pub record RecordRecalls (view : AccessView) (s : Setup) (parts : List Part) (d : RecordDrawing) : Type 0 where
  pub drawing : Recalls view s parts d.drawing
  pub monitors : Monitors view.reads s (entries_among parts) d.monitor.monitor

-- One more entry was drawn, whatever parts came before it.
abbrev pub DrawsEntry : (had has : RecordDrawing) (old new : Option (List ℕ)) → Entry → Type 0
DrawsEntry had has old new e =
    (view : AccessView) (s : Setup) (parts : List Part) → RecordRecalls view s parts had →
    DrawsPart view s parts (PartEntry e) had.drawing has.drawing old new × Monitors view.reads s (e ∷ entries_among parts) has.monitor.monitor
