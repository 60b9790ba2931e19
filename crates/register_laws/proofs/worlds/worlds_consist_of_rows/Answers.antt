-- The rows of a world.
use Rattle.std.proofs.Common.{ap}
use Rattle.model.proofs.Width.{is_good}
use Rattle.model.specs.{past_of}
use Rattle.register_laws.specs.WorldRows.{memory_at}
use Rattle.laws.specs.{cell_held}
use Rattle.registers.specs.Rows.{row_of}
use Rattle.registers.proofs.Openings.{setup-fits}
use Rattle.world.proofs.process_proofs.Memories.{with-are}
use Rattle.world.specs.Shows.{WorldState}
use Rattle.register_laws.proofs.WorldChanges.{row-entry, row-shape}
use Rattle.register_laws.proofs.worlds.worlds_consist_of_rows.Goals as goal

pub returns : goal.returns
returns x = record {
  shown = λ w events shows r. ap (λ (v : WorldState). row_of w.setup.processes v.registers r) shows.shown;
  rows = λ s ok events r owner. row-shape s (is_good s ok) (past_of s events) r owner;
  entries = λ s ok events event e is r owner. row-entry s (is_good s ok) events event e is r owner;
  cursors = λ s ok events c of. setup-fits s (memory_at s (past_of s events)) c (with-are (cell_held s (past_of s events)) s) of.owner of.copies of.wide of.copy of.at;
}
