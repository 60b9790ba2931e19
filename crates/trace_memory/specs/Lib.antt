pub mod AllowedValues
pub mod Cells
pub mod Keeping
pub mod Opened
pub mod Reads
pub mod Refusals
pub mod Sets
pub mod Shown
pub use AllowedValues.{allowed_by, allowed_of, allows, also, if_few, overlapped, present, values_in}
pub use Cells.{cell_state, has_cell, move_on, moves_on, names_cell, open_write, register_of, same_cell, same_index, state_after, stored, with_move}
pub use Keeping.{HasMade, IsMemory, MemoryState, OfMade, allowed_after, allowed_first, allowed_in, allowed_open, cell_after, ends_kept, first_state, kept_access, kept_open, opened_by, opening_cells, place_in, place_of, seen, state_with}
pub use Opened.{MadeAccess, access_by, ends_move, if_begun, is_end_of, latest_access, number_of, one_later, opened}
pub use Reads.{CellRead, allowed_values, is_among, is_undisturbed, may_give, overlapping, read_ended, read_since, reads_wrongly, values_written, whole_read}
pub use Refusals.{cell_refusal, is_own, open_refusals, setup_refusals}
pub use Sets.{has_value, no_values, set_of, with_bit, with_value}
pub use Shown.{cell_refusal_text}
pub use declared.allowed.Allowed.{Allowed}
pub use declared.cells.CellState.{CellState}
pub use declared.kept.OpenAccess.{OpenAccess}
pub use declared.refusals.CellRefusal.{CellRefusal}
pub use declared.value_set.ValueSet.{ValueSet}
