-- The store that the registers hold.
use Rattle.std.specs.Prelude.{ℕ, Bool, false, List, map, slice_index_or, cond, Option, None, Some}
use Rattle.std.specs.List.{range_with_len, list_any}
use Rattle.safe_bit.specs.Cell.{Cell, cell_of}
use Rattle.safe_bit.specs.declared.Move.TheVariants.{BeginRead}
use Rattle.model.specs.declared.access.Access.{Access}
use Rattle.model.specs.declared.access.Field.{Field}
use Rattle.model.specs.declared.access.Field.TheVariants.{Commit}
use Rattle.safe_number.specs.{number_of_bits}
use Rattle.plain_store.specs.{Setup}
use Rattle.store_image.specs.{image_of}
use Rattle.model.specs.Entries.{Past}
use Rattle.model.specs.Histories.{history, store_after}
use Rattle.model.specs.Moves.{moves_of}
use Rattle.model.specs.Program.{Version, newest_process, version_of, stamp_field, image_field}
use Rattle.model.specs.Registers.{processes, width, image_bytes, bytes_of_bits, opening_bit}
use Rattle.model.specs.Stages.{inside}

-- a reader's copy of bit k of a register, as an access names it
abbrev pub copy : ℕ → Field → ℕ → ℕ → Access
copy owner field reader k = record { owner = owner; field = field; bit = k; reader = reader; how = BeginRead }

-- the cell of the bit of an access
abbrev pub cell_after : Setup → Past → Access → Cell
cell_after s past a = cell_of (opening_bit s a) (moves_of a past)

-- the bits of a reader's copy of a register
abbrev pub bits_held : Setup → Past → ℕ → Field → ℕ → List Bool
bits_held s past owner field reader = map (λ k. (cell_after s past (copy owner field reader k)).value) (range_with_len 0 (width s field))

-- the version that k has committed, by the copies of reader 0
abbrev pub version_held : Setup → Past → ℕ → Version
version_held s past k =
    let commit = slice_index_or (bits_held s past k Commit 0) 0 false in
    (commit, number_of_bits (bits_held s past k (stamp_field commit) 0))

-- the versions of all processes
abbrev pub versions_held : Setup → Past → List Version
versions_held s past = map (version_held s past) (processes s)

-- the bytes of the committed image with the greatest stamp, of the lowest process on a tie
abbrev pub newest_bytes : Setup → Past → List ℕ
newest_bytes s past =
    let versions = versions_held s past in
    let newest = newest_process versions in
    bytes_of_bits (image_bytes s) (bits_held s past newest (image_field (version_of versions newest)) 0)

-- a process is inside
abbrev pub is_somebody_inside : Setup → Past → Bool
is_somebody_inside s past = list_any (λ p. inside p past) (processes s)

-- the image of the store after the history, while no process is inside
abbrev pub newest : Setup → Past → Option (List ℕ)
newest s past = cond (is_somebody_inside s past) None (Some (image_of (store_after s (history s past))))
