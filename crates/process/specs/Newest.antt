-- The committed store with the greatest stamp, read from reader 0's copies in the memory.
use Rattle.std.specs.Prelude.{◌≡◌, ℕ, Bool, false, List, [], ◌∷◌, ◌++◌, length, map, slice_index_or}
use Rattle.registers.specs.safe_bit.Cell.{Cell}
use Rattle.plain_store.specs.{Contents, Setup, callers_of}
use Rattle.model.specs.{Field, Version, bytes_of_bits, image_bytes, image_field, newest_process, newest_stamp, processes, stamp_field, version_of}
use Rattle.model.specs.declared.access.Field.TheVariants.{Commit}
use Rattle.model.specs.safe_number.{number_of_bits}
use Rattle.store_image.specs.{store_in}
use Rattle.registers.specs.{values_held}
use Rattle.process.specs.declared.newest_version.NewestVersion.{NewestVersion}

-- The newest of the versions of processes 0, 1 and so on: the greatest stamp, the lowest process with it, and the commit bit of this process.
abbrev pub newest_version : List Version → NewestVersion
newest_version versions =
    let newest = newest_process versions in
    record { stamp = newest_stamp versions; process = newest; commit = version_of versions newest }

-- `then` is the newest version after the version of the next process is added to those of which `newest` is the newest.
abbrev pub IsNewestWith : NewestVersion → ℕ → Version → NewestVersion → Type 0
IsNewestWith newest process version then =
    (versions : List Version) → length versions ≡ process → newest ≡ newest_version versions → then ≡ newest_version (versions ++ version ∷ [])

-- the bits that a register of a process holds
abbrev pub register_held : Setup → List (List Cell) → ℕ → Field → List Bool
register_held s memory p field = values_held s.processes memory (record { owner = p; field = field })

-- the version that a process has committed: its commit bit, and the stamp that this bit chooses
abbrev pub version_in : Setup → List (List Cell) → ℕ → Version
version_in s memory p =
    let commit = slice_index_or (register_held s memory p Commit) 0 false in
    (commit, number_of_bits (register_held s memory p (stamp_field commit)))

-- the committed versions of all processes
abbrev pub versions_in : Setup → List (List Cell) → List Version
versions_in s memory = map (version_in s memory) (processes s)

-- the bits of the committed image with the greatest stamp, of the lowest process on a tie
abbrev pub newest_bits : Setup → List (List Cell) → List Bool
newest_bits s memory =
    let versions = versions_in s memory in
    let newest = newest_process versions in
    register_held s memory newest (image_field (version_of versions newest))

-- the store whose image these bits are, or the empty store if they are not an image
abbrev pub newest_store : Setup → List (List Cell) → Contents
newest_store s memory = store_in s.slots (callers_of s) (bytes_of_bits (image_bytes s) (newest_bits s memory))
