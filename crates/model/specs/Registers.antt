-- The registers of all processes: their widths, their opening values, and the accesses of a whole number.
use Rattle.std.specs.Prelude.{ℕ, zero, suc, ◌+◌, ◌*◌, ◌==◌, Bool, false, not, List, [], ◌∷◌, filter, map, slice_index_or, take, drop, replicate}
use Rattle.std.specs.List.{range_with_len}
use Rattle.model.specs.declared.access.Access.{Access}
use Rattle.model.specs.declared.access.Field.{Field}
use Rattle.model.specs.declared.access.Field.TheVariants.{Choosing, Ticket, Commit, Stamp0, Stamp1, Image0, Image1}
use Rattle.safe_number.specs.{bits_in, number_of_bits, number_reads, number_writes}
use Rattle.model.specs.Accesses.{access_of}
use Rattle.plain_store.specs.{Setup, callers_of, opening_store}
use Rattle.store_image.specs.{image_of}

-- all processes, ascending
abbrev pub processes : Setup → List ℕ
processes s = range_with_len 0 s.processes

-- all processes except p, ascending
abbrev pub others : Setup → ℕ → List ℕ
others s p = filter (λ j. not (j == p)) (processes s)

-- the bytes of an image: 23 a slot, and 2 a caller
abbrev pub image_bytes : Setup → ℕ
image_bytes s = 23 * s.slots + 2 * callers_of s

-- the bits of a register
abbrev pub width : Setup → Field → ℕ
width s Choosing = 1
width s Ticket = s.ticket_bits
width s Commit = 1
width s Stamp0 = s.stamp_bits
width s Stamp1 = s.stamp_bits
width s Image0 = 8 * image_bytes s
width s Image1 = 8 * image_bytes s

-- the first k bytes that bits make, of each byte the least significant bit first
abbrev pub bytes_of_bits : ℕ → List Bool → List ℕ
bytes_of_bits zero bits = []
bytes_of_bits (suc k) bits = number_of_bits (take 8 bits) ∷ bytes_of_bits k (drop 8 bits)

-- the opening bits of a register: the first image of process 0 opens at the image of the opening store, each other register at 0
abbrev pub opening_bits : Setup → ℕ → Field → List Bool
opening_bits s zero Image0 = bits_in (image_of (opening_store s)) (width s Image0)
opening_bits s owner field = []

-- the opening value of the bit of an access
abbrev pub opening_bit : Setup → Access → Bool
opening_bit s a = slice_index_or (opening_bits s a.owner a.field) a.bit false

-- the accesses with which p writes bits to a register of its own: to each bit all copies
abbrev pub write_of : Setup → ℕ → Field → List Bool → List Access
write_of s p field bits = map (access_of p field) (number_writes s.processes bits)

-- the accesses with which p reads a register; the bits with which they end are left open here, as false
abbrev pub read_of : Setup → ℕ → ℕ → Field → List Access
read_of s p owner field = map (access_of owner field) (number_reads p (replicate (width s field) false))
