-- The newest store read from the memory after a past is the one whose image the record's newest bytes are.
use Rattle.std.proofs.Common.{◌≡◌, ◌<◌, ◌/◌, ◌%◌, ℕ, Bool, false, List, get_or, map, refl, ap, ◌∙◌, arith}
use Rattle.std.specs.List.{range_with_len}
use Rattle.std.specs.Prelude.{Ok}
use Rattle.std.proofs.lemmas.Simd.{map-map}
use Rattle.registers.specs.safe_bit.Cell.{Cell}
use Rattle.plain_store.specs.{Setup, callers_of, checked}
use Rattle.model.specs.{Access, Field, Past, Version, bits_held, bytes_of_bits, cell_after, copy, image_bytes, image_field, newest_bytes, newest_process, stamp_field, version_of, versions_held, width}
use Rattle.model.specs.declared.access.Field.TheVariants.{Commit}
use Rattle.model.specs.Newest as record_newest
use Rattle.model.proofs.Width.{is_good}
use Rattle.model.specs.safe_number.{number_of_bits}
use Rattle.model.proofs.safe_number.Numbers.{range_same}
use Rattle.store_image.specs.{store_in}
use Rattle.laws.specs.{cell_held}
use Rattle.laws.proofs.HeldCells.{held-is}
use Rattle.registers.specs.{RegisterName, field_numbered, lane_number}
use Rattle.registers.proofs.Openings.{lane-field, lane-in}
use Rattle.process.specs.{access_there, memory_with, newest_store, newest_version, register_held, version_in, versions_in}
use Rattle.process.proofs.Memories.{lane-named, with-lane}
use Rattle.process.proofs.NewestSteps.{newest-below}

value : Cell → Bool
value c = c.value

-- the value of a register, by its cells
pub register-with : (cells : Access → Cell) (s : Setup) (p : ℕ) (field : Field) → 0 < s.processes → p < s.processes → register_held s (memory_with cells s) p field ≡ map (λ k. (cells (copy p field 0 k)).value) (range_with_len 0 (width s field))
register-with cells s p field some inside =
    let n : ℕ = s.processes in
    let r : RegisterName = record { owner = p; field = field } in
    let lane : ℕ = lane_number n r 0 in
    let here : ℕ → Cell = λ bit. cells (access_there s lane bit) in
    ap (map (λ (c : Cell). c.value)) (with-lane cells s lane (lane-in n r 0 inside some))
    ∙ map-map (λ (c : Cell). c.value) here (range_with_len 0 (width s (field_numbered (lane / n % 7))))
    ∙ (λ i. map (λ bit. (cells (lane-named s r 0 bit some i)).value) (range_with_len 0 (width s (lane-field n r 0 some i))))

-- a register's bits after a past
values-held : (s : Setup) (past : Past) (p : ℕ) (field : Field) → 0 < s.processes → p < s.processes → register_held s (memory_with (cell_held s past) s) p field ≡ bits_held s past p field 0
values-held s past p field some inside =
    let same : (k : ℕ) → (cell_held s past (copy p field 0 k)).value ≡ (cell_after s past (copy p field 0 k)).value = λ k. ap (λ (c : Cell). c.value) (held-is s past (copy p field 0 k)) in
    register-with (cell_held s past) s p field some inside ∙ (λ i. map (λ k. same k i) (range_with_len 0 (width s field)))

-- the version that a process has committed
version-is : (s : Setup) (past : Past) (p : ℕ) → 0 < s.processes → p < s.processes → version_in s (memory_with (cell_held s past) s) p ≡ record_newest.version_held s past p
version-is s past p some inside =
    let memory : List (List Cell) = memory_with (cell_held s past) s in
    let commit : get_or (register_held s memory p Commit) 0 false ≡ get_or (bits_held s past p Commit 0) 0 false = ap (λ bits. get_or bits 0 false) (values-held s past p Commit some inside) in
    let stamp : (b : Bool) → number_of_bits (register_held s memory p (stamp_field b)) ≡ number_of_bits (bits_held s past p (stamp_field b) 0) = λ b. ap number_of_bits (values-held s past p (stamp_field b) some inside) in
    (λ i. (commit i, (stamp (get_or (register_held s memory p Commit) 0 false) ∙ ap (λ b. number_of_bits (bits_held s past p (stamp_field b) 0)) commit) i))

versions-are : (s : Setup) (past : Past) → 0 < s.processes → versions_in s (memory_with (cell_held s past) s) ≡ versions_held s past
versions-are s past some =
    let none : Version = (false, 0) in
    range_same (record_newest.version_held s past) (version_in s (memory_with (cell_held s past) s)) s.processes none (λ p below. version-is s past p some below)

pub newest-with : (s : Setup) → checked s ≡ Ok tt → (past : Past) → newest_store s (memory_with (cell_held s past) s) ≡ store_in s.slots (callers_of s) (newest_bytes s past)
newest-with s good past =
    let memory : List (List Cell) = memory_with (cell_held s past) s in
    let some : 0 < s.processes = omega (arith, (is_good s good).processes_is) in
    let newest : ℕ = newest_process (versions_in s memory) in
    ap (λ bits. store_in s.slots (callers_of s) (bytes_of_bits (image_bytes s) bits)) (
    values-held s past newest (image_field (version_of (versions_in s memory) newest)) some (newest-below (version_in s memory) s.processes (newest_version (versions_in s memory)) refl some)
    ∙ ap (λ vs. bits_held s past (newest_process vs) (image_field (version_of vs (newest_process vs))) 0) (versions-are s past some))
