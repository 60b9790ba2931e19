-- The values of the registers, read from a memory of the setup.
use Rattle.std.proofs.Common.{◌≡◌, ◌<◌, ◌==◌, ℕ, Bool, true, false, List, [], ◌∷◌, get_or, length, refl, ◌∙◌, arith}
use Rattle.std.proofs.lemmas.List.{length-map}
use Rattle.registers.specs.safe_bit.Cell.{Cell}
use Rattle.plain_store.specs.{Setup}
use Rattle.model.specs.{Field, width}
use Rattle.model.specs.safe_number.{number_of_bits}
use Rattle.registers.specs.{AreOf, lane_number, lane_of}
use Rattle.registers.proofs.Openings.{register-lane}
use Rattle.process.specs.{register_held}

-- a register holds as many bits as it is wide
pub held-wide : (s : Setup) (memory : List (List Cell)) (p : ℕ) (field : Field) → AreOf s memory → p < s.processes → length (register_held s memory p field) ≡ width s field
held-wide s memory p field of inside =
    length-map (lane_of memory (lane_number s.processes (record { owner = p; field = field }) 0)) (λ (c : Cell). c.value)
    ∙ (register-lane s memory (record { owner = p; field = field }) of inside).1

-- one bit as a number
pub one-bit : (bits : List Bool) → length bits ≡ 1 → (number_of_bits bits == 1) ≡ get_or bits 0 false
one-bit [] one = absurd (omega (arith, one))
one-bit (true ∷ []) one = refl
one-bit (false ∷ []) one = refl
one-bit (a ∷ b ∷ bits) one = absurd (omega (arith, one))
