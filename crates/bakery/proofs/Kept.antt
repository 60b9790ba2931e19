-- The registers of a setup remain those of the setup.
use Rattle.std.proofs.Common.{◌≡◌, ℕ, ◌<◌, List, [], length, set, None, Some, Option, ap, ◌∙◌, arith, inl, inr}
use Rattle.std.proofs.lemmas.Bool.{cases_eq}
use Rattle.std.proofs.lemmas.List.{get_or-set_other, length-map, length-set}
use Rattle.process.specs.registers.safe_bit.Cell.{Cell, without_read}
use Rattle.plain_store.specs.{Setup}
use Rattle.model.specs.{Field}
use Rattle.process.specs.laws.{reads_of}
use Rattle.process.specs.registers.{AreOf, lane_number, lane_of, without_reads}
use Rattle.process.proofs.registers_proofs.Steps.{length-lane}
use Rattle.process.specs.{ProcessState, dropped}

-- a changed lane of its old length leaves the registers those of the setup
kept : (s : Setup) (memory : List (List Cell)) (at : ℕ) (new : List Cell) → length new ≡ length (lane_of memory at) → AreOf s memory → AreOf s (set memory at new)
kept s memory at new same are = record {
  lanes = length-set memory at new ∙ are.lanes;
  widths = λ lane below.
      let inside : lane < length memory = omega (arith, length-set memory at new, below) in
      elim (cases_eq lane at) [
        | inl here ↦ length-lane memory at lane new same (omega (arith, here, inside)) ∙ are.widths lane inside
        | inr other ↦ ap length (get_or-set_other memory at lane new [] other) ∙ are.widths lane inside
      ];
}

-- a dropped read too
kept-without : (s : Setup) (memory : List (List Cell)) (lane : ℕ) → AreOf s memory → AreOf s (without_reads memory lane)
kept-without s memory lane are = kept s memory lane _ (length-map (lane_of memory lane) without_read) are

pub kept-dropped : (s : Setup) (now : ProcessState) (memory : List (List Cell)) → AreOf s memory → AreOf s (dropped now memory)
kept-dropped s now memory are = by (reads_of now.setup now.process now.doing)
  where
    by : (register : Option (ℕ × Field)) → AreOf s (elim register as (λ _. List (List Cell)) [
      | None ↦ memory
      | Some r ↦ without_reads memory (lane_number now.setup.processes (record { owner = r.0; field = r.1 }) now.process)
    ])
    by None = are
    by (Some r) = kept-without s memory (lane_number now.setup.processes (record { owner = r.0; field = r.1 }) now.process) are
