-- A new core shows no events.
use Rattle.std.proofs.Common.{◌≡◌, true, List, [], Ok, map, refl}
use Rattle.plain_store.specs.{Setup, are_pairs, checked}
use Rattle.model.specs.safe_bit.Cell.{Cell}
use Rattle.model.specs.{processes}
use Rattle.process.specs.{cells_opening, memory_with}
use Rattle.world.specs.{CoreState, Seat, seat_of, with_history}
use Rattle.world.specs.Shows.{Shows}

pub new-shows : (s : Setup) → checked s ≡ Ok tt → are_pairs s.opening ≡ true → (registers : List (List Cell)) (seats : List Seat) →
    registers ≡ memory_with (cells_opening s) s → seats ≡ map (seat_of s []) (processes s) →
    Shows (with_history (let c : CoreState = record { setup = s; registers = registers; seats = seats } in c) []) []
new-shows s good given registers seats registers_are seats_are = record {
  good = good;
  given = record { opening = given; commands = refl };
  shown = λ i. with_history (let c : CoreState = record { setup = s; registers = registers_are i; seats = seats_are i } in c) [];
}
