-- A write of one bit of a row, beside whatever is done with the others.
use Rattle.std.proofs.Common.{◌≡◌, ℕ, List, ◌∙◌}
use Rattle.reader_copies.specs.safe_bit.Cell.{Cell, cell_after}
use Rattle.reader_copies.specs.{Made, cell_at, row_after}
use Rattle.reader_copies.proofs.Writing.{with_cell-other}
use Rattle.register_tests.specs.{OthersStay, first_made, second_made, third_made, last_made}

-- an access to bit 64 leaves the copies of another bit
leaves : (row : List (List Cell)) (made : Made) (bit reader : ℕ) → (bit ≡ 64 → ⊥) → cell_at (row_after row 64 made) bit reader ≡ cell_at row bit reader
leaves row made bit reader apart = with_cell-other row 64 made.reader (cell_after (cell_at row 64 made.reader) made.how) bit reader (λ same at. apart same)

pub others_stay : OthersStay
others_stay row bit reader apart =
    let one : List (List Cell) = row_after row 64 first_made in
    let two : List (List Cell) = row_after one 64 second_made in
    let three : List (List Cell) = row_after two 64 third_made in
    leaves three last_made bit reader apart ∙ leaves two third_made bit reader apart ∙ leaves one second_made bit reader apart ∙ leaves row first_made bit reader apart
