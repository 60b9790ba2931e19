use Rattle.std.proofs.Common.{◌≡◌, ℕ, true, false, List, length, ap, ◌∙◌}
use Rattle.reader_copies.specs.safe_bit.Cell.{Cell}
use Rattle.reader_copies.specs.{Made, Writing, next_write, row_after, write_after}
use Rattle.register_tests.specs.{open_row, first_made, second_made, third_made, last_made}
use Rattle.register_tests.proofs.copies.write_last.Goals as goal

-- a write of 1 of which so many accesses are made
abbrev going : ℕ → Writing
going made = record { value = true; made = made; ended = false }

-- what one access makes of the row
stepped : (row row' at : List (List Cell)) (made reported : Made) → row' ≡ row_after row 64 made → row ≡ at → made ≡ reported → row' ≡ row_after at 64 reported
stepped row row' at made reported after here is = after ∙ λ i. row_after (here i) 64 (is i)

-- and of the write
gone_on : (row at : List (List Cell)) (run run' begun : Writing) → run' ≡ write_after (length row) run → row ≡ at → run ≡ begun → run' ≡ write_after (length at) begun
gone_on row at run run' begun after here is = after ∙ λ i. write_after (length (here i)) (is i)

pub returns : goal.returns
returns c =
    let row_1 : List (List Cell) = row_after open_row 64 first_made in
    let row_2 : List (List Cell) = row_after row_1 64 second_made in
    let row_3 : List (List Cell) = row_after row_2 64 third_made in
    let one : c.write_step.new.self ≡ row_1 = stepped c.args.row.now c.write_step.new.self open_row c.write_step.result.0 first_made c.write_step.ensures.row c.requires (c.write_step.ensures.made ∙ ap next_write c.new-run.ensures) in
    let write_1 : c.write_step.new.run ≡ going 1 = gone_on c.args.row.now open_row c.new-run.result c.write_step.new.run (going 0) c.write_step.ensures.run c.requires c.new-run.ensures in
    let two : c.write_step-2.new.self ≡ row_2 = stepped c.write_step.new.self c.write_step-2.new.self row_1 c.write_step-2.result.0 second_made c.write_step-2.ensures.row one (c.write_step-2.ensures.made ∙ ap next_write write_1) in
    let write_2 : c.write_step-2.new.run ≡ going 2 = gone_on c.write_step.new.self row_1 c.write_step.new.run c.write_step-2.new.run (going 1) c.write_step-2.ensures.run one write_1 in
    let three : c.write_step-3.new.self ≡ row_3 = stepped c.write_step-2.new.self c.write_step-3.new.self row_2 c.write_step-3.result.0 third_made c.write_step-3.ensures.row two (c.write_step-3.ensures.made ∙ ap next_write write_2) in
    let write_3 : c.write_step-3.new.run ≡ going 3 = gone_on c.write_step-2.new.self row_2 c.write_step-2.new.run c.write_step-3.new.run (going 2) c.write_step-3.ensures.run two write_2 in
    stepped c.write_step-3.new.self c.write_step-progress.new.self row_3 c.write_step-progress.result.0 last_made c.write_step-progress.ensures.row three (c.write_step-progress.ensures.made ∙ ap next_write write_3)
