use Rattle.std.proofs.Common.{◌≡◌, ◌-◌, ◌/◌, ◌%◌, sym, ◌∙◌, arith}
use Rattle.model.specs.{fields}
use Rattle.board.specs.{bit_in_row, copy_of, row_bits}
use Rattle.board.proofs.Seats.{some_processes}
use Rattle.board.proofs.WordNumbers.{at_place, bit_there}
use Rattle.board.proofs.words.copy_of.Goals as goal

pub overflow_cast-result : goal.overflow_cast-result
overflow_cast-result c =
    let s = c.args.setup.now in
    let there = bit_there s c.args.word (some_processes s c.requires.good) c.requires.word in
    let is : c.args.word / c.row_bits-row.result / c.from-processes.result ≡ (copy_of s c.args.word).register.owner = λ i. c.args.word / c.row_bits-row.ensures.row i / c.from-processes.ensures i in
    record { fits = omega (arith, is, there.owner) }

pub returns : goal.returns
returns c =
    let s = c.args.setup.now in
    let word = c.args.word in
    let field = c.field_at-field.result in
    let row = c.row_bits-row.ensures.row in
    let processes = c.from-processes.ensures in
    let place = word % c.row_bits-row.result in
    let at : (field, place - c.first_bit.result) ≡ bit_in_row s fields (word % row_bits s) =
    (λ i. (field, place - c.first_bit.ensures.first i)) ∙ sym (at_place s field place c.field_at-field.ensures.from c.field_at-field.ensures.within) ∙ (λ i. bit_in_row s fields (word % row i)) in
    record { copy = λ i. record { register = record { owner = word / row i / processes i; field = (at i).0 }; bit = (at i).1; reader = word / row i % processes i } }
