use Rattle.std.proofs.Common.{◌≡◌, ◌<◌, ◌∙◌, ℕ, List, Bool, ap, sym, subst, arith}
use Rattle.reader_copies.specs.safe_bit.Cell.{Cell}
use Rattle.reader_copies.specs.{IsRow, IsWritten, cut_values, with_value}
use Rattle.safe_number.specs.{IsWriting, NumberWrite, bit_in, new_write}
use Rattle.safe_number.proofs.IntervalSteps.{cut-between, settling-start, torn-inside}
use Rattle.safe_number.proofs.WrittenSteps.{writing-start}
use Rattle.register_drive.proofs.torn.cut_and_settle.Goals as goal

-- a new write, with its cursor at the start
begun : (row : List (List Cell)) (old : ℕ → Bool) (value : List ℕ) (width : ℕ) (w : NumberWrite) → w ≡ new_write width → IsRow row width → IsWritten row old → IsWriting row old value w
begun row old value width w e shape written = let P : NumberWrite → Type 0 = λ x. IsWriting row old value x in subst P (sym e) (writing-start row old value width shape written)

shape_of : (row : List (List Cell)) (old : ℕ → Bool) (value : List ℕ) (width : ℕ) (w : NumberWrite) → w.width ≡ width → IsWriting row old value w → IsRow row width
shape_of row old value width w e is = let P : ℕ → Type 0 = λ x. IsRow row x in subst P e is.shape

pub settle_all-requires-clause-shape : goal.settle_all-requires-clause-shape
settle_all-requires-clause-shape c =
    shape_of c.write_some.new.register c.requires.written.0 c.args.value.now c.args.width c.write_some.new.run (c.write_some.ensures.width ∙ ap (λ (x : NumberWrite). x.width) c.new-run.ensures)
    (c.write_some.ensures.writing c.requires.written.0 (begun c.args.register.now c.requires.written.0 c.args.value.now c.args.width c.new-run.result c.new-run.ensures c.requires.shape c.requires.written.1))

pub settle_all-requires-clause-inside : goal.settle_all-requires-clause-inside
settle_all-requires-clause-inside c =
    let same_width : c.write_some.new.run.width ≡ c.args.width = c.write_some.ensures.width ∙ ap (λ (x : NumberWrite). x.width) c.new-run.ensures in
    let inside : c.in-Some.cut.0 < c.write_some.new.run.width = torn-inside c.write_some.new.register c.requires.written.0 c.args.value.now c.write_some.new.run c.in-Some.cut.0 c.in-Some.cut.1
    (c.write_some.ensures.writing c.requires.written.0 (begun c.args.register.now c.requires.written.0 c.args.value.now c.args.width c.new-run.result c.new-run.ensures c.requires.shape c.requires.written.1)) (sym c.torn.ensures ∙ c.in-Some.is) in
    omega arith

pub settle_all-requires-clause-settling : goal.settle_all-requires-clause-settling
settle_all-requires-clause-settling c = (
  cut_values c.requires.written.0 (bit_in c.args.value.now) c.in-Some.cut.0,
  settling-start c.write_some.new.register c.requires.written.0 c.args.value.now c.write_some.new.run c.in-Some.cut.0 c.in-Some.cut.1
      (c.write_some.ensures.writing c.requires.written.0 (begun c.args.register.now c.requires.written.0 c.args.value.now c.args.width c.new-run.result c.new-run.ensures c.requires.shape c.requires.written.1)) (sym c.torn.ensures ∙ c.in-Some.is),
)

pub returns-in-None-clause-shape : goal.returns-in-None-clause-shape
returns-in-None-clause-shape c =
    shape_of c.write_some.new.register c.requires.written.0 c.args.value.now c.args.width c.write_some.new.run (c.write_some.ensures.width ∙ ap (λ (x : NumberWrite). x.width) c.new-run.ensures)
    (c.write_some.ensures.writing c.requires.written.0 (begun c.args.register.now c.requires.written.0 c.args.value.now c.args.width c.new-run.result c.new-run.ensures c.requires.shape c.requires.written.1))

pub returns-in-None-clause-written : goal.returns-in-None-clause-written
returns-in-None-clause-written c = (
  cut_values c.requires.written.0 (bit_in c.args.value.now) c.write_some.new.run.bit,
  cut-between c.write_some.new.register c.requires.written.0 c.args.value.now c.write_some.new.run
      (c.write_some.ensures.writing c.requires.written.0 (begun c.args.register.now c.requires.written.0 c.args.value.now c.args.width c.new-run.result c.new-run.ensures c.requires.shape c.requires.written.1)) (sym c.torn.ensures ∙ c.in-None.is),
)

pub returns-in_ok-taken-in-Some-clause-written : goal.returns-in_ok-taken-in-Some-clause-written
returns-in_ok-taken-in-Some-clause-written c = (
  with_value (cut_values c.requires.written.0 (bit_in c.args.value.now) c.in-Some.cut.0) c.in-Some.cut.0 c.args.settled,
  c.in_ok-taken-in-Some.ensures.written (cut_values c.requires.written.0 (bit_in c.args.value.now) c.in-Some.cut.0)
      (settling-start c.write_some.new.register c.requires.written.0 c.args.value.now c.write_some.new.run c.in-Some.cut.0 c.in-Some.cut.1
      (c.write_some.ensures.writing c.requires.written.0 (begun c.args.register.now c.requires.written.0 c.args.value.now c.args.width c.new-run.result c.new-run.ensures c.requires.shape c.requires.written.1)) (sym c.torn.ensures ∙ c.in-Some.is)),
)
