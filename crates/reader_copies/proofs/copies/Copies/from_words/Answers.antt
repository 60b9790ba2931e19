use Rattle.std.proofs.Common.{◌++◌, ◌∷◌, [], ℕ, get_or, length, ap, sym, ◌∙◌, arith}
use Rattle.std.proofs.lemmas.List.FromFn.{length-map-range_with_len, map-range_with_len_more}
use Rattle.reader_copies.specs.{open_flags}
use Rattle.reader_copies.proofs.Cells.{cells-open}
use Rattle.reader_copies.proofs.copies.Copies.from_words.Goals as goal

pub loop-place-preserved : goal.loop-place-preserved
loop-place-preserved c =
    c.in_ok-push.ensures.items ∙ (λ i. c.loop-place.invariant i ++ c.from_word.ensures i ∷ [])
    ∙ sym (map-range_with_len_more (λ p. open_flags (get_or c.args.words.now p 0)) 0 c.loop-place.place c.loop-place.place (omega arith))

pub invariant_of-result : goal.invariant_of-result
invariant_of-result c =
    ap length c.loop-place.invariant ∙ length-map-range_with_len (λ (p : ℕ). open_flags (get_or c.args.words.now p 0)) 0 c.loop-place.place
    ∙ omega (arith, c.loop-place.auto.place-end, c.loop-place-test.false, c.div_ceil-place-end.ensures)

pub returns : goal.returns
returns c = cells-open c.loop-place.flags.items c.args.words.now c.loop-place.place c.args.width c.loop-place.invariant (omega (arith, c.loop-place-test.false, c.div_ceil-place-end.ensures))
