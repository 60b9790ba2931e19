use Rattle.std.proofs.Common.{◌+◌, ◌-◌, ◌*◌, ℕ, set, ap, ◌∙◌, arith}
use Rattle.std.proofs.lemmas.List.{length-set}
use Rattle.reader_copies.specs.{bit_of_words}
use Rattle.registers.proofs.WordBytes.{word-put}
use Rattle.registers.proofs.word_bytes.words_of.Goals as goal

pub loop-place-preserved : goal.loop-place-preserved
loop-place-preserved c =
    let place : ℕ = c.loop-place.place in
    let words = c.loop-place.words in (
      length-set words place c.number_of.result ∙ c.loop-place.invariant.0,
      λ k below. ap (λ w. bit_of_words (set words place w) k) c.number_of.ensures
          ∙ word-put c.args.bytes.now words place (8 * place + 8 - 8 * place) c.loop-place.invariant.0 c.loop-place-test.true (omega arith) c.fits-bytes c.loop-place.invariant.1 k below,
    )
