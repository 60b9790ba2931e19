use Rattle.std.proofs.Common.{ℕ, ◌+◌, ◌*◌, ◌++◌, ◌∷◌, [], take, drop, set, sym, ap, ◌∙◌, arith}
use Rattle.std.proofs.lemmas.List.{take_more_set, length-set}
use Rattle.model.specs.{bytes_of_bits}
use Rattle.board.specs.{bits_shown}
use Rattle.board.proofs.ShownBits.{bytes-more, number-below}
use Rattle.board.proofs.shown_image.bytes_of.Goals as goal

pub overflow_cast-bytes : goal.overflow_cast-bytes
overflow_cast-bytes c = omega (arith, c.number_shown.ensures, number-below (drop (8 * c.loop-k.k) (bits_shown c.args.setup.now c.args.words.now.words.items c.args.register.owner c.args.register.field)) 8)

pub loop-k-preserved : goal.loop-k-preserved
loop-k-preserved c =
    let l = c.loop-k in
    let values = bits_shown c.args.setup.now c.args.words.now.words.items c.args.register.owner c.args.register.field in
    let byte : ℕ = c.number_shown.result in (
      ap (λ i. take (l.k + 1) (set l.bytes i byte)) c.from.ensures
          ∙ take_more_set l.bytes l.k byte (omega (arith, l.invariant.1, c.loop-k-test.true, c.requires.bounded))
          ∙ ap (λ xs. xs ++ byte ∷ []) l.invariant.0
          ∙ ap (λ b. bytes_of_bits l.k values ++ b ∷ []) c.number_shown.ensures
          ∙ sym (bytes-more l.k values),
      omega (arith, length-set {A = ℕ}, l.invariant.1),
    )
