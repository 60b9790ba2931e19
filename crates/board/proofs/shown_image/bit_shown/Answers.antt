use Rattle.std.proofs.Common.{◌==◌, sym, ap, ◌∙◌, arith}
use Rattle.std.specs.Prelude.{slice_index}
use Rattle.model.specs.{copy}
use Rattle.board.proofs.ShownBits.{bit-at, word_at}
use Rattle.board.proofs.WordNumbers.{word_below}
use Rattle.board.proofs.shown_image.bit_shown.Goals as goal

pub word-requires : goal.word-requires
word-requires c =
    let low = word_below c.args.setup.now (copy c.args.register.owner c.args.register.field 0 c.args.bit) (record { owner = c.requires.owner; reader = omega (arith, c.requires.owner); bit = c.requires.bit }) in
    (omega (arith, low, c.word_of.ensures.word, c.requires.words.0), c.requires.words.1)

pub returns : goal.returns
returns c =
    let words = c.args.words.now.words.items in
    ap (λ w. w == 1) (sym (word_at words c.word_of.result c.word.result c.word.ensures) ∙ ap (slice_index words) c.word_of.ensures.word)
    ∙ sym (bit-at c.args.setup.now words c.args.register.owner c.args.register.field c.args.bit c.requires.bit)
