use Rattle.std.proofs.Common.{◌∙◌, ap, rules}
use Rattle.std.specs.Prelude.{slice_index}
use Rattle.board.proofs.Seats.{some_processes, starts}
use Rattle.board.proofs.board.opened.Goals as goal

pub of_words-requires : goal.of_words-requires
of_words-requires c =
    let s = c.args.setup.now in
    starts s _ c.requires c.pairs_are_sound.ensures (some_processes s c.requires) (search rules)
    (λ word below. ap (λ ws. slice_index ws word) c.as_slice.ensures.value ∙ c.in_ok-words.ensures.words word below)
