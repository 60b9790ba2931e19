use Rattle.std.proofs.Common.{ℕ, List, [], ◌∷◌, not, ap, sym, ◌∙◌}
use Rattle.files.specs.{words_of}
use Rattle.files.proofs.FoundWords.{one_more}
use Rattle.trace_file.proofs.lines.next_word.Goals as goal

pub returns-then-not-is_empty-clause-value : goal.returns-then-not-is_empty-clause-value
returns-then-not-is_empty-clause-value c =
    let cut = c.cut_at_blank in
    sym c.words.invariant.same
    ∙ sym (one_more [] cut.result.0 c.words.rest.now cut.ensures.before (ap not (sym c.if-not-is_empty.ensures)))
    ∙ ap (λ (l : List ℕ). cut.result.0.now ∷ words_of l) (sym cut.ensures.behind)
