use Rattle.std.proofs.Common.{ℕ, List, [], ◌∷◌, ◌++◌, Bor, not, ap, sym, ◌∙◌}
use Rattle.files.specs.{texts, words_of}
use Rattle.files.proofs.FoundWords.{fewer_remaining, none_more, one_more}
use Rattle.files.proofs.words.add_words.Goals as goal

-- one word more
pub words-preserved-in_ok-push : goal.words-preserved-in_ok-push
words-preserved-in_ok-push c =
    let cut = c.cut_at_blank in
    ap (λ (ws : List (Bor (List ℕ))). texts ws ++ words_of cut.result.1.now) c.in_ok-push.ensures.ok
    ∙ (ap (λ (l : List ℕ). texts (c.words.words.items ++ cut.result.0 ∷ []) ++ words_of l) cut.ensures.behind
    ∙ (one_more c.words.words.items cut.result.0 c.words.rest.now cut.ensures.before (ap not (sym c.if-not-is_empty.ensures)) ∙ c.words.invariant))

-- no word more
pub words-preserved : goal.words-preserved
words-preserved c =
    let cut = c.cut_at_blank in
    let before = texts c.words.words.items in
    ap (λ (l : List ℕ). before ++ words_of l) cut.ensures.behind
    ∙ (ap (λ (ws : List (List ℕ)). before ++ ws) (none_more cut.result.0.now c.words.rest.now cut.ensures.before (ap not (sym c.if-not-is_empty.ensures))) ∙ c.words.invariant)

-- fewer bytes remain
pub words-smaller-in_ok-push : goal.words-smaller-in_ok-push
words-smaller-in_ok-push c = fewer_remaining c.words.rest.now c.cut_at_blank.result.1.now c.words-test.ensures c.cut_at_blank.ensures.behind

pub words-smaller : goal.words-smaller
words-smaller c = fewer_remaining c.words.rest.now c.cut_at_blank.result.1.now c.words-test.ensures c.cut_at_blank.ensures.behind
