use Rattle.std.proofs.Common.{sym, ◌∙◌}
use Rattle.draw.proofs.StoresBefore.{words_kept, words_now}
use Rattle.draw.proofs.Written.{if_ok_then}
use Rattle.draw.proofs.store_before.StoreBefore.words.Goals as goal

pub returns-then-not-has_words : goal.returns-then-not-has_words
returns-then-not-has_words c =
    if_ok_then c.store_words.result
    (λ words is w s past after before. is ∙ words_now w s past c.args.store.now c.args.self.now (sym c.has_words.ensures ∙ c.if-not-has_words.true) after before)
    c.store_words.ensures

pub returns : goal.returns
returns c =
    if_ok_then c.copied.result
    (λ words is w s past after before. is ∙ words_kept w s past c.args.self.now (sym c.has_words.ensures ∙ c.if-not-has_words.false) before)
    c.copied.ensures
