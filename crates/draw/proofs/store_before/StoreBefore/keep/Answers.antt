use Rattle.std.proofs.Common.{◌≤◌, ℕ, subst, sym, ◌∙◌}
use Rattle.draw.proofs.StoresBefore.{due_now, keeps_now, was_kept}
use Rattle.draw.proofs.Written.{ok_then, ok_then_both}
use Rattle.draw.proofs.store_before.StoreBefore.keep.Goals as goal

pub returns-then-not-is_due-clause-before : goal.returns-then-not-is_due-clause-before
returns-then-not-is_due-clause-before c = λ w s past after number before. before

pub returns-then-not-is_due-clause-kept : goal.returns-then-not-is_due-clause-kept
returns-then-not-is_due-clause-kept c =
    let b = c.args.self.now in
    was_kept b.is_kept b.from c.args.entries (sym c.is_due.ensures ∙ c.if-not-is_due.true)

pub returns-clause-before : goal.returns-clause-before
returns-clause-before c =
    let b = c.args.self.now in
    let due = due_now b.is_kept b.from c.args.entries (sym c.is_due.ensures ∙ c.if-not-is_due.false) in
    ok_then_both c.keep_words.result
    (λ kept words w s past after number before.
    keeps_now w s past c.args.store.now b c.keep_words.new.self due.0 (subst (λ (n : ℕ). b.from ≤ n) number due.1) after c.keep_words.ensures.from kept words before)
    c.keep_words.ensures.kept c.keep_words.ensures.words

pub returns-clause-kept : goal.returns-clause-kept
returns-clause-kept c = ok_then c.keep_words.result (λ kept many. kept) c.keep_words.ensures.kept
