use Rattle.std.proofs.Common.{ℕ, List, ◌++◌, ap, sym, ◌∙◌, take}
use Rattle.std.specs.String.{string_bytes}
use Rattle.model.specs.{lists_of}
use Rattle.race.specs.{answers_from, list_text}
use Rattle.race.proofs.Parts.{answers_more, pushed}
use Rattle.race.proofs.texts.answer_lines.Goals as goal

pub loop-process-preserved : goal.loop-process-preserved
loop-process-preserved c =
    let p : ℕ = c.loop-process.process in
    let before : List ℕ = answers_from 0 (lists_of (take p c.args.lists.now)) in
    pushed c.list_lines.result (string_bytes c.loop-process.text) (string_bytes c.push_text.new.text) (list_text p c.deref.result.now) c.in_ok-push_text.ensures c.list_lines.ensures
    ∙ ap (λ t. t ++ list_text p c.deref.result.now) c.loop-process.invariant ∙ ap (λ calls. before ++ list_text p calls) c.deref.ensures.value
    ∙ sym (answers_more c.args.lists.now p c.index-lists-process.result c.loop-process-test.true c.index-lists-process.is)
