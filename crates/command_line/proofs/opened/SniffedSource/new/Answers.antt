use Rattle.std.proofs.Common.{◌≡◌, ◌<◌, ◌∙◌, ◌++◌, ap, length, subst, ℕ, List}
use Rattle.files.specs.{input_limit}
use Rattle.command_line.specs.{first_word}
use Rattle.command_line.proofs.Opening.{fewer_remaining, reported_front, reported_whole}
use Rattle.command_line.proofs.opened.SniffedSource.new.Goals as goal
use Rattle.command_line.proofs.opened.SniffedSource.new.Goals.{then-blocks-2-test+in_ok-reports_now+else-not-branch, else-blocks-2-test}

pub blocks-2-smaller : goal.blocks-2-smaller
blocks-2-smaller g c =
    let few = subst (λ (l : List ℕ). length l < input_limit) c.as_slice.ensures.value (c.in_ok-reports_now.ensures.not_yet c.if-not-branch.true) in
    fewer_remaining (length c.blocks-2.front.items) (length c.look.new.front.items) c.blocks-2.some c.in_ok-some.some c.blocks-2-test.true few c.in_ok-some.ensures.more

pub returns-clause-word : goal.returns-clause-word
returns-clause-word g c =
    let front = c.blocks-2.front.items in
    let is = c.in_ok-word_of_front.ensures.value ∙ ap first_word c.as_slice-2.ensures.value in
    elim c.blocks-2-test.branch [
      | then-blocks-2-test+in_ok-reports_now+else-not-branch w ↦ reported_front (g.R.Source.to_come c.args.unseen) (g.R.Source.to_come c.blocks-2.source) front c.in_ok-word_of_front.field-0 is c.blocks-2.invariant.bytes (subst (λ (l : List ℕ). (rest : List ℕ) → first_word (l ++ rest) ≡ first_word l) w.as_slice.ensures.value (w.in_ok-reports_now.ensures.reported w.if-not-branch.false))
      | else-blocks-2-test w ↦ reported_whole (g.R.Source.to_come c.args.unseen) (g.R.Source.to_come c.blocks-2.source) front c.in_ok-word_of_front.field-0 is c.blocks-2.invariant.bytes (c.blocks-2.invariant.end w.blocks-2-test.false)
    ]
