use Rattle.std.proofs.Common.{◌≡◌, ℕ, Bool, sym, ap, ◌∙◌}
use Rattle.process.proofs.EventOutcomes.{width-stamp}
use Rattle.model.specs.{Field, stamp_field}
use Rattle.board.specs.Closings.{number_shown}
use Rattle.board.proofs.ShownBits.{version_is}
use Rattle.board.proofs.shown_image.version_shown.Goals as goal
use Rattle.board.proofs.shown_image.version_shown.Goals.{else-commit, then-commit}

pub returns : goal.returns
returns c =
    let s = c.args.setup.now in
    let words = c.args.words.now.words.items in
    let commit : Bool = c.bit_shown-commit.result in
    let bits : ℕ = c.from-bits.result in
    let stamp : c.if-commit.stamp ≡ stamp_field commit =
    elim c.if-commit.branch [
      | then-commit w ↦ w.stamp-is ∙ sym (ap stamp_field w.if-commit.true)
      | else-commit w ↦ w.stamp-is ∙ sym (ap stamp_field w.if-commit.false)
    ] in
    version_is s words c.args.owner c.number_shown.result bits commit c.bit_shown-commit.ensures
    (c.number_shown.ensures ∙ ap (λ (f : Field). number_shown s words c.args.owner f 0 bits) stamp)
    (c.from-bits.ensures ∙ sym (width-stamp s commit))
