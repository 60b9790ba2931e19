use Rattle.std.proofs.Common.{◌-◌, drop, ap, ◌∙◌, arith}
use Rattle.record_file.proofs.Fronts.{word_put}
use Rattle.record_file.proofs.steps.put_word.Goals as goal
use borrow.Rule.Slice.PartMut.{put_mid}

pub returns-clause-line : goal.returns-clause-line
returns-clause-line c =
    let end = c.args.end in
    ap (λ word. drop (end - c.args.count) (put_mid (end - 16) (end - (end - 16)) c.args.line.now word)) c.copy_from_slice.ensures.after
    ∙ word_put c.args.line.now c.args.word.now end c.args.count (omega arith) (omega arith) (omega arith) (omega arith)
