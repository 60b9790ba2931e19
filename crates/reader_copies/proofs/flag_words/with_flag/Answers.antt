use Rattle.std.proofs.Common.{ap, cond, ◌∙◌}
use Rattle.reader_copies.specs.{flag_in}
use Rattle.reader_copies.proofs.flag_words.with_flag.Goals as goal

pub returns : goal.returns
returns c =
    let flags = c.all_flags.result in
    let word = c.args.word in
    record {
      same = c.choose.ensures c.args.k ∙ ap (λ b. cond b (flag_in flags c.args.k) (flag_in word c.args.k)) c.one_flag.ensures.set ∙ c.all_flags.ensures c.args.k c.requires;
      others = λ i below apart. c.choose.ensures i ∙ ap (λ b. cond b (flag_in flags i) (flag_in word i)) (c.one_flag.ensures.nowhere_else i apart);
    }
