use Rattle.std.proofs.Common.{◌∙◌, ap, ◌+◌, ◌-◌, ◌%◌}
use Rattle.reader_copies.specs.{flag_in}
use Rattle.reader_copies.proofs.Flags.{flag-all}
use Rattle.reader_copies.proofs.flag_words.all_flags.Goals as goal

pub returns : goal.returns
returns c = λ i below. ap (λ n. flag_in ((0 + (18446744073709551616 - n)) % 18446744073709551616) i) c.from.ensures ∙ flag-all c.args.flag i below
