use Rattle.std.proofs.Common.{ℕ, sym, subst}
use Rattle.reader_copies.specs.{IsMask}
use Rattle.reader_copies.proofs.Masks.{mask-of, mask-word}
use Rattle.reader_copies.proofs.flag_words.mask.Goals as goal

pub returns : goal.returns
returns c = let P : ℕ → Type 0 = λ m. IsMask c.args.from c.args.n m in subst P (sym (mask-word c.args.from c.args.n c.requires.1)) (mask-of c.args.from c.args.n)
