use Rattle.std.proofs.Common.{arith, append-nil}
use Rattle.std.proofs.lemmas.List.{drop_all}
use Rattle.record_file.proofs.steps.StepLine.print_words.Goals as goal

pub returns : goal.returns
returns c = rw (c.put_words-self-inside.ensures.line, drop_all 64 c.self.inside.bytes (omega arith)) (append-nil _)
