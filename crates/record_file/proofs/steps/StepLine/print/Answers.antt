use Rattle.std.proofs.Common.{arith}
use Rattle.std.proofs.lemmas.List.{drop_all}
use Rattle.record_file.proofs.Printed.{step_is}
use Rattle.record_file.proofs.steps.StepLine.print.Goals as goal

pub returns : goal.returns
returns c = rw (c.put_words-self-inside.ensures.line, c.put_byte-end.ensures.line, drop_all 64 c.self.inside.bytes (omega arith)) (step_is c.args.process c.args.access)
