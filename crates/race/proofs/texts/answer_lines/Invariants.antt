use Rattle.std.proofs.Common.{◌≡◌, take}
use Rattle.std.specs.String.{string_bytes}
use Rattle.model.specs.{lists_of}
use Rattle.race.specs.{answers_from}
use Rattle.race.proofs.texts.answer_lines.Given as goal

-- the answers of the lists before the present one
abbrev pub invariant-loop-process : goal.invariant-loop-process
invariant-loop-process l = string_bytes l.text ≡ answers_from 0 (lists_of (take l.process l.lists))
