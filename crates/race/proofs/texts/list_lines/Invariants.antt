use Rattle.std.proofs.Common.{◌≡◌, take}
use Rattle.std.specs.String.{string_bytes}
use Rattle.race.specs.{list_text}
use Rattle.race.proofs.texts.list_lines.Given as goal

-- the text for the calls before the present one
abbrev pub invariant-loop-call : goal.invariant-loop-call
invariant-loop-call l = string_bytes l.text ≡ list_text l.process (take l.call-index l.calls)
