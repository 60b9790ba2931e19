use Rattle.std.proofs.Common.{◌≡◌, take}
use Rattle.std.specs.String.{string_bytes}
use Rattle.race.specs.{refused_lines}
use Rattle.race.proofs.texts.refused_lines.Given as goal

-- the text for the lines before the present one
abbrev pub invariant-loop-line : goal.invariant-loop-line
invariant-loop-line l = string_bytes l.text ≡ refused_lines l.setup (take l.line-index l.lines)
