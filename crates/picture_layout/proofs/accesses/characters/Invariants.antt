use Rattle.std.proofs.Common.{◌≡◌, ◌+◌, ◌≤◌, drop}
use Rattle.picture_layout.specs.{characters_of}
use Rattle.picture_layout.proofs.accesses.characters.Given as goal

-- the characters before the present byte, and those from there on
abbrev pub invariant-loop-byte : goal.invariant-loop-byte
invariant-loop-byte l = (characters_of l.text ≡ l.count + characters_of (drop l.byte-index l.text)) × (l.count ≤ l.byte-index)
