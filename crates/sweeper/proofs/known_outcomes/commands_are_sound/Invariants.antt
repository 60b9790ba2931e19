use Rattle.std.proofs.Common.{◌≡◌, true, take}
use Rattle.sweeper.specs.{are_commands}
use Rattle.sweeper.proofs.known_outcomes.commands_are_sound.Given as goal

-- the commands before the present one are in range
abbrev pub invariant-loop-command : goal.invariant-loop-command
invariant-loop-command l = are_commands (take l.command-index l.calls) ≡ true
