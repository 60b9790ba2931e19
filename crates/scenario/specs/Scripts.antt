-- Which scripts a scenario can be.
use Rattle.std.specs.Prelude.{◌≡◌, ◌≤◌, ◌^◌, Bool, true, nat_lt, ◌&&◌, length, Ok}
use Rattle.std.specs.List.{list_all}
use Rattle.plain_store.specs.{checked, is_command, is_pair, names_differ}
use Rattle.scenario.specs.Reading.{Script}
use Rattle.scenario.specs.Statements.{is_line_of}
use Rattle.choices.specs.{Flick}
use Rattle.choices.specs.declared.Flick.TheVariants as flick
use Rattle.scenario.specs.declared.lines.Line.{Line}
use Rattle.scenario.specs.declared.lines.Line.TheVariants as line

-- a seed has 64 bits
abbrev pub is_flick : Flick → Bool
is_flick flick.Zero = true
is_flick flick.One = true
is_flick (flick.Pcg seed) = nat_lt seed (2 ^ 64)

-- the number of a process has 8 bits, and the operands are as they should be
abbrev pub is_line : Line → Bool
is_line (line.Call p command) = nat_lt p 256 && is_command command
is_line (line.Step p n) = nat_lt p 256
is_line (line.Go p target) = nat_lt p 256
is_line (line.Fail p) = nat_lt p 256
is_line (line.Withdraw p) = nat_lt p 256
is_line (line.Restart p) = nat_lt p 256
is_line (line.Flick flick) = is_flick flick
is_line (line.Wander n) = true
is_line line.Show = true

-- The setup is good, the opening pairs have different names, and there are at most 4,000 lines, which the version has.
pub record IsScenario (s : Script) : Type 0 where
  pub good : checked s.setup ≡ Ok tt
  pub pairs : list_all is_pair s.setup.opening ≡ true
  pub differ : names_differ s.setup.opening ≡ true
  pub few : length s.lines ≤ 4000
  pub lines : list_all is_line s.lines ≡ true
  pub allowed : list_all (is_line_of s.setup.version) s.lines ≡ true
