-- The content of an access, with lists for its fields.
use Rattle.std.specs.Prelude.{ℕ, Bool, List, Option, option_map}
use Rattle.picture_layout.specs.declared.accesses.AccessKind.{AccessKind}
use Rattle.picture_layout.specs.declared.accesses.AccessStep.{AccessStep}
use Rattle.picture_layout.specs.declared.accesses.ShownAccess.{ShownAccess}
use Rattle.picture_layout.specs.declared.accesses.WaveChange.{WaveChange}

-- the change of a wave
pub record GivenChange : Type 0 where
  pub row : ℕ
  pub name : List ℕ
  pub old : List ℕ
  pub value : List ℕ
  pub was_open : Bool
  pub is_open : Bool

abbrev pub given_change : WaveChange → GivenChange
given_change change = record { row = change.row; name = change.name.items; old = change.old.items; value = change.value.items; was_open = change.was_open; is_open = change.is_open }

-- the part of an access that an entry makes
pub record GivenAccess : Type 0 where
  pub event : ℕ
  pub process : ℕ
  pub kind : AccessKind
  pub step : AccessStep
  pub begin : ℕ
  pub words : List ℕ
  pub cell : List ℕ
  pub overlaps : List Bool
  pub change : Option GivenChange

abbrev pub given_access : ShownAccess → GivenAccess
given_access access = record {
  event = access.event;
  process = access.process;
  kind = access.kind;
  step = access.step;
  begin = access.begin;
  words = access.words.items;
  cell = access.cell.items;
  overlaps = access.overlaps;
  change = option_map given_change access.change;
}
