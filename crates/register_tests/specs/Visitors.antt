-- A process that a caller drives: what is known of its parts at each stage.
use Rattle.std.specs.Prelude.{◌≡◌, ◌<◌, ℕ, Ok, true}
use Rattle.plain_store.specs.{Setup, checked}
use Rattle.bakery.specs.process.{ProcessState, may_step}
use Rattle.bakery.specs.Doors as door
use Rattle.bakery.specs.Sections as section
use Rattle.model.specs.{Stage}
use Rattle.model.specs.declared.stages.Stage.TheVariants as stage

-- the part that works at a stage has a next access
abbrev pub IsAt : Stage → (door section leaving unit : ProcessState) → Type 0
IsAt stage.Doorway d s l u = door.is_going d ≡ true
IsAt stage.Waiting d s l u = (door.is_going d ≡ true) × (door.is_waiting d ≡ true)
IsAt stage.Inside d s l u = section.is_going s ≡ true
IsAt stage.Leaving d s l u = may_step l.doing ≡ true
IsAt stage.Settling d s l u = may_step u.doing ≡ true
IsAt _ d s l u = Unit {0}

-- all parts are of one good setup and of one of its processes
pub record IsVisitor (s : Setup) (p : ℕ) (at : Stage) (d section leaving unit : ProcessState) : Type 0 where
  pub good : checked s ≡ Ok tt
  pub process : p < s.processes
  pub door_setup : d.setup ≡ s
  pub section_setup : section.setup ≡ s
  pub leaving_setup : leaving.setup ≡ s
  pub unit_setup : unit.setup ≡ s
  pub works : IsAt at d section leaving unit

-- the stage of a process after an access of its door
abbrev pub DoorLeads : Stage → ProcessState → Type 0
DoorLeads stage.Idle d = Unit {0}
DoorLeads stage.Doorway d = door.is_going d ≡ true
DoorLeads stage.Waiting d = (door.is_going d ≡ true) × (door.is_waiting d ≡ true)
DoorLeads stage.Inside d = Unit {0}
DoorLeads _ d = ⊥
